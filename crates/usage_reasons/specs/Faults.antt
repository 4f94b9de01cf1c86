-- What is wrong with the words of a call.
use Rattle.std.specs.Prelude.{ℕ, Bool, true, false, not, ◌&&◌, ◌||◌, bytes_eq, if◌then◌else◌, List, [], ◌∷◌, ◌++◌, codes, Option, Some, None, is_some}
use Rattle.std.specs.Prelude.{Result, Ok, Err}
use Rattle.option_values.specs.Values.{Text, nodes_rule, number_by, watch_by, demo_size}
use Rattle.option_values.specs.Runs.{kill_in}
use Rattle.option_values.specs.Places.{places_by}
use Rattle.option_values.specs.Seeds.{seeds_by}
use Rattle.usage_reasons.specs.declared.table.Command.{Command}
use Rattle.usage_reasons.specs.declared.table.Command.TheVariants.{Run, Demo}
use Rattle.usage_reasons.specs.declared.table.Quantity.{Quantity}
use Rattle.usage_reasons.specs.declared.table.Quantity.TheVariants.{Nodes, Seed}
use Rattle.usage_reasons.specs.declared.table.Key.{Key}
use Rattle.usage_reasons.specs.declared.table.Key.TheVariants.{Number, Watch, Kill, Order, Only, Seeds}
use Rattle.usage_reasons.specs.Table.{command_by, files_of, flags_of, order_names, rule_of}
use Rattle.usage_reasons.specs.Words.{begins, is_short, is_help, is_among, option_in, value_in, key_in, is_given, first_given}

-- what is wrong: no word is there; the first is no command; a word asks for help among others; the command has no such option; an option
-- has no value, or a flag has one; an option stands twice; the value isn't the option's number, no address, no switch that dies on so
-- many nodes, no size of a demonstration, no order of turns, no places of events, or no range of seeds; a word that must be there is lacking; a word is one
-- too many; two options that don't stand together; places without the states that are shown of them; a range of seeds without an
-- order of turns; or nothing that is looked for here
pub data Fault : Type 0 where
  NoCommand : Fault
  UnknownCommand : Text → Fault
  HelpAmong : Text → Fault
  UnknownOption : Command → Text → Fault
  ValueLacking : Key → Fault
  ValueUnwanted : Text → Fault
  Twice : Text → Fault
  BadNumber : Quantity → Text → Fault
  BadAddress : Text → Fault
  BadKill : ℕ → Text → Fault
  BadSize : Text → Fault
  BadOrder : Text → Fault
  BadPlaces : Text → Fault
  BadSeeds : Text → Fault
  Lacking : Command → Text → Fault
  OneTooMany : Command → Text → Fault
  Together : Text → Text → Fault
  PlacesAlone : Fault
  OrderLacking : Fault
  Other : Fault

-- what has been read of a command's words: the option whose value the next word is, the files that are still to come, whether `--` was
-- met, behind which all words are files, the texts of the nodes and of the switch that dies, whether places and states are asked for, which trace,
-- journal or accesses are, and whether a range of seeds is, one seed, and an order of turns
pub record Read : Type 0 where
  pub waiting : Option Key
  pub wanted : List Text
  pub only_files : Bool
  pub nodes : Option Text
  pub kill : Option Text
  pub places : Bool
  pub states : Bool
  pub shown : Option Text
  pub seeds : Bool
  pub seeded : Bool
  pub ordered : Bool

abbrev pub first_read : Command → Read
first_read command = record {
  waiting = None;
  wanted = files_of command;
  only_files = false;
  nodes = None;
  kill = None;
  places = false;
  states = false;
  shown = None;
  seeds = false;
  seeded = false;
  ordered = false;
}

abbrev pub no_such_command : Text → Fault
no_such_command word = if is_help word then HelpAmong word else UnknownCommand word

abbrev pub no_such_option : Command → Text → Fault
no_such_option command option = if is_help option then HelpAmong option else UnknownOption command option

-- whether a size is wanted and the word is none
abbrev pub is_bad_size : Command → Text → Bool
is_bad_size Demo word = not (is_some (demo_size word))
is_bad_size _ word = false

abbrev pub file_by : List Text → Command → Read → Text → Result Read Fault
file_by [] command r word = Err (OneTooMany command word)
file_by (file ∷ rest) command r word = if is_bad_size command word then Err (BadSize word) else Ok (record r { wanted = rest })

-- what a word does that is a file's name, or the size of a demonstration
unfoldable pub with_file : Command → Read → Text → Result Read Fault
with_file command r word = file_by r.wanted command r word

abbrev pub read_with : Quantity → Read → Text → Read
read_with Nodes r value = record r { nodes = Some value }
read_with Seed r value = record r { seeded = true }
read_with _ r value = r

unfoldable pub with_number : Quantity → Read → Text → Result Read Fault
with_number quantity r value =
    if is_some (number_by (rule_of quantity) (Some value)) then Ok (read_with quantity r value) else Err (BadNumber quantity value)

unfoldable pub with_address : Read → Text → Result Read Fault
with_address r value = if is_some (watch_by (Some value)) then Ok r else Err (BadAddress value)

unfoldable pub with_order : Read → Text → Result Read Fault
with_order r value =
    if is_among order_names value then Ok (record r { ordered = not (bytes_eq value (codes "threads")) }) else Err (BadOrder value)

unfoldable pub with_places : Read → Text → Result Read Fault
with_places r value = if is_some (places_by (Some value)) then Ok (record r { places = true }) else Err (BadPlaces value)

unfoldable pub with_seeds : Read → Text → Result Read Fault
with_seeds r value = if is_some (seeds_by (Some value)) then Ok (record r { seeds = true }) else Err (BadSeeds value)

-- what an option's value does; a switch that dies is looked at when the number of nodes is known
abbrev pub with_value : Key → Read → Text → Result Read Fault
with_value (Number quantity) r value = with_number quantity r value
with_value Watch r value = with_address r value
with_value Kill r value = Ok (record r { kill = Some value })
with_value Order r value = with_order r value
with_value Only r value = with_places r value
with_value Seeds r value = with_seeds r value

abbrev pub with_key : Key → Read → Option Text → Result Read Fault
with_key key r None = Ok (record r { waiting = Some key })
with_key key r (Some value) = with_value key r value

-- what is noted of a flag
abbrev pub report_read : Read → Text → Read
report_read r option =
    if bytes_eq option (codes "--states") then record r { states = true }
    else if bytes_eq option (codes "--trace") then record r { shown = Some option }
    else if bytes_eq option (codes "--journal") then record r { shown = Some option }
    else if bytes_eq option (codes "--accesses") then record r { shown = Some option }
    else r

-- what a flag does beside another of the command's, if one was given: only one report is had
abbrev pub flag_beside : Option Text → Read → Text → Result Read Fault
flag_beside (Some other) r option = Err (Together other option)
flag_beside None r option = Ok (report_read r option)

-- what an option does that takes no value, if it is the command's
unfoldable pub with_flag : Command → List Text → Read → Text → Result Read Fault
with_flag command earlier r word =
    if not (is_among (flags_of command) (option_in word)) then Err (no_such_option command (option_in word))
    else if is_some (value_in word) then Err (ValueUnwanted word)
    else if is_given (option_in word) earlier then Err (Twice (option_in word))
    else flag_beside (first_given (flags_of command) earlier) r (option_in word)

abbrev pub option_by : Option Key → Command → List Text → Read → Text → Result Read Fault
option_by None command earlier r word = with_flag command earlier r word
option_by (Some key) command earlier r word =
    if is_given (option_in word) earlier then Err (Twice (option_in word)) else with_key key r (value_in word)

-- what `--name` or `--name=value` does
unfoldable pub with_option : Command → List Text → Read → Text → Result Read Fault
with_option command earlier r word = option_by (key_in command (option_in word)) command earlier r word

-- what a word does that is no option's value
unfoldable pub with_word : Command → List Text → Read → Text → Result Read Fault
with_word command earlier r word =
    if bytes_eq word (codes "--") then Ok (record r { only_files = true })
    else if begins (codes "--") word then with_option command earlier r word
    else if is_short word then Err (no_such_option command word)
    else with_file command r word

abbrev pub word_by : Option Key → Command → List Text → Read → Text → Result Read Fault
word_by None command earlier r word = with_word command earlier r word
word_by (Some key) command earlier r word =
    if begins (codes "--") word then Err (ValueLacking key) else with_value key (record r { waiting = None }) word

-- what a word does behind the earlier ones
unfoldable pub step : Command → List Text → Read → Text → Result Read Fault
step command earlier r word = if r.only_files then with_file command r word else word_by r.waiting command earlier r word

unfoldable pub kill_on : ℕ → Text → Fault
kill_on nodes kill = if is_some (kill_in nodes kill) then Other else BadKill nodes kill

abbrev pub kill_by_nodes : Option ℕ → Text → Fault
kill_by_nodes None kill = Other
kill_by_nodes (Some nodes) kill = kill_on nodes kill

-- what is wrong with a switch that dies, by the text of the number of nodes
abbrev pub kill_fault : Option Text → Text → Fault
kill_fault nodes kill = kill_by_nodes (number_by nodes_rule nodes) kill

-- what is wrong with a switch that dies, where one does
abbrev pub end_by_kill : Option Text → Read → Fault
end_by_kill None r = Other
end_by_kill (Some kill) r = kill_fault r.nodes kill

-- places stand with states alone
abbrev pub end_by_places : Read → Fault
end_by_places r = if r.places && not r.states then PlacesAlone else end_by_kill r.kill r

-- a range of seeds is had in an order
abbrev pub end_by_order : Read → Fault
end_by_order r = if r.seeds && not r.ordered then OrderLacking else end_by_places r

-- and beside the summary alone, and not beside one seed
abbrev pub shown_beside : Option Text → Read → Fault
shown_beside (Some flag) r = Together flag (codes "--seeds")
shown_beside None r = end_by_order r

abbrev pub end_of_run : Read → Fault
end_of_run r =
    if r.seeds && r.seeded then Together (codes "--seed") (codes "--seeds")
    else if r.seeds then shown_beside r.shown r else end_by_order r

abbrev pub end_by_command : Command → Read → Fault
end_by_command Run r = end_of_run r
end_by_command command r = end_by_places r

abbrev pub end_by_files : List Text → Command → Read → Fault
end_by_files [] command r = end_by_command command r
end_by_files (file ∷ rest) command r = Lacking command file

abbrev pub end_by : Option Key → Command → Read → Fault
end_by None command r = end_by_files r.wanted command r
end_by (Some key) command r = ValueLacking key

-- what is wrong behind the last word
unfoldable pub at_end : Command → Read → Fault
at_end command r = end_by r.waiting command r

abbrev pub unless_fault : Result Read Fault → (Read → Fault) → Fault
unless_fault (Ok r) next = next r
unless_fault (Err fault) next = fault

-- what is wrong with the words that follow the earlier ones: the first fault decides
abbrev pub fault_from : Command → List Text → Read → List Text → Fault
fault_from command earlier r [] = at_end command r
fault_from command earlier r (word ∷ words) =
    unless_fault (step command earlier r word) (λ next. fault_from command (earlier ++ word ∷ []) next words)

abbrev pub fault_by : Option Command → List Text → Text → Fault
fault_by None words first = no_such_command first
fault_by (Some command) words first = fault_from command [] (first_read command) words

-- what is wrong with the words behind the first
abbrev pub fault_behind : List Text → Text → Fault
fault_behind words first = fault_by (command_by first) words first

-- what is wrong with the words, of which the first is the program's own name
abbrev pub fault_of : List Text → Fault
fault_of [] = NoCommand
fault_of (program ∷ []) = NoCommand
fault_of (program ∷ first ∷ words) = fault_behind words first
