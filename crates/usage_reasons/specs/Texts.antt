-- The text of each fault.
use Rattle.std.specs.Prelude.{ℕ, ◌-◌, nat_eq, nat_lt, if◌then◌else◌, List, [], ◌∷◌, ◌++◌, length, take, codes, decimal}
use Rattle.std.specs.Prelude.{Option, Some, None}
use Rattle.std.specs.Option.{option_or}
use Rattle.sn_base.specs.declared.limits.TheConstants.{RAM_START, RAM_END}
use Rattle.text_lines.specs.Hex.{hex_word}
use Rattle.reasons.specs.Reason.{escaped_text}
use Rattle.reasons.specs.Near.{nearest}
use Rattle.option_values.specs.Values.{Text}
use Rattle.usage_reasons.specs.declared.table.Command.{Command}
use Rattle.usage_reasons.specs.declared.table.Quantity.{Quantity}
use Rattle.usage_reasons.specs.declared.table.Quantity.TheVariants.{Nodes, Sets, Ways, Log, Interval, Wait, LoseEvery, Budget, Seed}
use Rattle.usage_reasons.specs.declared.table.Key.{Key}
use Rattle.usage_reasons.specs.Table.{command_names, name_of, options_of, flags_of, quantity_name, key_name, rule_of}
use Rattle.usage_reasons.specs.Words.{begins}
use Rattle.usage_reasons.specs.Faults.{Fault, NoCommand, UnknownCommand, HelpAmong, UnknownOption, ValueLacking, ValueUnwanted, Twice}
use Rattle.usage_reasons.specs.Faults.{BadNumber, BadAddress, BadKill, BadSize, BadOrder, BadPlaces, BadSeeds, Lacking, OneTooMany, Together}
use Rattle.usage_reasons.specs.Faults.{PlacesAlone, OrderLacking, Other, fault_of}

-- a word as one can see it: its first 60 bytes, with two dots behind them where there are more, and quotation marks where it is empty
unfoldable pub quoted_word : Text → Text
quoted_word word =
    if nat_lt 60 (length word) then escaped_text (take 60 word) ++ codes ".."
    else if nat_eq (length word) 0 then codes "\"\"" else escaped_text word

-- a text, and then the page that says more: the overview or a command's
unfoldable pub see : Text → Option Command → Text
see text None = text ++ codes "; see safetynet --help"
see text (Some command) = text ++ codes "; see safetynet " ++ name_of command ++ codes " --help"

-- a text, and then the word that was meant, or the page that says more
unfoldable pub near_or : Text → Option Text → Option Command → Text
near_or text (Some word) page = text ++ codes "; did you mean " ++ word ++ codes "?"
near_or text None page = see text page

-- a text, and then that a word is no command
unfoldable pub unknown_command : Text → Text → Text
unknown_command text word =
    if begins (codes "-") word then see (text ++ quoted_word word ++ codes ": the command comes first") None
    else near_or (text ++ quoted_word word ++ codes ": there is no such command") (nearest command_names word) None

unfoldable pub help_among : Text → Text → Text
help_among text word = text ++ quoted_word word ++ codes ": a call for help is a command and --help, as safetynet run --help"

abbrev pub nearest_option : Command → Text → Option Text
nearest_option command option = option_or (nearest (options_of command) option) (nearest (flags_of command) option)

-- a text, and then that the command has no such option
unfoldable pub unknown_option : Text → Command → Text → Text
unknown_option text command option =
    near_or (text ++ quoted_word option ++ codes ": " ++ name_of command ++ codes " has no such option") (nearest_option command option)
    (Some command)

unfoldable pub value_lacking : Text → Key → Text
value_lacking text key = text ++ key_name key ++ codes ": a value is lacking"

unfoldable pub value_unwanted : Text → Text → Text
value_unwanted text word = text ++ quoted_word word ++ codes ": this option takes no value"

unfoldable pub twice : Text → Text → Text
twice text option = text ++ quoted_word option ++ codes ": it stands twice"

-- an option and its value, as they stand
unfoldable pub given_as : Text → Text → Text → Text
given_as text option value = text ++ option ++ codes " " ++ quoted_word value ++ codes ": "

-- what the numbers of an option count: what stands before their range, and behind it
unfoldable pub range_front : Quantity → Text
range_front Nodes = codes "a machine has "
range_front Sets = codes "a cache has "
range_front Ways = codes "a set has "
range_front Log = codes "a node's log has "
range_front Interval = codes "between two checkpoints a node does "
range_front Wait = codes "a recovery comes after "
range_front LoseEvery = codes "one is lost of "
range_front Budget = codes "a run has "
range_front Seed = codes "a seed is a number from "

unfoldable pub range_back : Quantity → Text
range_back Nodes = codes " nodes"
range_back Sets = codes " sets"
range_back Ways = codes " lines"
range_back Log = codes " entries"
range_back Interval = codes " instructions"
range_back Wait = codes " events without a validation"
range_back LoseEvery = codes " moves of messages, and with 0 none"
range_back Budget = codes " events"
range_back Seed = []

-- a text, and then the range of a number
unfoldable pub range_text : Text → Quantity → Text
range_text text quantity =
    text ++ range_front quantity ++ decimal (rule_of quantity).least ++ codes " to " ++ decimal (rule_of quantity).greatest ++ range_back quantity

unfoldable pub bad_number : Text → Quantity → Text → Text
bad_number text quantity value = range_text (given_as text (quantity_name quantity) value) quantity

unfoldable pub bad_address : Text → Text → Text
bad_address text value =
    given_as text (codes "--watch") value ++ codes "the address of a word of memory is eight hexadecimal digits, " ++ hex_word RAM_START
    ++ codes " to " ++ hex_word (RAM_END - 4) ++ codes ", a multiple of 4"

unfoldable pub bad_kill : Text → ℕ → Text → Text
bad_kill text nodes value =
    given_as text (codes "--kill") value ++ codes "a switch that dies is a or b, its node below " ++ decimal nodes
    ++ codes ", @, and a number of events up to 1000000"

unfoldable pub bad_size : Text → Text → Text
bad_size text word = given_as text (codes "demo") word ++ codes "a demonstration has 1 to 1000000 events"

unfoldable pub bad_order : Text → Text → Text
bad_order text value = given_as text (codes "--order") value ++ codes "an order is threads, round or drawn"

unfoldable pub bad_places : Text → Text → Text
bad_places text value =
    given_as text (codes "--only") value ++ codes "places are two numbers of events from 1 to 1000000, as 3-9, the second not below the first"

unfoldable pub bad_seeds : Text → Text → Text
bad_seeds text value =
    given_as text (codes "--seeds") value ++ codes "a range is two seeds, as 1-100, the second not below the first, and at most 1000000 of them"

-- two options, of which one stands
unfoldable pub together : Text → Text → Text → Text
together text one other = text ++ one ++ codes " and " ++ other ++ codes " don't stand together"

unfoldable pub lacking : Text → Command → Text → Text
lacking text command file = see (text ++ name_of command ++ codes ": " ++ file ++ codes " is lacking") (Some command)

unfoldable pub one_too_many : Text → Command → Text → Text
one_too_many text command word = see (text ++ quoted_word word ++ codes ": " ++ name_of command ++ codes " takes no more files") (Some command)

-- a text, and then what is wrong
abbrev pub fault_text : Text → Fault → Text
fault_text text NoCommand = see (text ++ codes "a command is lacking") None
fault_text text (UnknownCommand word) = unknown_command text word
fault_text text (HelpAmong word) = help_among text word
fault_text text (UnknownOption command option) = unknown_option text command option
fault_text text (ValueLacking key) = value_lacking text key
fault_text text (ValueUnwanted word) = value_unwanted text word
fault_text text (Twice option) = twice text option
fault_text text (BadNumber quantity value) = bad_number text quantity value
fault_text text (BadAddress value) = bad_address text value
fault_text text (BadKill nodes value) = bad_kill text nodes value
fault_text text (BadSize word) = bad_size text word
fault_text text (BadOrder value) = bad_order text value
fault_text text (BadPlaces value) = bad_places text value
fault_text text (BadSeeds value) = bad_seeds text value
fault_text text (Lacking command file) = lacking text command file
fault_text text (OneTooMany command word) = one_too_many text command word
fault_text text (Together one other) = together text one other
fault_text text OrderLacking = text ++ codes "--seeds stands with --order round or --order drawn alone"
fault_text text PlacesAlone = text ++ codes "--only stands with --states alone"
fault_text text Other = see (text ++ codes "the words are no command's") None

-- a text, and then what is wrong with the words of a call, of which the first is the program's own name
unfoldable pub usage_reason : Text → List Text → Text
usage_reason text words = fault_text text (fault_of words)
