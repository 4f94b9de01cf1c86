-- The commands, and what each takes.
use Rattle.std.specs.Prelude.{List, [], ◌∷◌, codes, bytes_eq, if◌then◌else◌, Option, Some, None, option_map}
use Rattle.option_values.specs.Values.{Text, nodes_rule, sets_rule, ways_rule, log_rule}
use Rattle.option_values.specs.Runs.{interval_rule, wait_rule, budget_rule, lose_rule, seed_rule}
use Rattle.option_values.specs.declared.number.NumberRule.{NumberRule}
use Rattle.usage_reasons.specs.declared.table.Command.{Command}
use Rattle.usage_reasons.specs.declared.table.Command.TheVariants.{Replay, Drive, Roll, Save, Resume, Run, Monitor, Check, Judge}
use Rattle.usage_reasons.specs.declared.table.Command.TheVariants.{Demo, Asm, Dis}
use Rattle.usage_reasons.specs.declared.table.Quantity.{Quantity}
use Rattle.usage_reasons.specs.declared.table.Quantity.TheVariants.{Nodes, Sets, Ways, Log, Interval, Wait, LoseEvery, Budget, Seed}
use Rattle.usage_reasons.specs.declared.table.Key.{Key}
use Rattle.usage_reasons.specs.declared.table.Key.TheVariants.{Number, Watch, Kill, Order, Only, Seeds}

abbrev pub command_names : List Text
command_names =
    codes "replay" ∷ codes "drive" ∷ codes "roll" ∷ codes "save" ∷ codes "resume" ∷ codes "run" ∷ codes "monitor" ∷ codes "check"
    ∷ codes "judge" ∷ codes "demo" ∷ codes "asm" ∷ codes "dis" ∷ []

-- the command of a word, where it is one's name
abbrev pub command_by : Text → Option Command
command_by word =
    if bytes_eq word (codes "replay") then Some Replay else
    if bytes_eq word (codes "drive") then Some Drive else
    if bytes_eq word (codes "roll") then Some Roll else
    if bytes_eq word (codes "save") then Some Save else
    if bytes_eq word (codes "resume") then Some Resume else
    if bytes_eq word (codes "run") then Some Run else
    if bytes_eq word (codes "monitor") then Some Monitor else
    if bytes_eq word (codes "check") then Some Check else
    if bytes_eq word (codes "judge") then Some Judge else
    if bytes_eq word (codes "demo") then Some Demo else
    if bytes_eq word (codes "asm") then Some Asm else
    if bytes_eq word (codes "dis") then Some Dis else None

unfoldable pub name_of : Command → Text
name_of Replay = codes "replay"
name_of Drive = codes "drive"
name_of Roll = codes "roll"
name_of Save = codes "save"
name_of Resume = codes "resume"
name_of Run = codes "run"
name_of Monitor = codes "monitor"
name_of Check = codes "check"
name_of Judge = codes "judge"
name_of Demo = codes "demo"
name_of Asm = codes "asm"
name_of Dis = codes "dis"

-- the words that must be there, in their order
abbrev pub files_of : Command → List Text
files_of Replay = codes "PROGRAM" ∷ codes "SCRIPT" ∷ []
files_of Drive = codes "PROGRAM" ∷ []
files_of Roll = codes "PROGRAM" ∷ codes "SCRIPT" ∷ codes "CONTROL" ∷ []
files_of Save = codes "PROGRAM" ∷ codes "SCRIPT" ∷ []
files_of Resume = codes "PROGRAM" ∷ codes "SAVE" ∷ codes "SCRIPT" ∷ []
files_of Run = codes "PROGRAM" ∷ []
files_of Monitor = codes "PROGRAM" ∷ []
files_of Check = codes "PROGRAM" ∷ codes "TRACE" ∷ []
files_of Judge = codes "ACCESSES" ∷ []
files_of Demo = codes "SIZE" ∷ []
files_of Asm = codes "TEXT" ∷ []
files_of Dis = codes "PROGRAM" ∷ []

abbrev pub sizes : List Text
sizes = codes "--nodes" ∷ codes "--sets" ∷ codes "--ways" ∷ codes "--log" ∷ codes "--watch" ∷ []

-- of a machine that picks its own events
abbrev pub run_options : List Text
run_options =
    codes "--nodes" ∷ codes "--sets" ∷ codes "--ways" ∷ codes "--log" ∷ codes "--watch" ∷ codes "--interval" ∷ codes "--wait"
    ∷ codes "--lose-every" ∷ codes "--kill" ∷ codes "--budget" ∷ codes "--seed" ∷ []

-- the words that say who has the next turn
abbrev pub order_names : List Text
order_names = codes "threads" ∷ codes "round" ∷ codes "drawn" ∷ []

-- the options that take a value
abbrev pub options_of : Command → List Text
options_of Replay = codes "--nodes" ∷ codes "--sets" ∷ codes "--ways" ∷ codes "--log" ∷ codes "--watch" ∷ codes "--only" ∷ []
options_of Drive = sizes
options_of Roll = sizes
options_of Save = codes "--nodes" ∷ codes "--sets" ∷ codes "--ways" ∷ codes "--log" ∷ []
options_of Resume = codes "--watch" ∷ []
options_of Run = codes "--order" ∷ codes "--seeds" ∷ run_options
options_of Monitor = run_options
options_of Check = codes "--nodes" ∷ []
options_of Judge = []
options_of Demo = []
options_of Asm = []
options_of Dis = []

-- the options that take none
abbrev pub flags_of : Command → List Text
flags_of Replay = codes "--trace" ∷ codes "--states" ∷ codes "--statistics" ∷ codes "--accesses" ∷ []
flags_of Drive = codes "--states" ∷ []
flags_of Roll = []
flags_of Save = []
flags_of Resume = []
flags_of Run = codes "--trace" ∷ codes "--journal" ∷ codes "--accesses" ∷ codes "--statistics" ∷ []
flags_of Monitor = []
flags_of Check = []
flags_of Judge = []
flags_of Demo = []
flags_of Asm = []
flags_of Dis = []

-- what an option's value is: a number, the address of a word, a switch that dies, an order of turns, places of events or a range of seeds
abbrev pub quantity_by : Text → Option Quantity
quantity_by option =
    if bytes_eq option (codes "--nodes") then Some Nodes else
    if bytes_eq option (codes "--sets") then Some Sets else
    if bytes_eq option (codes "--ways") then Some Ways else
    if bytes_eq option (codes "--log") then Some Log else
    if bytes_eq option (codes "--interval") then Some Interval else
    if bytes_eq option (codes "--wait") then Some Wait else
    if bytes_eq option (codes "--lose-every") then Some LoseEvery else
    if bytes_eq option (codes "--budget") then Some Budget else
    if bytes_eq option (codes "--seed") then Some Seed else None

abbrev pub key_of : Text → Option Key
key_of option =
    if bytes_eq option (codes "--watch") then Some Watch else
    if bytes_eq option (codes "--kill") then Some Kill else
    if bytes_eq option (codes "--order") then Some Order else
    if bytes_eq option (codes "--only") then Some Only else
    if bytes_eq option (codes "--seeds") then Some Seeds else option_map (λ quantity. Number quantity) (quantity_by option)

unfoldable pub quantity_name : Quantity → Text
quantity_name Nodes = codes "--nodes"
quantity_name Sets = codes "--sets"
quantity_name Ways = codes "--ways"
quantity_name Log = codes "--log"
quantity_name Interval = codes "--interval"
quantity_name Wait = codes "--wait"
quantity_name LoseEvery = codes "--lose-every"
quantity_name Budget = codes "--budget"
quantity_name Seed = codes "--seed"

unfoldable pub key_name : Key → Text
key_name (Number quantity) = quantity_name quantity
key_name Watch = codes "--watch"
key_name Kill = codes "--kill"
key_name Order = codes "--order"
key_name Only = codes "--only"
key_name Seeds = codes "--seeds"

-- the range of a number, by the rules of the options' values
abbrev pub rule_of : Quantity → NumberRule
rule_of Nodes = nodes_rule
rule_of Sets = sets_rule
rule_of Ways = ways_rule
rule_of Log = log_rule
rule_of Interval = interval_rule
rule_of Wait = wait_rule
rule_of LoseEvery = lose_rule
rule_of Budget = budget_rule
rule_of Seed = seed_rule
