-- What may be asked to be shown of a machine's state, and the text that shows it.
use Rattle.std.specs.Prelude.{ℕ, ◌<◌, ◌^◌, ◌&&◌, nat_lt, bytes_eq, if◌then◌else◌, List, ◌++◌, map, codes, Option, Some, None, Result, Ok, Err, ⊤}
use Rattle.sn_base.specs.Image.{ImageData}
use Rattle.sn_base.specs.declared.config.Config.{Config}
use Rattle.sn_model.specs.Caches.{block_count}
use Rattle.sn_model.specs.Fabric.{Flight, home_of}
use Rattle.sn_model.specs.Machine.{State, processor_at}
use Rattle.sn_model.specs.Net.{is_there}
use Rattle.sn_text.specs.Digits.{number_of}
use Rattle.sn_text.specs.Script.{begins, after, number_below, node_in, parts_at_blank}
use Rattle.sn_text.specs.declared.cause.Fault.{Fault}
use Rattle.sn_text.specs.declared.cause.Fault.TheVariants.{NotOfForm, NotThere}
use Rattle.due_events.specs.Numbers.{Numbers}
use Rattle.state_parts.specs.Parts.{node_part}
use Rattle.state_json.specs.Json.{opens, member, closes, array, flag}
use Rattle.state_json.specs.Values.{core_text}
use Rattle.state_json.specs.Messages.{flight_text}
use Rattle.state_json.specs.Parts.{node_text, other_home_text, state_text}
use Rattle.driven_replay.specs.declared.job.Look.{Look}
use Rattle.driven_replay.specs.declared.job.Look.TheVariants as look
use Rattle.driven_replay.specs.Dues.{usually_due, due_text}

-- what a line asks for

-- the number of a block of memory
abbrev pub block_in : List ℕ → Result ℕ Fault
block_in text = number_below block_count (number_of text)

-- the look at what a number names, where it names something
abbrev pub look_said : (ℕ → Look) → Result ℕ Fault → Result Look Fault
look_said look_at (Ok number) = Ok (look_at number)
look_said look_at (Err fault) = Err fault

-- a worker, which is a node, and the number that it draws, which is below 2^32
abbrev pub draw_by : ℕ → Option ℕ → Option ℕ → Result Look Fault
draw_by nodes (Some worker) (Some pick) = if nat_lt worker nodes && nat_lt pick (2 ^ 32) then Ok (look.Due worker pick) else Err NotThere
draw_by nodes (Some worker) None = Err NotOfForm
draw_by nodes None pick = Err NotOfForm

abbrev pub draw_of : ℕ → Option (List ℕ × List ℕ) → Result Look Fault
draw_of nodes None = Err NotOfForm
draw_of nodes (Some words) = draw_by nodes (number_of words.0) (number_of words.1)

abbrev pub draw_in : ℕ → List ℕ → Result Look Fault
draw_in nodes text = draw_of nodes (parts_at_blank text)

-- what is asked for, on a machine of so many nodes; None where the line is none that asks
unfoldable pub look_of : ℕ → List ℕ → Option (Result Look Fault)
look_of nodes line =
    if bytes_eq line (codes "show") then Some (Ok look.State)
    else if bytes_eq line (codes "flights") then Some (Ok look.Flights)
    else if begins (codes "node ") line then Some (look_said look.Node (node_in nodes (after (codes "node ") line)))
    else if begins (codes "core ") line then Some (look_said look.Core (node_in nodes (after (codes "core ") line)))
    else if begins (codes "block ") line then Some (look_said look.Block (block_in (after (codes "block ") line)))
    else if begins (codes "due ") line then Some (draw_in nodes (after (codes "due ") line))
    else None

-- its node is one of so many
abbrev pub HasItsNode : ℕ → Look → Type 0
HasItsNode nodes (look.Node n) = n < nodes
HasItsNode nodes (look.Core n) = n < nodes
HasItsNode nodes (look.Due worker pick) = worker < nodes
HasItsNode nodes _ = ⊤

-- what is shown

-- a message in flight, and whether it stands in a switch of its receiver
unfoldable pub arrival_text : Flight → List ℕ
arrival_text f = opens (codes "flight") (flight_text f) ++ member (codes "arrived") (flag (is_there f)) ++ closes

unfoldable pub flights_text : List Flight → List ℕ
flights_text flights = opens (codes "flights") (array (map arrival_text flights)) ++ closes

-- a part of the state of a program's machine, or what is due there where a driver has counted this, as JSON
unfoldable pub look_text : ImageData → Config → State → Numbers → Look → List ℕ
look_text image config s x look.State = state_text image s
look_text image config s x (look.Node n) = node_text n (node_part s n)
look_text image config s x (look.Core n) = core_text (processor_at s n).core
look_text image config s x (look.Block block) = other_home_text block (home_of s.fabric block)
look_text image config s x look.Flights = flights_text s.fabric.net.flights
look_text image config s x (look.Due worker pick) = due_text (usually_due image config s x worker pick)

-- the line that it stands in
abbrev pub look_line : ImageData → Config → State → Numbers → Look → List ℕ
look_line image config s x asked = look_text image config s x asked ++ codes "\n"
