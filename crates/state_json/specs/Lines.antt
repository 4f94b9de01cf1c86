-- The lines: the first, one an event, and the summary.
use Rattle.std.specs.Prelude.{ℕ, zero, suc, ◌+◌, List, [], ◌∷◌, ◌++◌, length, map, take, codes, decimal, Option}
use Rattle.sn_base.specs.Image.{ImageData}
use Rattle.sn_base.specs.declared.config.Config.{Config}
use Rattle.sn_base.specs.declared.event.Event.{Event}
use Rattle.sn_base.specs.declared.event.Answer.{Answer}
use Rattle.rv_core.specs.Core.{bare}
use Rattle.rv_core.specs.Flat.{FlatState, core_at, word_at}
use Rattle.rv_core.specs.Execution.{end_of}
use Rattle.sn_model.specs.Instructions.{MachineStep}
use Rattle.sn_model.specs.Machine.{State}
use Rattle.sn_text.specs.Text.{event_text, answer_text}
use Rattle.state_parts.specs.Touched.{parts_touched}
use Rattle.state_json.specs.Json.{quotation_of, opens, member, closes, array, or_null, large, word}
use Rattle.state_json.specs.Values.{core_text}
use Rattle.state_json.specs.Messages.{sent_text}
use Rattle.state_json.specs.Parts.{state_text, told_text}
use Rattle.state_json.specs.Details.{details_text}

-- the form's name, the machine's sizes, the program's entry, and the state after so many events
unfoldable pub first_line : ImageData → Config → ℕ → State → List ℕ
first_line image config events s =
    opens (codes "form") (quotation_of (codes "safetynet states 1")) ++ member (codes "nodes") (decimal config.nodes)
    ++ member (codes "sets") (decimal config.sets) ++ member (codes "ways") (decimal config.ways)
    ++ member (codes "log") (decimal config.log) ++ member (codes "entry") (word image.entry)
    ++ member (codes "events") (decimal events) ++ member (codes "state") (state_text image s) ++ closes ++ codes "\n"

-- an event at a place, from this state: its answer, what was found before it, what it sent, and the parts that it may have touched
unfoldable pub state_line : ImageData → ℕ → State → Event → MachineStep → List ℕ
state_line image place s event step =
    opens (codes "place") (decimal place) ++ member (codes "event") (quotation_of (event_text event))
    ++ member (codes "answer") (quotation_of (answer_text step.answer)) ++ details_text image s event step.answer
    ++ member (codes "sent") (array (map sent_text step.sent))
    ++ told_text image step.state (parts_touched s event step.answer) ++ closes ++ codes "\n"

-- the summary: of so many events, with the first so many cores at the recovery point, the watched word and the probes' numbers

abbrev pub core_texts : ℕ → FlatState → List (List ℕ)
core_texts zero flat = []
core_texts (suc n) flat = core_texts n flat ++ core_text (bare (core_at flat n)) ∷ []

abbrev pub watch_text : FlatState → ℕ → List ℕ
watch_text flat address = opens (codes "address") (word address) ++ member (codes "word") (word (word_at flat.memory address)) ++ closes

abbrev pub tally_text : List ℕ → List ℕ
tally_text tally = array (map large (take 16 tally))

abbrev pub summary_text : FlatState → Config → Option ℕ → List (List ℕ) → ℕ → State → List ℕ
summary_text flat config watch tallies events s =
    opens (codes "events") (decimal events) ++ member (codes "point") (decimal s.fabric.point)
    ++ member (codes "committed") (decimal (length s.committed)) ++ member (codes "released") (decimal (length s.released))
    ++ member (codes "cores") (array (core_texts config.nodes flat)) ++ member (codes "watch") (or_null (watch_text flat) watch)
    ++ member (codes "probes") (array (map tally_text tallies)) ++ closes

unfoldable pub last_line : ImageData → Config → Option ℕ → List (List ℕ) → ℕ → State → List ℕ
last_line image config watch tallies events s =
    opens (codes "summary") (summary_text (end_of image config.nodes s.committed) config watch tallies events s) ++ closes ++ codes "\n"
