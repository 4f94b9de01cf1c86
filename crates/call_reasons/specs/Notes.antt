-- What is noted of a replay that is done: events that were refused, and nodes that were meant.
use Rattle.std.specs.Prelude.{ℕ, ◌+◌, ◌-◌, Bool, true, not, ◌&&◌, if◌then◌else◌, List, [], ◌∷◌, ◌++◌, take, length, codes, decimal}
use Rattle.std.specs.Prelude.{Option, Some, None, unwrap_or, Result, Ok, Err}
use Rattle.std.specs.List.{list_all}
use Rattle.sn_base.specs.Events.{event_fits}
use Rattle.sn_base.specs.Image.{ImageData}
use Rattle.sn_base.specs.declared.config.Config.{Config}
use Rattle.sn_base.specs.declared.event.Event.{Event}
use Rattle.sn_base.specs.declared.event.Answer.{Answer}
use Rattle.sn_model.specs.Refusals.{is_refusal}
use Rattle.sn_machine.specs.Machine.{MachineData, machine_with_room, next_of}
use Rattle.script_replay.specs.Played.{after_event}
use Rattle.sn_text.specs.Text.{event_line}
use Rattle.reasons.specs.Reason.{escaped_text, line_of_reason}
use Rattle.call_reasons.specs.declared.refusals.Refused.{Refused}
use Rattle.call_reasons.specs.declared.refusals.Refusals.{Refusals}

abbrev pub none_refused : Refusals
none_refused = record { count = 0; first = None }

-- what is known of refusals once an event at this place had this answer
abbrev pub with_answer : Refusals → ℕ → Event → Answer → Refusals
with_answer r place event answer =
    if is_refusal answer then record { count = r.count + 1; first = Some (unwrap_or r.first (record { place = place; event = event; answer = answer })) }
    else r

-- what is known once the machine has had these events too, the first of them at this place
abbrev pub refusals_from : MachineData → ℕ → Refusals → List Event → Refusals
refusals_from m place r [] = r
refusals_from m place r (event ∷ events) =
    refusals_from (after_event m event) (place + 1) (with_answer r place event (next_of m event).answer) events

-- the refusals of a replay
abbrev pub refusals_of : ImageData → Config → List Event → Refusals
refusals_of image config events = refusals_from (machine_with_room image config (length events)) 1 none_refused events

-- the line of a refused event, without its end
abbrev pub line_of : Refused → List ℕ
line_of f = take (length (event_line f.place f.event f.answer) - 1) (event_line f.place f.event f.answer)

-- a text, and then how many of so many events were refused, and which was the first
unfoldable pub refused_note : List ℕ → ℕ → ℕ → Refused → List ℕ
refused_note text events count f =
    line_of_reason (text ++ codes "# note: " ++ decimal count ++ codes " of " ++ decimal events ++ codes " events were refused, the first is " ++ escaped_text (line_of f))

-- the same, where there is a first
abbrev pub first_refused : List ℕ → ℕ → ℕ → Option Refused → List ℕ
first_refused text events count None = text
first_refused text events count (Some f) = refused_note text events count f

-- whether no event names the last of so many nodes
abbrev pub names_fewer : ℕ → List Event → Bool
names_fewer nodes events = list_all (λ event. event_fits (nodes - 1) event) events

-- a text, and then how many nodes there are where nobody said it
unfoldable pub default_note : List ℕ → ℕ → List ℕ
default_note text nodes = line_of_reason (text ++ codes "# note: --nodes wasn't given: " ++ decimal nodes ++ codes " nodes")

abbrev pub with_default : List ℕ → Bool → ℕ → List Event → List ℕ
with_default text is_given nodes events = if not is_given && names_fewer nodes events then default_note text nodes else text
