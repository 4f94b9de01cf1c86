-- What may be due at a node: a list of events, made of what the machine would answer now.
use Rattle.std.specs.Prelude.{ℕ, Bool, true, false, not, ◌&&◌, ◌||◌, nat_eq, nat_lt, nat_le, if◌then◌else◌, List, [], ◌∷◌, ◌++◌, map}
use Rattle.std.specs.Prelude.{filter_map, slice_index, Option, Some, None}
use Rattle.std.specs.List.{find, list_any, range_with_len}
use Rattle.std.specs.Option.{option_map}
use Rattle.sn_base.specs.Image.{ImageData}
use Rattle.sn_base.specs.declared.config.Config.{Config}
use Rattle.sn_base.specs.declared.event.Event.{Event}
use Rattle.sn_base.specs.declared.event.Event.TheVariants.{Step, Evict, Edge, Hop, Deliver, Report, Validate}
use Rattle.sn_base.specs.declared.event.Answer.{Answer}
use Rattle.sn_base.specs.declared.event.Answer.TheVariants.{Retired, Missed, NeedsEvict, Delivered, Reported}
use Rattle.sn_base.specs.declared.rules.Rules.{Rules}
use Rattle.rv_core.specs.Core.{is_running}
use Rattle.route_plan.specs.Grid.{node_of}
use Rattle.sn_model.specs.Caches.{block_count}
use Rattle.sn_model.specs.Fabric.{Fabric, Flight, node_at}
use Rattle.sn_model.specs.Net.{is_there}
use Rattle.sn_model.specs.NodeEvents.{ready_of}
use Rattle.sn_model.specs.Machine.{State, processor_at}
use Rattle.sn_model.specs.MachineEvents.{is_edged, is_validated}
use Rattle.sn_model.specs.Step.{step_of}
use Rattle.sn_machine.specs.Fabric.{can_go}
use Rattle.sn_machine.specs.Looks.{wanted_block}
use Rattle.due_events.specs.Numbers.{Numbers}

-- the answer that an event would have now
abbrev pub answer_foreseen : ImageData → Config → State → Event → Answer
answer_foreseen image config s event = (step_of image config s event).answer

abbrev pub is_delivered : Answer → Bool
is_delivered Delivered = true
is_delivered _ = false

abbrev pub is_reported : Answer → Bool
is_reported (Reported k) = true
is_reported _ = false

abbrev pub needs_evict : Answer → Bool
needs_evict NeedsEvict = true
needs_evict _ = false

-- whether an instruction comes a step further
abbrev pub goes_on : Answer → Bool
goes_on Retired = true
goes_on Missed = true
goes_on _ = false

-- an event, where a test allows it
abbrev pub event_if : Bool → Event → Option Event
event_if test event = if test then Some event else None

-- the delivery of a message to node n, where it would be taken now
abbrev pub delivery : ImageData → Config → State → ℕ → Flight → Option Event
delivery image config s n f =
    event_if (nat_eq f.message.to n && is_delivered (answer_foreseen image config s (Deliver f.message.id))) (Deliver f.message.id)

-- the hop of a message in a switch of node n, where it hasn't arrived
abbrev pub hop : ℕ → Flight → Option Event
hop n f = event_if (nat_eq (node_of f.place) n && not (is_there f)) (Hop f.message.id)

-- whether node n could evict a block now from the set of a block that it wants
abbrev pub leaves_for : Config → Fabric → ℕ → Option ℕ → ℕ → Bool
leaves_for config s n None block = false
leaves_for config s n (Some wanted) block = can_go config s n wanted block

-- the least number below a bound that passes a test
abbrev pub least_below : ℕ → (ℕ → Bool) → Option ℕ
least_below bound test = find test (range_with_len 0 bound)

-- the least block that node n could evict now from the set that its instruction needs
unfoldable pub least_to_leave : ImageData → Config → State → ℕ → Option ℕ
least_to_leave image config s n = least_below block_count (leaves_for config s.fabric n (wanted_block image (processor_at s n).core))

-- its eviction, where the node's instruction waits for a frame
abbrev pub eviction : ImageData → Config → State → ℕ → Option Event
eviction image config s n =
    if needs_evict (answer_foreseen image config s (Step n)) then option_map (λ (block : ℕ). Evict n block) (least_to_leave image config s n)
    else None

-- whether another node is ahead of node n
abbrev pub is_behind : Fabric → ℕ → Bool
is_behind s n = list_any (λ other. nat_lt (node_at s n).now other.now) s.nodes

-- the clock edge of node n: it has retired enough instructions, or can't, or another node is ahead
abbrev pub edge : Rules → ImageData → Config → State → Numbers → ℕ → Option Event
edge rules image config s x n =
    event_if (is_edged (answer_foreseen image config s (Edge n))
    && (nat_le rules.interval (slice_index x.retired n) || not (is_running (processor_at s n).core.end) || is_behind s.fabric n)) (Edge n)

-- the report of node n, where it would tell of a later checkpoint than before
abbrev pub report : ImageData → Config → State → Numbers → ℕ → Option Event
report image config s x n =
    event_if (nat_lt (slice_index x.told n) (ready_of s.fabric n) && is_reported (answer_foreseen image config s (Report n))) (Report n)

-- the validation, which is node 0's
abbrev pub validation : ImageData → Config → State → ℕ → Option Event
validation image config s n = event_if (nat_eq n 0 && is_validated (answer_foreseen image config s Validate)) Validate

-- the step of node n
abbrev pub step : ImageData → Config → State → ℕ → Option Event
step image config s n = event_if (goes_on (answer_foreseen image config s (Step n))) (Step n)

-- what node n may do itself
abbrev pub own_places : Rules → ImageData → Config → State → Numbers → ℕ → List (Option Event)
own_places rules image config s x n =
    eviction image config s n ∷ edge rules image config s x n ∷ report image config s x n ∷ validation image config s n
    ∷ step image config s n ∷ []

-- the places of node n's list in order, each with its event where there is one: the deliveries of messages, their hops, and what
-- it may do itself
abbrev pub places_of : Rules → ImageData → Config → State → Numbers → ℕ → List (Option Event)
places_of rules image config s x n =
    map (delivery image config s n) s.fabric.net.flights ++ map (hop n) s.fabric.net.flights ++ own_places rules image config s x n

-- node n's list
abbrev pub list_of : Rules → ImageData → Config → State → Numbers → ℕ → List Event
list_of rules image config s x n = filter_map (λ place. place) (places_of rules image config s x n)
