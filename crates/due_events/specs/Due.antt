-- The event that is due.
use Rattle.std.specs.Prelude.{ℕ, zero, suc, ◌+◌, ◌%◌, Bool, not, ◌&&◌, ◌||◌, nat_eq, nat_le, if◌then◌else◌, List, length, slice_get, Option}
use Rattle.std.specs.Prelude.{Some, None, is_some, unwrap_or}
use Rattle.std.specs.Option.{option_or, option_map}
use Rattle.sn_base.specs.Image.{ImageData}
use Rattle.sn_base.specs.declared.config.Config.{Config}
use Rattle.sn_base.specs.declared.event.Event.{Event}
use Rattle.sn_base.specs.declared.event.Event.TheVariants.{Hop, Deliver, Lose, Kill, Recover}
use Rattle.sn_base.specs.declared.rules.Rules.{Rules}
use Rattle.rv_core.specs.Execution.{end_of}
use Rattle.route_plan.specs.Distances.{is_dead}
use Rattle.sn_model.specs.Machine.{State}
use Rattle.sn_machine.specs.Looks.{have_ended}
use Rattle.due_events.specs.Numbers.{Numbers}
use Rattle.due_events.specs.Lists.{event_if, list_of}

-- whether all cores have ended at the recovery point
abbrev pub is_over : ImageData → Config → State → Bool
is_over image config s = have_ended config.nodes (end_of image config.nodes s.committed)

-- the switch of the rule dies once so many events are done, if it lives
abbrev pub killing : State → Numbers → Option (ℕ × ℕ) → Option Event
killing s x None = None
killing s x (Some rule) = event_if (nat_le rule.1 x.done && not (is_dead s.fabric.net.dead rule.0)) (Kill rule.0)

-- the element p mod its length of a list; none of an empty one
abbrev pub event_picked : ℕ → List Event → Option Event
event_picked pick events = slice_get events (pick % length events)

-- of so many nodes from node n on, round all nodes: the picked element of the first list that isn't empty
abbrev pub first_picked : Rules → ImageData → Config → State → Numbers → ℕ → ℕ → ℕ → Option Event
first_picked rules image config s x pick zero n = None
first_picked rules image config s x pick (suc left) n =
    option_or (event_picked pick (list_of rules image config s x n)) (first_picked rules image config s x pick left ((n + 1) % config.nodes))

-- whether the next message that moves is lost
abbrev pub loses_next : Rules → Numbers → Bool
loses_next rules x = not (nat_eq rules.lose_every 0) && nat_eq ((x.moves + 1) % rules.lose_every) 0

-- a message that would move is lost instead
abbrev pub loss_of : Event → Event
loss_of (Hop id) = Lose id
loss_of (Deliver id) = Lose id
loss_of event = event

abbrev pub or_loss : Rules → Numbers → Event → Event
or_loss rules x event = if loses_next rules x then loss_of event else event

-- what the lists give, unless there was no validation or recovery for too long; a recovery where they give nothing
abbrev pub event_of_lists : Rules → ImageData → Config → State → Numbers → ℕ → ℕ → Option Event
event_of_lists rules image config s x worker pick =
    if nat_le rules.wait x.since then None else option_map (or_loss rules x) (first_picked rules image config s x pick config.nodes worker)

-- the next event of a worker that draws a pick
abbrev pub next_due : Rules → ImageData → Config → State → Numbers → ℕ → ℕ → Event
next_due rules image config s x worker pick =
    unwrap_or (option_or (killing s x rules.kill) (event_of_lists rules image config s x worker pick)) Recover

-- none where the machine is over or a recovery found nodes cut off
unfoldable pub due_of : Rules → ImageData → Config → State → Numbers → ℕ → ℕ → Option Event
due_of rules image config s x worker pick =
    if is_over image config s || is_some x.cut_off then None else Some (next_due rules image config s x worker pick)
