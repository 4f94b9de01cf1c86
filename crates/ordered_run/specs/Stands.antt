-- What a run in an order keeps from turn to turn.
use Rattle.std.specs.Prelude.{◌≡◌, ℕ, ◌+◌, ◌<◌, ◌≤◌, false, nat_le, List, [], length, Option, Some, vec_capacity}
use Rattle.sn_io.specs.Outside.{Rose}
use Rattle.sn_consistency.specs.Committed.{Begins}
use Rattle.sn_console.specs.Handed.{IsHandedOn, IsBegun}
use Rattle.run_journals.specs.Journal.{Began}
use Rattle.node_run.specs.Finish.{Finish}
use Rattle.node_run.specs.Finish.TheVariants as finish
use Rattle.node_run.specs.Shared.{LockedData, began_with, refusal_of}
use Rattle.node_run.specs.Invariant.{FollowsJournal, HasRoomForRest}
use Rattle.turn_orders.specs.Drawn.{AreDrawn}
use Rattle.ordered_run.specs.declared.course.Course.{Course}
use Rattle.ordered_run.specs.Ordered.{journal_after}

-- the run as one of a machine that workers share: nothing is passed on beside its turns, and no stop stands
abbrev pub shared_as : Course → LockedData
shared_as c = record {
  machine = c.machine;
  driver = c.driver;
  seed = c.seed;
  budget = c.budget;
  journal = c.journal.items;
  answers = c.answers.items;
  passed = [];
  free = 0;
  stopped = false;
}

-- what it began with
abbrev pub its_start : Course → Began
its_start c = began_with (shared_as c)

-- the journal has the turns of its order
abbrev pub IsInOrder : Course → Type 0
IsInOrder c = c.journal.items ≡ journal_after c.scheduler.order (its_start c) (length c.journal.items)

-- the journal, folded from the run's start, gives the machine, the answers and the driver's numbers; its events were due, in the turns
-- of its order; and there is room for the rest of the budget
pub record Stands (c : Course) : Type 0 where
  pub follows : FollowsJournal (shared_as c)
  pub answered : length c.answers.items ≡ length c.journal.items
  pub room : HasRoomForRest (shared_as c)
  pub some : 0 < c.machine.config.nodes
  pub ordered : IsInOrder c
  pub journal_room : c.budget ≤ vec_capacity c.journal
  pub answers_room : c.budget ≤ vec_capacity c.answers

-- the scheduler has the next turn, and each worker its next number
pub record IsReady (c : Course) : Type 0 where
  pub seed : c.scheduler.seed ≡ c.seed
  pub workers : c.scheduler.workers ≡ c.machine.config.nodes
  pub had : c.scheduler.had ≡ length c.journal.items
  pub drawn : AreDrawn c.seed c.journal.items c.generators.items
  pub drawers : length c.generators.items ≡ c.machine.config.nodes

-- the same run, in the same order
pub record IsSameRun (c d : Course) : Type 0 where
  pub start : its_start d ≡ its_start c
  pub order : d.scheduler.order ≡ c.scheduler.order

-- why there is no turn any more
abbrev pub refusal_now : Course → Option Finish
refusal_now c = refusal_of c.driver c.machine (nat_le c.budget (length c.journal.items))

-- what a turn leaves that was had, and one that was refused, for this cause
pub record IsNext (c d : Course) : Type 0 where
  pub stands : Stands d
  pub ready : IsReady d
  pub more : length d.journal.items ≡ length c.journal.items + 1
  pub grows : Begins c.machine.state.released d.machine.state.released
  pub same : IsSameRun c d

pub record IsRefused (c d : Course) (found : Finish) : Type 0 where
  pub stands : Stands d
  pub machine : d.machine ≡ c.machine
  pub refusal : refusal_now d ≡ Some found
  pub same : IsSameRun c d

-- the turns from one moment to another put what was released in them, and then no turn was had any more; or the console failed, and has
-- the beginning of it
abbrev pub EndsTurns : Course → Course → Finish → Option (List ℕ) → Option (List ℕ) → ℕ → ℕ → Type 0
EndsTurns c d finish.Stopped before after was is = IsBegun c.machine.state.released d.machine.state.released before after × Rose was is
EndsTurns c d found before after was is =
    IsHandedOn c.machine.state.released d.machine.state.released before after × (refusal_now d ≡ Some found)
