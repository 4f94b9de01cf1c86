-- What a watched run keeps from turn to turn.
use Rattle.std.specs.Prelude.{◌≡◌, ℕ, ◌+◌, ◌<◌, ◌≤◌, false, nat_le, List, [], map, length, Some, vec_capacity}
use Rattle.run_journals.specs.Journal.{Began}
use Rattle.node_run.specs.Finish.{Finish}
use Rattle.node_run.specs.Shared.{LockedData, began_with, refusal_of}
use Rattle.node_run.specs.Invariant.{FollowsJournal, HasRoomForRest}
use Rattle.sn_machine.specs.Machine.{MachineData}
use Rattle.node_run.specs.Finishes.{IsRunOf, finish_by}
use Rattle.sn_monitor.specs.Monitored.{MonitoredData}
use Rattle.monitor_run.specs.declared.turns.Stop.{Stop}
use Rattle.monitor_run.specs.declared.turns.Stop.TheVariants.{Finished, Memory}
use Rattle.monitor_run.specs.declared.turns.Turns.{Turns}
use Rattle.monitor_run.specs.declared.marks.Mark.{Mark}
use Rattle.turn_orders.specs.Drawn.{AreDrawn}
use Rattle.monitor_run.specs.Taken.{AreTaken}
use Rattle.monitor_run.specs.Seen.{published_by, IsInRounds, mark_of}

-- the run as one of a machine that workers share: nothing is passed on beside its turns, and no stop stands
abbrev pub shared_as : MonitoredData → Turns → LockedData
shared_as m t = record {
  machine = m.machine;
  driver = m.driver;
  seed = t.seed;
  budget = t.budget;
  journal = t.journal.items;
  answers = t.answers.items;
  passed = [];
  free = 0;
  stopped = false;
}

-- what it began with
abbrev pub its_start : MonitoredData → Turns → Began
its_start m t = began_with (shared_as m t)

-- the journal, folded from the run's start, gives the machine, the answers and the driver's numbers; its events were due, in rounds of
-- the workers; each validation is published, and noted; and there is room for the rest of the budget
pub record Stands (m : MonitoredData) (t : Turns) : Type 0 where
  pub follows : FollowsJournal (shared_as m t)
  pub answered : length t.answers.items ≡ length t.journal.items
  pub room : HasRoomForRest (shared_as m t)
  pub some : 0 < m.machine.config.nodes
  pub rounds : IsInRounds m.machine.config.nodes t.journal.items
  pub published : m.published ≡ published_by (its_start m t) m.watch t.journal.items
  pub marks : t.published.items ≡ map mark_of m.published
  pub few : length t.published.items ≤ length t.journal.items + 1
  pub journal_room : t.budget ≤ vec_capacity t.journal
  pub answers_room : t.budget ≤ vec_capacity t.answers
  pub marks_room : t.budget + 1 ≤ vec_capacity t.published

-- each worker has its next number
pub record IsReady (m : MonitoredData) (t : Turns) : Type 0 where
  pub drawn : AreDrawn t.seed t.journal.items t.generators.items
  pub drawers : length t.generators.items ≡ m.machine.config.nodes

-- why there is no turn any more
abbrev pub StopsBy : MonitoredData → Turns → Stop → Type 0
StopsBy m t (Finished finish) = Stands m t × (refusal_of m.driver m.machine (nat_le t.budget (length t.journal.items)) ≡ Some finish)
StopsBy m t Memory = Unit {0}

-- the same run, with the same word watched, on the same board
pub record IsSameRun (m : MonitoredData) (t : Turns) (n : MonitoredData) (u : Turns) : Type 0 where
  pub start : its_start n u ≡ its_start m t
  pub watch : n.watch ≡ m.watch
  pub board : n.board ≡ m.board

-- turns of so many workers, none of which is had, with room for all
pub record IsNew (workers : ℕ) (t : Turns) : Type 0 where
  pub drawn : AreDrawn t.seed [] t.generators.items
  pub drawers : length t.generators.items ≡ workers
  pub journal : t.journal.items ≡ []
  pub answers : t.answers.items ≡ []
  pub published : t.published.items ≡ []
  pub journal_room : t.budget ≤ vec_capacity t.journal
  pub answers_room : t.budget ≤ vec_capacity t.answers
  pub marks_room : t.budget + 1 ≤ vec_capacity t.published

-- what a watched run leaves: it came to this finish, and of what was published these are to be put
pub record HasLeft (began : Began) (watch : ℕ) (m : MachineData) (t : Turns) (seen : List Mark) (finish : Finish) : Type 0 where
  pub run : IsRunOf began m t.journal.items t.answers.items
  pub rounds : IsInRounds began.config.nodes t.journal.items
  pub finished : finish_by began t.journal.items ≡ Some finish
  pub seen_are : AreTaken seen (map mark_of (published_by began watch t.journal.items))
