-- What the lock keeps.
use Rattle.std.specs.Prelude.{◌≡◌, ◌+◌, ◌<◌, ◌≤◌, List, [], length}
use Rattle.std.specs.List.{All}
use Rattle.sn_base.specs.Rules.{AreRules}
use Rattle.sn_model.specs.Machine.{start_of}
use Rattle.run_journals.specs.ConsistentCutsRuns.{AllFit}
use Rattle.run_journals.specs.Numbers.{first_numbers}
use Rattle.run_journals.specs.Journal.{IsDue, events_of, state_of, answers_of, numbers_of}
use Rattle.sn_console.specs.Handed.{IsFirstOf}
use Rattle.shared_machine.specs.declared.picker.Picker.{Picker}
use Rattle.shared_machine.specs.Pickers.{AreDrawn}
use Rattle.shared_machine.specs.Shared.{SharedData, LockedData, began_with}
use Rattle.sn_base.specs.declared.limits.TheConstants.{EVENTS}

-- the journal, folded from the run's start, gives the machine, the answers and the driver's numbers; each of its events was due
-- for its worker, which is a node's, with that worker's next pick, and fits the machine, where the rules are ones for its nodes;
-- no other event was applied, and there are no more than the budget; what was passed on to the console is the first of what is
-- released
pub record FollowsJournal (s : LockedData) : Type 0 where
  pub state : s.machine.state ≡ state_of (began_with s) s.journal
  pub answers : s.answers ≡ answers_of (began_with s) s.journal
  pub numbers : s.driver.numbers ≡ numbers_of (began_with s) s.journal
  pub due : IsDue (began_with s) s.journal
  pub workers : All (λ e. e.worker < s.machine.config.nodes) s.journal
  pub fit : AreRules s.driver.rules s.machine.config.nodes → AllFit s.machine.config.nodes (events_of s.journal)
  pub applied : s.machine.applied ≡ length s.journal
  pub few : length s.journal ≤ s.budget
  pub passed : IsFirstOf s.passed s.machine.state.released

-- and there is room for the rest of the budget, and for one event more
pub record HasRoomForRest (s : LockedData) : Type 0 where
  pub nodes : s.driver.nodes ≡ s.machine.config.nodes
  pub budget : s.budget ≤ EVENTS
  pub spare : s.budget + 1 ≤ length s.journal + s.machine.spare
  pub done : s.driver.numbers.done ≤ length s.journal

-- a run that can begin, with its workers' generators
pub record CanBegin (s : SharedData) (pickers : List Picker) : Type 0 where
  pub state : s.machine.state ≡ start_of s.machine.image s.machine.config.nodes
  pub applied : s.machine.applied ≡ 0
  pub numbers : s.driver.numbers ≡ first_numbers
  pub nodes : s.driver.nodes ≡ s.machine.config.nodes
  pub budget : s.budget ≤ EVENTS
  pub spare : s.budget + 1 ≤ s.machine.spare
  pub drawn : AreDrawn s.seed [] pickers
  pub drawers : length pickers ≡ s.machine.config.nodes
