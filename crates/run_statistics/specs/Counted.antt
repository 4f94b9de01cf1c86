-- What a count that rides along with a run knows of it.
use Rattle.std.specs.Prelude.{◌≡◌, ℕ, true, List}
use Rattle.sn_base.specs.declared.event.Event.{Event}
use Rattle.consistent_cuts.specs.Headline.{state_of_run}
use Rattle.sn_machine.specs.Machine.{MachineData}
use Rattle.run_statistics.specs.declared.count.Count.{Count}
use Rattle.run_statistics.specs.declared.statistics.Statistics.{Statistics}
use Rattle.run_statistics.specs.Instructions.{waiting_by_node}
use Rattle.run_statistics.specs.Owned.{AreOwned}
use Rattle.run_statistics.specs.Statistics.{statistics_of}

-- these events led to the machine, and these are their statistics, with the records that wait and the blocks that each cache owns now
pub record AreCounted (x : Statistics) (numbers : List ℕ) (m : MachineData) (events : List Event) : Type 0 where
  pub led : m.state ≡ state_of_run m.image m.config events
  pub statistics : x ≡ statistics_of m.image m.config events
  pub waits : x.instructions.waiting ≡ waiting_by_node m.state.pending
  pub owned : AreOwned m.config.nodes m.state.fabric numbers

-- so it is of a count that still counts
abbrev pub Counts : Count → MachineData → List Event → Type 0
Counts count m events = count.on ≡ true → AreCounted count.statistics count.owned m events
