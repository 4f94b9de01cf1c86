use Rattle.std.proofs.Common.{◌≡◌}
use Rattle.run_statistics.specs.Intervals.{are_in}
use Rattle.run_statistics.proofs.intervals.are_in.Given as goal

abbrev pub invariant-nodes : goal.invariant-nodes
invariant-nodes l = l.all ≡ are_in l.k l.machine.state.fabric l.number
