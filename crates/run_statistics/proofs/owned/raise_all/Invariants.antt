use Rattle.std.proofs.Common.{◌≡◌}
use Rattle.run_statistics.specs.Numbers.{with_greatest_below}
use Rattle.run_statistics.specs.Owned.{owned_blocks}
use Rattle.run_statistics.proofs.owned.raise_all.Given as goal

abbrev pub invariant-nodes : goal.invariant-nodes
invariant-nodes l = l.most ≡ with_greatest_below (owned_blocks l.machine.state.fabric) l.number l.initial.most
