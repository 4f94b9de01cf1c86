use Rattle.std.proofs.Common.{◌≡◌}
use Rattle.run_statistics.specs.Numbers.{with_greatest_below, no_numbers}
use Rattle.run_statistics.specs.Owned.{owned_blocks_at}
use Rattle.run_statistics.proofs.undone.owned_at_point.Given as goal

abbrev pub invariant-nodes : goal.invariant-nodes
invariant-nodes l =
    l.numbers ≡ with_greatest_below (owned_blocks_at l.machine.state.fabric l.machine.state.fabric.point) l.number no_numbers
