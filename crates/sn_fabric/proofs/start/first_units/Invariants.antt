use Rattle.std.proofs.Common.{◌≡◌}
use Rattle.sn_fabric.specs.Start.{units_below}
use Rattle.sn_fabric.proofs.start.first_units.Given as goal

abbrev pub invariant-nodes : goal.invariant-nodes
invariant-nodes l = l.units.items ≡ units_below l.number l.config
