use Rattle.std.proofs.Common.{◌≡◌}
use Rattle.sn_fabric.specs.Resumed.{units_resumed}
use Rattle.sn_fabric.proofs.resuming.resumed_units.Given as goal

abbrev pub invariant-nodes : goal.invariant-nodes
invariant-nodes l = l.units.items ≡ units_resumed l.number l.config l.contents l.owners l.point
