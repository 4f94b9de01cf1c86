use Rattle.std.proofs.Common.{◌≡◌}
use Rattle.sn_fabric.specs.Start.{homes_below}
use Rattle.sn_fabric.proofs.start.first_homes.Given as goal

abbrev pub invariant-nodes : goal.invariant-nodes
invariant-nodes l = l.homes.items ≡ homes_below l.number l.image l.nodes
