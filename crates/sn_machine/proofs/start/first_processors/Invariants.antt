use Rattle.std.proofs.Common.{◌≡◌}
use Rattle.sn_machine.specs.Start.{units_below}
use Rattle.sn_machine.proofs.start.first_processors.Given as goal

abbrev pub invariant-nodes : goal.invariant-nodes
invariant-nodes l = l.processors.items ≡ units_below l.number l.entry
