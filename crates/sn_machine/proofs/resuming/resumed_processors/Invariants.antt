use Rattle.std.proofs.Common.{◌≡◌}
use Rattle.sn_machine.specs.Resumed.{units_resumed}
use Rattle.sn_machine.proofs.resuming.resumed_processors.Given as goal

abbrev pub invariant-nodes : goal.invariant-nodes
invariant-nodes l = l.processors.items ≡ units_resumed l.number l.flat l.given l.point
