use Rattle.std.proofs.Common.{◌≡◌, take, length}
use Rattle.sn_machine.specs.Machine.{flat_of}
use Rattle.sn_monitor.specs.Cut.{bare_cores}
use Rattle.sn_monitor.proofs.cut.cores_of.Given as goal

abbrev pub invariant-nodes : goal.invariant-nodes
invariant-nodes l = (take l.number l.cores ≡ bare_cores l.number (flat_of l.view)) × (length l.cores ≡ 16)
