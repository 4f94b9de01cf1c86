use Rattle.std.proofs.Common.{◌≡◌, true}
use Rattle.sn_machine.specs.Looks.{have_ended}
use Rattle.sn_machine.specs.Machine.{flat_of}
use Rattle.sn_machine.proofs.machine.Machine.over.Given as goal

abbrev pub invariant-nodes : goal.invariant-nodes
invariant-nodes l = have_ended l.number (flat_of l.view) ≡ true
