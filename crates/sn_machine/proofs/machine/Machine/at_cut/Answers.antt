use Rattle.sn_machine.specs.Resumed.{saved_by}
use Rattle.sn_machine.proofs.Invariant.{goes_on}
use Rattle.sn_machine.proofs.machine.Machine.at_cut.Goals as goal

pub invariant_of-result : goal.invariant_of-result
invariant_of-result c =
    goes_on c.args.image (saved_by c.args.config c.args.marks c.args.owners.now c.args.given.now c.args.records.now)
    c.in_ok-hardware.hardware c.requires.accepted c.in_ok-hardware.ensures
