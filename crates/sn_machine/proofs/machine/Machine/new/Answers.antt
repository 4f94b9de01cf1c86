use Rattle.sn_machine.proofs.Invariant.{starts}
use Rattle.sn_machine.proofs.machine.Machine.new.Goals as goal

pub invariant_of-result : goal.invariant_of-result
invariant_of-result c = starts c.args.image c.args.config c.in_ok-hardware.hardware c.requires.fits c.in_ok-hardware.ensures
