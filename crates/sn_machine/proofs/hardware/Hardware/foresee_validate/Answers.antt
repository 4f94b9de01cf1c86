use Rattle.sn_machine.proofs.Validations.{check-ready}
use Rattle.sn_machine.proofs.hardware.Hardware.foresee_validate.Goals as goal

pub foresee-requires : goal.foresee-requires
foresee-requires c =
    let ready = check-ready c.args.self.now c.in-Ok.k c.requires.whole c.in-Ok.ensures in
    (ready.1, rw ready.1 (c.requires.sound.finished ready.0))
