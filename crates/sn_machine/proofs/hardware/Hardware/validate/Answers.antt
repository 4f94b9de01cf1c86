use Rattle.sn_machine.proofs.Validations.{check-ready, commits-all}
use Rattle.sn_machine.proofs.hardware.Hardware.validate.Goals as goal

pub returns-in-Ok : goal.returns-in-Ok
returns-in-Ok c =
    let ready = check-ready c.args.self.now c.in-Ok.k c.requires.whole c.in-Ok.ensures in
    commits-all c.args.self.now _ c.commit.result c.in-Ok.k ready.0 ready.1 c.commit.ensures
