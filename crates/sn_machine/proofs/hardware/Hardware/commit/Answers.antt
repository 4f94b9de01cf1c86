use Rattle.std.proofs.Common.{refl}
use Rattle.sn_machine.proofs.Validations.{commit-done, controller-next}
use Rattle.sn_machine.proofs.hardware.Hardware.commit.Goals as goal

pub returns : goal.returns
returns c =
    commit-done c.args.self.now _ c.args.k c.requires.whole c.requires.next c.advance-answer.result c.in-Validated.field-0 c.in-Validated.is c.requires.sound c.advance-answer.ensures refl
    (controller-next c.args.self.now c.advance.result c.advance.new.self c.requires.whole c.requires.ready c.advance.ensures.same c.advance.ensures.moved) c.commit_below.ensures c.release_below.ensures refl
