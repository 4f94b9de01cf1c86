use Rattle.std.proofs.Common.{refl, ◌∙◌}
use Rattle.sn_machine.proofs.Restorations.{recover-done}
use Rattle.sn_machine.proofs.hardware.Hardware.recover.Goals as goal

pub returns : goal.returns
returns c =
    let i = c.point-point.ensures.same ∙ c.requires.whole.point in
    recover-done c.args.self.now _ c.requires.whole c.requires.sound c.recover-answer.result c.in-Recovered.field-0 c.in-Recovered.is
    (rw i at c.recover-answer.ensures) (rw i at c.restore_all.ensures)
    c.reset.ensures c.drop_pending.ensures (rw i at c.drop_from.ensures) refl
