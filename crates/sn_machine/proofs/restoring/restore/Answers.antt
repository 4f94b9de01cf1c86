use Rattle.std.proofs.Common.{◌∙◌, ap}
use Rattle.reg_ckpt.specs.Checkpoints.{Checkpoints, dropped_above}
use Rattle.sn_machine.proofs.Restorations.{restored-one}
use Rattle.sn_machine.proofs.restoring.restore.Goals as goal

pub returns : goal.returns
returns c =
    restored-one c.args.processor.now c.args.k c.get.result.now c.drop_above.new.self c.requires c.get.ensures.core
    (c.drop_above.ensures ∙ ap (λ (x : Checkpoints). dropped_above x c.args.k) c.free_below.ensures)
