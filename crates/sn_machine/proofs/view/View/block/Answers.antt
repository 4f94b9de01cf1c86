use Rattle.std.proofs.Common.{ap, ◌∙◌, arith}
use Rattle.sn_model.specs.RecoveryPoint.{block_in}
use Rattle.sn_machine.specs.Machine.{MachineData, flat_of}
use Rattle.sn_machine.proofs.AtCut.{block-shown}
use Rattle.sn_machine.proofs.Shown.{settled}
use Rattle.sn_machine.proofs.view.View.block.Goals as goal

pub content_at-requires-clause-settled : goal.content_at-requires-clause-settled
content_at-requires-clause-settled c =
    settled c.machine.inside.image c.machine.inside.config c.machine.inside.hardware c.machine.inside.applied c.machine.inside.spare c.machine.invariant c.args.block c.point.result
    (omega (arith, c.number-number.ensures.small, c.number-number.ensures.same)) c.point.ensures

pub returns : goal.returns
returns c =
    block-shown c.machine.inside.image c.machine.inside.config c.machine.inside.hardware c.machine.inside.applied c.machine.inside.spare c.machine.invariant c.args.block c.point.result
    c.content_at.result.now (omega (arith, c.number-number.ensures.small, c.number-number.ensures.same)) c.point.ensures c.content_at.ensures
    ∙ ap (λ (d : MachineData). block_in (flat_of d).memory c.args.block) (c.machine.view_is ∙ c.self.view_is)
