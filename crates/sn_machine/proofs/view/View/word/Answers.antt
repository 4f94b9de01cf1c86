use Rattle.std.proofs.Common.{ap, ◌∙◌}
use Rattle.rv_core.specs.Flat.{word_at}
use Rattle.sn_machine.specs.Machine.{MachineData, flat_of}
use Rattle.sn_machine.proofs.Shown.{word-settled, word-shown}
use Rattle.sn_machine.proofs.view.View.word.Goals as goal

pub block_at-content-requires-clause-settled : goal.block_at-content-requires-clause-settled
block_at-content-requires-clause-settled c =
    word-settled c.machine.inside.image c.machine.inside.config c.machine.inside.hardware c.machine.inside.applied c.machine.inside.spare c.machine.invariant c.args.address c.block_at.result c.point.result
    c.requires.low c.requires.high c.block_at.ensures c.point.ensures

pub returns : goal.returns
returns c =
    word-shown c.machine.inside.image c.machine.inside.config c.machine.inside.hardware c.machine.inside.applied c.machine.inside.spare c.machine.invariant c.args.address c.offset.result c.block_at.result c.point.result
    c.load.result c.block_at-content.result c.requires.low c.requires.high c.requires.aligned c.offset.ensures.same c.block_at.ensures c.point.ensures c.block_at-content.ensures c.load.ensures
    ∙ ap (λ (d : MachineData). word_at (flat_of d).memory c.args.address) (c.machine.view_is ∙ c.self.view_is)
