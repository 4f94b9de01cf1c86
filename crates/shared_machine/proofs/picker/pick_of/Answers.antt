use Rattle.std.proofs.Common.{ap, ◌∙◌}
use Rattle.shared_machine.specs.declared.picker.Picker.{Picker}
use Rattle.shared_machine.proofs.picker.pick_of.Goals as goal

pub returns : goal.returns
returns c =
    λ seed journal drawn. c.pick.ensures
    ∙ ap (λ (d : Picker). d.pick) (c.index.ensures ∙ drawn.each c.args.worker c.index.result.now c.requires)
