use Rattle.std.proofs.Common.{ap, ◌∙◌}
use Rattle.rv_core.specs.Core.{bare}
use Rattle.rv_core.specs.Flat.{core_at}
use Rattle.sn_machine.specs.Machine.{MachineData, flat_of}
use Rattle.sn_machine.proofs.Shown.{core-kept, core-shown}
use Rattle.sn_machine.proofs.view.View.core.Goals as goal

pub get-requires : goal.get-requires
get-requires c =
    core-kept c.machine.inside.image c.machine.inside.config c.machine.inside.hardware c.machine.inside.applied c.machine.inside.spare c.machine.invariant c.args.node c.from.result c.point-point.result c.index.result.now
    (rw (← c.self.view_is, ← c.machine.view_is) at c.requires) (c.from.ensures ∙ c.number.ensures.same) c.index.ensures
    c.point-point.ensures

pub returns : goal.returns
returns c =
    core-shown c.machine.inside.image c.machine.inside.config c.machine.inside.hardware c.machine.inside.applied c.machine.inside.spare c.machine.invariant c.args.node c.from.result c.index.result.now c.get.result.now
    (rw (← c.self.view_is, ← c.machine.view_is) at c.requires) (c.from.ensures ∙ c.number.ensures.same) c.index.ensures
    (rw c.point-point.ensures at c.get.ensures.core)
    ∙ ap (λ (d : MachineData). bare (core_at (flat_of d) c.args.node)) (c.machine.view_is ∙ c.self.view_is)
