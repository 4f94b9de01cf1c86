use Rattle.std.proofs.Common.{◌≡◌, ◌∙◌, length, subst}
use Rattle.sn_model.specs.Caches.{block_count}
use Rattle.sn_base.specs.declared.event.Event.TheVariants.{Recover}
use Rattle.sn_model.specs.RecoveryPoint.{IsCut}
use Rattle.consistent_cuts.specs.Headline.{IsStepOfRun}
use Rattle.sn_machine.specs.Machine.{MachineData, flat_of, next_of}
use Rattle.sn_machine.proofs.AtCut.{homes, cut, back}
use Rattle.sn_machine.proofs.view.View.is_cut.Goals as goal

pub returns-clause-homes : goal.returns-clause-homes
returns-clause-homes c =
    subst (λ (d : MachineData). length d.state.fabric.homes ≡ block_count) (c.machine.view_is ∙ c.self.view_is)
    (homes c.machine.inside.image c.machine.inside.config c.machine.inside.hardware c.machine.inside.applied c.machine.inside.spare c.machine.invariant)

pub returns-clause-cut : goal.returns-clause-cut
returns-clause-cut c =
    subst (λ (d : MachineData). IsCut d.state d.state.fabric.point (flat_of d)) (c.machine.view_is ∙ c.self.view_is)
    (cut c.machine.inside.image c.machine.inside.config c.machine.inside.hardware c.machine.inside.applied c.machine.inside.spare c.machine.invariant)

pub returns-clause-back : goal.returns-clause-back
returns-clause-back c =
    subst (λ (d : MachineData). IsStepOfRun d.image d.config d.state Recover (next_of d Recover)) (c.machine.view_is ∙ c.self.view_is)
    (back c.machine.inside.image c.machine.inside.config c.machine.inside.hardware c.machine.inside.applied c.machine.inside.spare c.machine.invariant)
