use Rattle.std.proofs.Common.{ap, ◌∙◌, subst}
use Rattle.sn_base.specs.declared.config.Config.{Config}
use Rattle.sn_model.specs.Step.{step_of}
use Rattle.consistent_cuts.specs.Headline.{IsStepOfRun}
use Rattle.sn_machine.specs.Machine.{MachineData, next_of}
use Rattle.sn_machine.specs.Parts.{state_of, Does}
use Rattle.sn_machine.proofs.Invariant.{sound, leads, applies, refused-same, step-of-run}
use Rattle.sn_machine.proofs.machine.Machine.apply.Goals as goal

pub apply-answer-requires-clause-sound : goal.apply-answer-requires-clause-sound
apply-answer-requires-clause-sound c =
    sound c.self.inside.image c.self.inside.config c.self.inside.hardware c.self.inside.applied c.self.inside.spare c.self.invariant

pub invariant_of-self : goal.invariant_of-self
invariant_of-self c =
    applies c.self.inside.image c.self.inside.config c.self.inside.hardware c.apply-answer.new.self c.self.inside.applied c.self.inside.spare c.args.event c.apply-answer.result
    (subst (λ (config : Config). Does c.self.inside.hardware c.apply-answer.new.self c.apply-answer.result
    (step_of c.self.inside.image config (state_of c.self.inside.hardware) c.args.event)) c.self.invariant.sizes c.apply-answer.ensures.done)
    c.self.invariant (rw (← c.self.view_is) at c.requires.room)
    (record { numbers = rw (← c.self.view_is) at c.requires.fits; block = c.apply-answer.ensures.block })

pub returns-clause-led : goal.returns-clause-led
returns-clause-led c =
    leads c.self.inside.image c.self.inside.config c.self.inside.hardware c.apply-answer.new.self c.self.inside.applied c.self.inside.spare c.args.event c.apply-answer.result
    (subst (λ (config : Config). Does c.self.inside.hardware c.apply-answer.new.self c.apply-answer.result
    (step_of c.self.inside.image config (state_of c.self.inside.hardware) c.args.event)) c.self.invariant.sizes c.apply-answer.ensures.done)
    c.args.self.now c.self.view_is
    (record { numbers = rw (← c.self.view_is) at c.requires.fits; block = c.apply-answer.ensures.block })

pub returns-clause-run : goal.returns-clause-run
returns-clause-run c =
    subst (λ (d : MachineData). IsStepOfRun d.image d.config d.state c.args.event (next_of d c.args.event)) c.self.view_is
    (step-of-run c.self.inside.image c.self.inside.config c.self.inside.hardware c.self.inside.applied c.self.inside.spare c.self.invariant c.args.event
    (record { numbers = rw (← c.self.view_is) at c.requires.fits; block = c.apply-answer.ensures.block }))

pub returns-clause-refused : goal.returns-clause-refused
returns-clause-refused c = λ is.
    refused-same c.self.inside.image c.self.inside.config c.self.inside.hardware c.apply-answer.new.self c.self.inside.applied c.self.inside.spare c.args.event c.apply-answer.result
    (subst (λ (config : Config). Does c.self.inside.hardware c.apply-answer.new.self c.apply-answer.result
    (step_of c.self.inside.image config
    (state_of c.self.inside.hardware) c.args.event)) c.self.invariant.sizes c.apply-answer.ensures.done) is
    ∙ ap (λ (d : MachineData). d.state) c.self.view_is
