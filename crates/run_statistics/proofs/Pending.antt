-- What waits for a validation, from event to event.
use Rattle.std.proofs.Common.{◌≡◌, ℕ, ◌+◌, Bool, true, false, if◌then◌else◌, List, Option, Some, None, refl}
use Rattle.sn_base.specs.Image.{ImageData}
use Rattle.sn_base.specs.declared.config.Config.{Config}
use Rattle.sn_base.specs.declared.event.Event.{Event}
use Rattle.sn_base.specs.declared.event.Event.TheVariants.{Step, Evict, Edge, Hop, Deliver, Lose, Kill, Report, Validate, Recover, Input}
use Rattle.sn_base.specs.declared.event.Answer.{Answer}
use Rattle.sn_base.specs.declared.event.Answer.TheVariants.{Retired}
use Rattle.sn_model.specs.declared.net.News.{News}
use Rattle.sn_model.specs.declared.net.News.TheVariants as told
use Rattle.sn_model.specs.NodeEvents.{step_of_eviction, step_of_edge}
use Rattle.sn_model.specs.NetEvents.{step_of_delivery}
use Rattle.sn_model.specs.PointEvents.{step_of_advance, step_of_recovery}
use Rattle.sn_model.specs.Machine.{State, Retirement, processor_at, with_processor}
use Rattle.sn_model.specs.Instructions.{MachineStep, is_retired}
use Rattle.sn_model.specs.MachineEvents.{is_validated, is_recovered, is_edged, state_after_news, with_checkpoint, validates, unready_node}
use Rattle.sn_model.specs.Step.{step_of}
use Rattle.sn_model.proofs.EachStep.{each_step}

-- whether an event with this answer may change what waits
abbrev pub may_change : Event → Answer → Bool
may_change (Step n) answer = is_retired answer
may_change (Evict n block) answer = false
may_change (Edge n) answer = false
may_change (Hop id) answer = false
may_change (Deliver id) answer = false
may_change (Lose id) answer = false
may_change (Kill switch) answer = false
may_change (Report n) answer = false
may_change Validate answer = is_validated answer
may_change Recover answer = is_recovered answer
may_change (Input n byte) answer = false

abbrev StaysUnless : State → (Answer → Bool) → MachineStep → Type 0
StaysUnless s changes x = changes x.answer ≡ false → x.state.pending ≡ s.pending

retired-changes : (s : State) (pending : List Retirement) → is_retired Retired ≡ false → pending ≡ s.pending
retired-changes s pending e = cc

heard-stays : (s : State) (news : Option News) → (state_after_news s news).pending ≡ s.pending
heard-stays s None = refl
heard-stays s (Some (told.LostCopy n block)) = refl
heard-stays s (Some (told.Ready n k)) = refl
heard-stays s (Some (told.Advance n k)) = refl

chosen-stays : (s : State) (test : Bool) (a : State) → a.pending ≡ s.pending → (if test then a else s).pending ≡ s.pending
chosen-stays s true a e = e
chosen-stays s false a e = refl

unchosen : (s a : State) (test : Bool) → test ≡ false → (if test then a else s).pending ≡ s.pending
unchosen s a true e = cc
unchosen s a false e = refl

validation-stays : (s : State) (unready : Option ℕ) → StaysUnless s is_validated (validates s unready)
validation-stays s (Some n) = λ h. refl
validation-stays s None = λ h. unchosen s _ (is_validated (step_of_advance s.fabric (s.fabric.point + 1)).answer) h

-- no other event does
pub pending-stays : (image : ImageData) (config : Config) (s : State) (event : Event) →
    may_change event (step_of image config s event).answer ≡ false → (step_of image config s event).state.pending ≡ s.pending
unfolding step_of
pending-stays image config s (Step n) =
    each_step image config s n (StaysUnless s is_retired) (λ h. retired-changes s _ h) (λ block need h. refl) (λ h. refl) (λ h. refl) (λ h. refl)
pending-stays image config s (Evict n block) = λ h. heard-stays s (step_of_eviction s.fabric n block).told
pending-stays image config s (Edge n) =
    λ h. chosen-stays s (is_edged (step_of_edge s.fabric n).answer) (with_processor s n (with_checkpoint (processor_at s n))) refl
pending-stays image config s (Hop id) = λ h. refl
pending-stays image config s (Deliver id) = λ h. heard-stays s (step_of_delivery config s.fabric id).told
pending-stays image config s (Lose id) = λ h. refl
pending-stays image config s (Kill switch) = λ h. refl
pending-stays image config s (Report n) = λ h. refl
pending-stays image config s Validate = validation-stays s (unready_node s)
pending-stays image config s Recover = λ h. unchosen s _ (is_recovered (step_of_recovery s.fabric s.fabric.point).answer) h
pending-stays image config s (Input n byte) = λ h. refl

-- an answer that neither retires, nor validates, nor recovers changes nothing that waits
pub calm : (event : Event) (a : Answer) → is_retired a ≡ false → is_validated a ≡ false → is_recovered a ≡ false → may_change event a ≡ false
calm (Step n) a r v c = r
calm (Evict n block) a r v c = refl
calm (Edge n) a r v c = refl
calm (Hop id) a r v c = refl
calm (Deliver id) a r v c = refl
calm (Lose id) a r v c = refl
calm (Kill switch) a r v c = refl
calm (Report n) a r v c = refl
calm Validate a r v c = v
calm Recover a r v c = c
calm (Input n byte) a r v c = refl
