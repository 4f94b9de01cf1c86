-- Released bytes only grow.
use Rattle.std.proofs.Common.{◌≡◌, ℕ, Bool, true, false, List, [], ◌++◌, refl, ap, sym, ◌∙◌, append-nil}
use Rattle.sn_base.specs.Image.{ImageData}
use Rattle.sn_base.specs.declared.config.Config.{Config}
use Rattle.sn_base.specs.declared.event.Event.{Event}
use Rattle.sn_base.specs.declared.event.Answer.{Answer}
use Rattle.sn_base.specs.declared.event.Answer.TheVariants.{Validated}
use Rattle.sn_model.specs.Machine.{State}
use Rattle.sn_model.specs.Instructions.{MachineStep}
use Rattle.due_events.specs.Headline.{IsStepOfRun}

abbrev is_validation : Answer → Bool
is_validation (Validated k) = true
is_validation _ = false

validation-is : (a : Answer) → is_validation a ≡ true → (k : ℕ) × (a ≡ Validated k)
validation-is (Validated k) e = (k, refl)
validation-is _ e = absurd cc

pub released-grows : (image : ImageData) (config : Config) (s : State) (event : Event) (next : MachineStep) →
    IsStepOfRun image config s event next → (fresh : List ℕ) × (next.state.released ≡ s.released ++ fresh)
released-grows image config s event next says = by_answer (is_validation next.answer) refl
  where
    by_answer : (b : Bool) → is_validation next.answer ≡ b → (fresh : List ℕ) × (next.state.released ≡ s.released ++ fresh)
    by_answer true e = let v = validation-is next.answer e in (_, (says.grows v.0 v.1).1)
    by_answer false e =
        ([], (says.stays (λ k is. let t : is_validation next.answer ≡ true = ap is_validation is in cc)).1 ∙ sym (append-nil s.released))
