-- What is told of an event that is no step is found before it.
use Rattle.std.proofs.Common.{◌≡◌, ℕ, refl}
use Rattle.sn_base.specs.Image.{ImageData}
use Rattle.sn_base.specs.declared.event.Event.{Event}
use Rattle.sn_base.specs.declared.event.Event.TheVariants.{Step}
use Rattle.sn_base.specs.declared.event.Answer.{Answer}
use Rattle.sn_model.specs.Machine.{State}
use Rattle.state_json.specs.Details.{details_text}
use Rattle.state_lines.specs.Found.{found_text}

pub found-is : (image : ImageData) (s : State) (event : Event) (answer : Answer) → ((n : ℕ) → event ≡ Step n → ⊥) →
    found_text s event answer ≡ details_text image s event answer
unfolding details_text
found-is image s (Step n) answer never = absurd (never n refl)
found-is image s _ answer never = refl
