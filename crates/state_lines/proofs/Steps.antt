-- A step that retires: its record, and that its core could finish so.
use Rattle.std.proofs.Common.{◌≡◌, ℕ, Bool, true, false, not, List, [], ◌∷◌, ◌++◌, refl, ap, sym, ◌∙◌, append-nil}
use Rattle.std.proofs.Common.{subst}
use Rattle.std.specs.Prelude.{codes, if◌then◌else◌, is_some, IfSome, Option, Some, None}
use Rattle.sn_base.specs.Image.{ImageData}
use Rattle.sn_base.specs.declared.config.Config.{Config}
use Rattle.sn_base.specs.declared.event.Event.{Event}
use Rattle.sn_base.specs.declared.event.Event.TheVariants.{Step}
use Rattle.sn_base.specs.declared.event.Answer.{Answer}
use Rattle.sn_base.specs.declared.event.Answer.TheVariants.{Retired, Ended}
use Rattle.rv_core.specs.declared.state.CoreState.{CoreState}
use Rattle.rv_core.specs.declared.step.Record.{Record}
use Rattle.rv_core.specs.declared.step.Want.{Want}
use Rattle.rv_core.specs.declared.step.Want.TheVariants.{Nothing, Load, Store, Amo, Lr, Sc, Input}
use Rattle.rv_core.specs.Core.{is_running, is_input, holds_reservation}
use Rattle.rv_core.specs.Step.{want_of}
use Rattle.sn_model.specs.Access.{has_miss}
use Rattle.sn_model.specs.Fabric.{node_at}
use Rattle.sn_model.specs.Machine.{State, Retirement, processor_at}
use Rattle.sn_model.specs.Instructions.{MachineStep, found_by, found_at, record_with, next_byte, is_retired, machine_step_refused}
use Rattle.sn_model.specs.Instructions.{takes_input, step_wanting, step_of_instruction}
use Rattle.sn_model.specs.Step.{step_of}
use Rattle.sn_model.specs.Trace.{entry_at}
use Rattle.machine_states.specs.Machine.{MachineData, IsApplied, next_of}
use Rattle.consistent_cuts.specs.Headline.{IsStepOfRun}
use Rattle.consistent_cuts.specs.Lists.{retirement_of}
use Rattle.state_json.specs.Json.{member}
use Rattle.state_json.specs.Details.{step_text, of_step, details_text}
use Rattle.state_lines.specs.Steps.{CanFinish, core_step_text}

-- what retires runs, and its access or its input is served

tests-passed : (s : State) (runs misses : Bool) (x : MachineStep) (refusal : Answer) →
    (if not runs then machine_step_refused s Ended else if misses then machine_step_refused s refusal else x).answer ≡ Retired →
    (refusal ≡ Retired → ⊥) → (runs ≡ true) × (x.answer ≡ Retired)
tests-passed s true true x refusal e other = absurd (other e)
tests-passed s true false x refusal e other = (refl, e)
tests-passed s false misses x refusal e other = absurd cc

input-taken : (image : ImageData) (s : State) (n : ℕ) (o : Option ℕ) → (takes_input image s n o).answer ≡ Retired → is_some o ≡ true
input-taken image s n None e = absurd cc
input-taken image s n (Some byte) e = refl

byte-read : (image : ImageData) (config : Config) (s : State) (n : ℕ) (w : Want) → (step_wanting image config s n w).answer ≡ Retired →
    is_some (found_by s n w).read ≡ is_input w
byte-read image config s n Nothing e = refl
byte-read image config s n (Load a) e = refl
byte-read image config s n (Store a) e = refl
byte-read image config s n (Amo a) e = refl
byte-read image config s n (Lr a) e = refl
byte-read image config s n (Sc a) e = refl
byte-read image config s n Input e = input-taken image s n (next_byte s n) e

done-reserved : (s : State) (n : ℕ) (w : Want) → (found_by s n w).sc_done ≡ true → holds_reservation (processor_at s n).core w ≡ true
done-reserved s n Nothing e = absurd cc
done-reserved s n (Load a) e = absurd cc
done-reserved s n (Store a) e = absurd cc
done-reserved s n (Amo a) e = absurd cc
done-reserved s n (Lr a) e = absurd cc
done-reserved s n (Sc a) e = e
done-reserved s n Input e = absurd cc

module _ (image : ImageData) (config : Config) (s : State) (n : ℕ) where
  passed : (step_of_instruction image config s n).answer ≡ Retired →
      (is_running (processor_at s n).core.end ≡ true)
      × ((step_wanting image config s n (want_of image (processor_at s n).core)).answer ≡ Retired)
  passed e =
      tests-passed s (is_running (processor_at s n).core.end) (has_miss (node_at s.fabric n).cache.miss)
      (step_wanting image config s n (want_of image (processor_at s n).core)) _ e (λ other. cc)

  can-finish : (step_of_instruction image config s n).answer ≡ Retired →
      CanFinish image (processor_at s n).core (record_with n (found_at image s n))
  can-finish e = record {
    running = (passed e).0;
    reserved = done-reserved s n (want_of image (processor_at s n).core);
    byte = byte-read image config s n (want_of image (processor_at s n).core) (passed e).1;
  }

  pub retired-finishes : (step_of image config s (Step n)).answer ≡ Retired →
      CanFinish image (processor_at s n).core (record_with n (found_at image s n))
  unfolding step_of
  retired-finishes e = can-finish e

-- what is told of a step

step-by : (image : ImageData) (s : State) (n : ℕ) (answer : Answer) (did : Option Record) →
    (if is_retired answer then Some (record_with n (found_at image s n)) else None) ≡ did →
    step_text image s n answer ≡ core_step_text image (processor_at s n).core did
unfolding core_step_text
step-by image s n Retired did e = rw (← e) refl
step-by image s n _ did e = rw (← e) refl

module _ (image : ImageData) (s : State) (n : ℕ) where
  pub told-ended : (text : List ℕ) (answer : Answer) → answer ≡ Ended → text ≡ text ++ details_text image s (Step n) answer
  unfolding details_text
  told-ended text answer e = rw e (sym (append-nil text))

  pub told-retired : (answer : Answer) → answer ≡ Retired →
      details_text image s (Step n) answer
      ≡ member (codes "step") (core_step_text image (processor_at s n).core (Some (record_with n (found_at image s n))))
  unfolding details_text
  told-retired answer e =
      rw e (ap (member (codes "step")) (step-by image s n Retired (Some (record_with n (found_at image s n))) refl))

  other-step : (answer : Answer) → (answer ≡ Ended → ⊥) → of_step image s n answer ≡ member (codes "step") (step_text image s n answer)
  other-step Ended never = absurd (never refl)
  other-step _ never = refl

  no-record : (answer : Answer) → (answer ≡ Retired → ⊥) → (if is_retired answer then Some (record_with n (found_at image s n)) else None) ≡ None
  no-record Retired never = absurd (never refl)
  no-record _ never = refl

  pub told-other : (answer : Answer) → (answer ≡ Ended → ⊥) → (answer ≡ Retired → ⊥) →
      details_text image s (Step n) answer ≡ member (codes "step") (core_step_text image (processor_at s n).core None)
  unfolding details_text
  told-other answer ended retired =
      other-step answer ended ∙ ap (member (codes "step")) (step-by image s n answer None (no-record answer retired))

-- in the words of the machine before and after

module _ (m n : MachineData) (node : ℕ) (answer : Answer) (applied : IsApplied m n (Step node) answer) where
  abbrev core-at : CoreState
  core-at = (processor_at m.state node).core

  abbrev record-at : Record
  record-at = record_with node (found_at m.image m.state node)

  pub applied-answer : (next_of m (Step node)).answer ≡ answer
  applied-answer = sym applied.answer

  module _ (run : IsStepOfRun m.image m.config m.state (Step node) (next_of m (Step node))) (is : answer ≡ Retired) (found : Option Record) (last : (before : List Retirement) (one : Retirement) → n.state.pending ≡ before ++ one ∷ [] → found ≡ Some one.did) (image : ImageData) (core : CoreState) (image_is : image ≡ n.image) (core_is : core ≡ core-at) where
    retired : (next_of m (Step node)).answer ≡ Retired
    retired = applied-answer ∙ is

    found-is : found ≡ Some record-at
    found-is =
        last m.state.pending (retirement_of (entry_at m.image m.state node))
        (ap (λ (t : MachineData). t.state.pending) applied.left ∙ run.retires node refl retired)

    same-image : image ≡ m.image
    same-image = image_is ∙ ap (λ (t : MachineData). t.image) applied.left

    pub step-finishes : IfSome found (CanFinish image core)
    step-finishes =
        subst (λ (o : Option Record). IfSome o (CanFinish image core)) (sym found-is)
        (subst (λ (i : ImageData). CanFinish i core record-at) (sym same-image)
        (subst (λ (k : CoreState). CanFinish m.image k record-at) (sym core_is) (retired-finishes m.image m.config m.state node retired)))

    pub told-by : member (codes "step") (core_step_text image core found)
        ≡ details_text m.image m.state (Step node) (next_of m (Step node)).answer
    told-by =
        ap (λ (i : ImageData). member (codes "step") (core_step_text i core found)) same-image
        ∙ ap (λ (k : CoreState). member (codes "step") (core_step_text m.image k found)) core_is
        ∙ ap (λ (o : Option Record). member (codes "step") (core_step_text m.image core-at o)) found-is
        ∙ sym (told-retired m.image m.state node (next_of m (Step node)).answer retired)

  pub told-by-none : (answer ≡ Ended → ⊥) → (answer ≡ Retired → ⊥) → (image : ImageData) (core : CoreState) → image ≡ n.image →
      core ≡ core-at → member (codes "step") (core_step_text image core None)
      ≡ details_text m.image m.state (Step node) (next_of m (Step node)).answer
  told-by-none ended retired image core image_is core_is =
      ap (λ (i : ImageData). member (codes "step") (core_step_text i core None)) (image_is ∙ ap (λ (t : MachineData). t.image) applied.left)
      ∙ ap (λ (k : CoreState). member (codes "step") (core_step_text m.image k None)) core_is
      ∙ sym (told-other m.image m.state node (next_of m (Step node)).answer (λ e. ended (applied.answer ∙ e)) (λ e. retired (applied.answer ∙ e)))

pub applied-so : (m n : MachineData) (event : Event) (answer : Answer) → IsApplied m n event answer →
    IsApplied m n event (next_of m event).answer
applied-so m n event answer applied = record { answer = refl; left = applied.left }
