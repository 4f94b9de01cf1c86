-- What is found of a save file, one thing after another, is what it is judged by.
use Rattle.std.proofs.Common.{true≢false, ◌≡◌, ℕ, zero, suc, ◌+◌, Bool, true, false, not, List, [], ◌∷◌, refl, ap, sym, subst, ◌∙◌, arith}
use Rattle.std.proofs.lemmas.Bool.Decides.{nat_tests}
use Rattle.std.specs.Prelude.{if◌then◌else◌, Some, None, is_some, Result, Ok, Err}
use Rattle.sn_base.specs.Image.{ImageData}
use Rattle.route_plan.specs.Routes.{first_cut_off}
use Rattle.rv_core.specs.declared.step.Record.{Record}
use Rattle.rv_core.specs.declared.step.Want.{Want}
use Rattle.rv_core.specs.Core.{is_input}
use Rattle.rv_core.specs.Flat.{FlatState, HasStep, HasStepWanting, core_at, flat_start, flat_step}
use Rattle.rv_core.specs.Execution.{Executes}
use Rattle.rv_core.specs.Step.{want_of}
use Rattle.sn_consistency.specs.Projections.{FirstWithoutStep}
use Rattle.sn_saved.specs.Saved.{Saved, living_in, first_unread}
use Rattle.save_text.specs.declared.cause.SaveCause.{SaveCause}
use Rattle.save_text.specs.declared.cause.SaveCause.TheVariants.{CutOff, SetFull, NotLegal, Unread}
use Rattle.save_text.specs.declared.cause.SaveFault.{SaveFault}
use Rattle.save_text.specs.declared.cause.SaveFault.TheVariants.{Refused, Memory}
use Rattle.save_text.specs.Lines.{IsRefusedAs}
use Rattle.save_text.specs.Judged.{full_line, is_step_wanting, is_step, illegal_from, first_illegal, Fits, IsLegal, IsGood, judged, judged_of}

-- a byte is read just where one is wanted
read-true : (wanted given : Bool) → given ≡ wanted → (if wanted then given else not given) ≡ true
read-true true true e = refl
read-true false false e = refl
read-true true false e = absurd (true≢false (sym e))
read-true false true e = absurd (true≢false e)

read-is : (wanted given : Bool) → (if wanted then given else not given) ≡ true → given ≡ wanted
read-is true true e = refl
read-is false false e = refl
read-is true false e = e
read-is false true e = sym e

wanting-true : (flat : FlatState) (want : Want) (r : Record) → HasStepWanting flat want r → is_step_wanting flat want r ≡ true
wanting-true flat want r h =
    grind (arith, nat_tests, h.within, h.running, h.seen, h.done, read-true (is_input want) (is_some r.read) h.read)

wanting-has : (flat : FlatState) (want : Want) (r : Record) → is_step_wanting flat want r ≡ true → HasStepWanting flat want r
wanting-has flat want r e = record {
  within = grind (arith, nat_tests);
  running = grind (arith, nat_tests);
  seen = grind (arith, nat_tests);
  done = λ d. grind (arith, nat_tests);
  read = read-is (is_input want) (is_some r.read) (grind (arith, nat_tests));
}

module _ (image : ImageData) where
  step-true : (flat : FlatState) (r : Record) → HasStep image flat r → is_step image flat r ≡ true
  step-true flat r h = wanting-true flat (want_of image (core_at flat r.core)) r h

  step-has : (flat : FlatState) (r : Record) → is_step image flat r ≡ true → HasStep image flat r
  step-has flat r e = wanting-has flat (want_of image (core_at flat r.core)) r e

  -- an execution has no first record without a step
  legal-none : (records : List Record) (flat : FlatState) (number : ℕ) → Executes image flat records →
      illegal_from image flat records number ≡ None
  legal-none [] flat number h = refl
  legal-none (r ∷ records) flat number (has, rest) = rw (step-true flat r has) (legal-none records (flat_step image flat r) (number + 1) rest)

  -- the first without a step, where it is one or isn't
  first-here : (flat : FlatState) (r : Record) (records : List Record) (number : ℕ) (is : Bool) → is_step image flat r ≡ is →
      (HasStep image flat r → ⊥) → illegal_from image flat (r ∷ records) number ≡ Some number
  first-here flat r records number true e none = absurd (none (step-has flat r e))
  first-here flat r records number false e none = rw e refl

  next-of : (flat : FlatState) (r : Record) (records : List Record) (place : ℕ) → FirstWithoutStep image flat (r ∷ records) (suc place) →
      FirstWithoutStep image (flat_step image flat r) records place
  next-of flat r records place h = record {
    within = omega (arith, h.within);
    before = h.before.1;
    none = h.none;
  }

  illegal-some : (records : List Record) (flat : FlatState) (place number : ℕ) → FirstWithoutStep image flat records place →
      illegal_from image flat records number ≡ Some (number + place)
  illegal-some [] flat place number h = absurd (omega (arith, h.within))
  illegal-some (r ∷ records) flat zero number h =
      first-here flat r records number (is_step image flat r) refl (h.none r refl) ∙ ap (λ n. Some n) (omega arith)
  illegal-some (r ∷ records) flat (suc place) number h =
      rw (step-true flat r h.before.0)
      (illegal-some records (flat_step image flat r) place (number + 1) (next-of flat r records place h) ∙ ap (λ n. Some n) (omega arith))

  module _ (saved : Saved) where
    pub is_cut_off : (a b : ℕ) → first_cut_off (living_in saved) ≡ Some (a, b) → judged image saved ≡ Err (CutOff a b)
    is_cut_off a b e = rw e refl

    pub is_too_full : (line : ℕ) → first_cut_off (living_in saved) ≡ None → full_line saved ≡ Some line → judged image saved ≡ Err (SetFull line)
    is_too_full line joined full = rw joined (rw full refl)

    pub is_not_legal : (nodes place : ℕ) (records : List Record) → nodes ≡ saved.config.nodes → records ≡ saved.committed → Fits saved →
        FirstWithoutStep image (flat_start image nodes) records place → judged image saved ≡ Err (NotLegal (place + 1))
    is_not_legal nodes place records sizes same fits first =
        let here : FirstWithoutStep image (flat_start image saved.config.nodes) saved.committed place =
        subst (λ (n : ℕ). FirstWithoutStep image (flat_start image n) saved.committed place) sizes
        (subst (λ (rs : List Record). FirstWithoutStep image (flat_start image nodes) rs place) same first) in
        let found : first_illegal image saved ≡ Some (place + 1) =
        illegal-some saved.committed (flat_start image saved.config.nodes) place 1 here ∙ ap (λ n. Some n) (omega arith) in
        rw fits.0 (rw fits.1 (rw found refl))

    pub is_not_given : (node : ℕ) → IsLegal image saved → first_unread saved ≡ Some node → judged image saved ≡ Err (Unread node)
    is_not_given node (fits, execution) unread =
        rw fits.0 (rw fits.1
        (rw (legal-none saved.committed (flat_start image saved.config.nodes) 1 execution) (rw unread refl)))

    pub is_good : IsGood image saved → judged image saved ≡ Ok saved
    is_good ((fits, execution), read) =
        rw fits.0 (rw fits.1
        (rw (legal-none saved.committed (flat_start image saved.config.nodes) 1 execution) (rw read refl)))

    -- what the lines say is judged
    pub of_said : (said given : Result Saved SaveCause) → said ≡ Ok saved → judged image saved ≡ given → judged_of image said ≡ given
    of_said said given is h = ap (judged_of image) is ∙ h

    pub refused_so : (said : Result Saved SaveCause) (fault : SaveFault) → said ≡ Ok saved → IsRefusedAs (judged image saved) fault →
        IsRefusedAs (judged_of image said) fault
    refused_so said Memory is h = tt
    refused_so said (Refused cause) is h = of_said said (Err cause) is h

  -- what the lines refuse stays refused
  pub refused_by_lines : (said : Result Saved SaveCause) (fault : SaveFault) → IsRefusedAs said fault → IsRefusedAs (judged_of image said) fault
  refused_by_lines said Memory h = tt
  refused_by_lines said (Refused cause) h = ap (judged_of image) h
