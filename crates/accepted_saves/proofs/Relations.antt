-- What holds of what a save file says, by what it is judged to be.
use Rattle.std.proofs.Common.{true≢false, ◌≡◌, ℕ, suc, ◌+◌, ◌≤◌, ◌↔◌, Bool, true, false, not, List, [], ◌∷◌, refl, ap, sym, subst, ◌∙◌, arith}
use Rattle.std.proofs.lemmas.Bool.Decides.{nat_tests}
use Rattle.std.specs.Prelude.{if◌then◌else◌, Option, Some, None, option_map, is_some, Result, Ok, Err}
use Rattle.sn_base.specs.Image.{ImageData}
use Rattle.route_plan.specs.Routes.{first_cut_off}
use Rattle.rv_core.specs.declared.step.Record.{Record}
use Rattle.rv_core.specs.declared.step.Want.{Want}
use Rattle.rv_core.specs.Core.{is_input}
use Rattle.rv_core.specs.Flat.{FlatState, HasStep, HasStepWanting, core_at, flat_start, flat_step}
use Rattle.rv_core.specs.Execution.{Executes}
use Rattle.rv_core.specs.Step.{want_of}
use Rattle.sn_consistency.specs.Projections.{FirstWithoutStep}
use Rattle.sn_saved.specs.Saved.{Saved, IsInForm, IsAccepted, living_in, first_full, first_unread}
use Rattle.save_text.specs.declared.cause.SaveCause.{SaveCause}
use Rattle.save_text.specs.declared.cause.SaveCause.TheVariants.{CutOff, SetFull, NotLegal, Unread}
use Rattle.save_text.specs.Judged.{line_of_owner, full_line, is_step_wanting, is_step, illegal_from, first_illegal, refused_or, Fits, IsLegal, IsGood, judged, judged_of}
use Rattle.save_text.specs.Reading.{said_by}
use Rattle.save_text.proofs.InForm.{accepted_by}
use Rattle.save_text.proofs.Judged.{is_cut_off, is_too_full, is_not_legal, is_not_given, is_good, of_said}
use Rattle.accepted_saves.specs.Causes.{IsOfPoint}

none_is_some : (n : ℕ) → ◌≡◌ {A = Option ℕ} None (Some n) → ⊥
none_is_some n e = cc

both_some : (a b : ℕ) → ◌≡◌ {A = Option ℕ} (Some a) (Some b) → a ≡ b
both_some a b e = cc

none_mapped : (f : ℕ → ℕ) (found : Option ℕ) → option_map f found ≡ None → found ≡ None
none_mapped f None e = refl
none_mapped f (Some n) e = absurd (none_is_some (f n) (sym e))

-- a record is a step exactly where it is found to be one

read_true : (wanted given : Bool) → given ≡ wanted → (if wanted then given else not given) ≡ true
read_true true true e = refl
read_true false false e = refl
read_true true false e = absurd (true≢false (sym e))
read_true false true e = absurd (true≢false e)

read_is : (wanted given : Bool) → (if wanted then given else not given) ≡ true → given ≡ wanted
read_is true true e = refl
read_is false false e = refl
read_is true false e = e
read_is false true e = sym e

wanting_true : (flat : FlatState) (want : Want) (r : Record) → HasStepWanting flat want r → is_step_wanting flat want r ≡ true
wanting_true flat want r h =
    grind (arith, nat_tests, h.within, h.running, h.seen, h.done, read_true (is_input want) (is_some r.read) h.read)

wanting_has : (flat : FlatState) (want : Want) (r : Record) → is_step_wanting flat want r ≡ true → HasStepWanting flat want r
wanting_has flat want r e = record {
  within = grind (arith, nat_tests);
  running = grind (arith, nat_tests);
  seen = grind (arith, nat_tests);
  done = λ d. grind (arith, nat_tests);
  read = read_is (is_input want) (is_some r.read) (grind (arith, nat_tests));
}

module _ (image : ImageData) where
  step_true : (flat : FlatState) (r : Record) → HasStep image flat r → is_step image flat r ≡ true
  step_true flat r h = wanting_true flat (want_of image (core_at flat r.core)) r h

  step_has : (flat : FlatState) (r : Record) → is_step image flat r ≡ true → HasStep image flat r
  step_has flat r e = wanting_has flat (want_of image (core_at flat r.core)) r e

  -- the first record without a step is this one or among the others

  first_of : (flat : FlatState) (r : Record) (records : List Record) (number : ℕ) (is : Bool) → is_step image flat r ≡ is →
      illegal_from image flat (r ∷ records) number
      ≡ (if is then illegal_from image (flat_step image flat r) records (number + 1) else Some number)
  first_of flat r records number is i =
      ap (λ (b : Bool). if b then illegal_from image (flat_step image flat r) records (number + 1) else Some number) i

  at_first : (flat : FlatState) (r : Record) (records : List Record) → (HasStep image flat r → ⊥) → FirstWithoutStep image flat (r ∷ records) 0
  at_first flat r records never = record {
    within = omega (arith);
    before = tt;
    none = λ q is has. let same : r ≡ q = cc in never (subst (HasStep image flat) (sym same) has);
  }

  later : (flat : FlatState) (r : Record) (records : List Record) (place : ℕ) → HasStep image flat r →
      FirstWithoutStep image (flat_step image flat r) records place → FirstWithoutStep image flat (r ∷ records) (suc place)
  later flat r records place has first = record {
    within = let w = first.within in omega (arith, w);
    before = (has, first.before);
    none = λ q is. first.none q is;
  }

  -- where none is found all are steps, and where one is found it is the first

  none_found : (records : List Record) (flat : FlatState) (number : ℕ) → illegal_from image flat records number ≡ None → Executes image flat records
  none_found [] flat number e = tt
  none_found (r ∷ records) flat number e =
      go (is_step image flat r) refl (λ none. none_found records (flat_step image flat r) (number + 1) none)
    where
      go : (is : Bool) → is_step image flat r ≡ is →
          (illegal_from image (flat_step image flat r) records (number + 1) ≡ None → Executes image (flat_step image flat r) records) →
          Executes image flat (r ∷ records)
      go true i others = (step_has flat r i, others (sym (first_of flat r records number true i) ∙ e))
      go false i others = absurd (none_is_some number (sym e ∙ first_of flat r records number false i))

  abbrev HasFirst : FlatState → List Record → ℕ → ℕ → Type 0
  HasFirst flat records number found = (place : ℕ) × (found ≡ number + place) × FirstWithoutStep image flat records place

  one_found : (records : List Record) (flat : FlatState) (number found : ℕ) → illegal_from image flat records number ≡ Some found →
      HasFirst flat records number found
  one_found [] flat number found e = absurd (none_is_some found e)
  one_found (r ∷ records) flat number found e =
      go (is_step image flat r) refl (λ one. one_found records (flat_step image flat r) (number + 1) found one)
    where
      go : (is : Bool) → is_step image flat r ≡ is →
          (illegal_from image (flat_step image flat r) records (number + 1) ≡ Some found →
          HasFirst (flat_step image flat r) records (number + 1) found) →
          HasFirst flat (r ∷ records) number found
      go true i others =
          let h = others (sym (first_of flat r records number true i) ∙ e) in
          let there = h.1 in
          (suc h.0, omega (arith, there), later flat r records h.0 (step_has flat r i) h.2)
      go false i others =
          let here = both_some number found (sym (first_of flat r records number false i) ∙ e) in
          (0, omega (arith, here), at_first flat r records (λ has. true≢false (sym (step_true flat r has) ∙ i)))

  module _ (saved : Saved) where
    -- by what was found, one thing after another
    abbrev judged_by : Option (ℕ × ℕ) → Option ℕ → Option ℕ → Option ℕ → Result Saved SaveCause
    judged_by cut full illegal unread =
        refused_or (λ pair. CutOff pair.0 pair.1) cut
        (refused_or (λ line. SetFull line) full
        (refused_or (λ number. NotLegal number) illegal
        (refused_or (λ node. Unread node) unread (Ok saved))))

    by_good : (cut : Option (ℕ × ℕ)) (full illegal unread : Option ℕ) (other : Saved) → judged_by cut full illegal unread ≡ Ok other →
        (other ≡ saved) × (cut ≡ None) × (full ≡ None) × (illegal ≡ None) × (unread ≡ None)
    by_good None None None None other e = (cc, refl, refl, refl, refl)
    by_good None None None (Some node) other e = absurd (cc)
    by_good None None (Some number) unread other e = absurd (cc)
    by_good None (Some line) illegal unread other e = absurd (cc)
    by_good (Some pair) full illegal unread other e = absurd (cc)

    by_cut_off : (cut : Option (ℕ × ℕ)) (full illegal unread : Option ℕ) (a b : ℕ) → judged_by cut full illegal unread ≡ Err (CutOff a b) →
        cut ≡ Some (a, b)
    by_cut_off None None None None a b e = absurd (cc)
    by_cut_off None None None (Some node) a b e = absurd (cc)
    by_cut_off None None (Some number) unread a b e = absurd (cc)
    by_cut_off None (Some line) illegal unread a b e = absurd (cc)
    by_cut_off (Some (c, d)) full illegal unread a b e =
        let i : c ≡ a = cc in let j : d ≡ b = cc in ap (λ (n : ℕ). Some (n, d)) i ∙ ap (λ (n : ℕ). Some (a, n)) j

    by_set_full : (cut : Option (ℕ × ℕ)) (full illegal unread : Option ℕ) (line : ℕ) → judged_by cut full illegal unread ≡ Err (SetFull line) →
        (cut ≡ None) × (full ≡ Some line)
    by_set_full None None None None line e = absurd (cc)
    by_set_full None None None (Some node) line e = absurd (cc)
    by_set_full None None (Some number) unread line e = absurd (cc)
    by_set_full None (Some found) illegal unread line e = let i : found ≡ line = cc in (refl, ap (λ (n : ℕ). Some n) i)
    by_set_full (Some pair) full illegal unread line e = absurd (cc)

    by_not_legal : (cut : Option (ℕ × ℕ)) (full illegal unread : Option ℕ) (number : ℕ) →
        judged_by cut full illegal unread ≡ Err (NotLegal number) → (cut ≡ None) × (full ≡ None) × (illegal ≡ Some number)
    by_not_legal None None None None number e = absurd (cc)
    by_not_legal None None None (Some node) number e = absurd (cc)
    by_not_legal None None (Some found) unread number e = let i : found ≡ number = cc in (refl, refl, ap (λ (n : ℕ). Some n) i)
    by_not_legal None (Some line) illegal unread number e = absurd (cc)
    by_not_legal (Some pair) full illegal unread number e = absurd (cc)

    by_unread : (cut : Option (ℕ × ℕ)) (full illegal unread : Option ℕ) (node : ℕ) → judged_by cut full illegal unread ≡ Err (Unread node) →
        (cut ≡ None) × (full ≡ None) × (illegal ≡ None) × (unread ≡ Some node)
    by_unread None None None None node e = absurd (cc)
    by_unread None None None (Some found) node e = let i : found ≡ node = cc in (refl, refl, refl, ap (λ (n : ℕ). Some n) i)
    by_unread None None (Some number) unread node e = absurd (cc)
    by_unread None (Some line) illegal unread node e = absurd (cc)
    by_unread (Some pair) full illegal unread node e = absurd (cc)

    by_other : (cut : Option (ℕ × ℕ)) (full illegal unread : Option ℕ) (cause : SaveCause) → judged_by cut full illegal unread ≡ Err cause →
        IsOfPoint cause
    by_other None None None None cause e = absurd (cc)
    by_other None None None (Some node) cause e = let i : Unread node ≡ cause = cc in subst IsOfPoint i tt
    by_other None None (Some number) unread cause e = let i : NotLegal number ≡ cause = cc in subst IsOfPoint i tt
    by_other None (Some line) illegal unread cause e = let i : SetFull line ≡ cause = cc in subst IsOfPoint i tt
    by_other (Some (a, b)) full illegal unread cause e = let i : CutOff a b ≡ cause = cc in subst IsOfPoint i tt

    abbrev cut : Option (ℕ × ℕ)
    cut = first_cut_off (living_in saved)

    abbrev full : Option ℕ
    full = full_line saved

    abbrev illegal : Option ℕ
    illegal = first_illegal image saved

    abbrev unread : Option ℕ
    unread = first_unread saved

    abbrev start : FlatState
    start = flat_start image saved.config.nodes

    -- the judgements

    fits : cut ≡ None → full ≡ None → Fits saved
    fits joined room = (joined, none_mapped (line_of_owner saved) (first_full saved) room)

    legal : cut ≡ None → full ≡ None → illegal ≡ None → IsLegal image saved
    legal joined room none = (fits joined room, none_found saved.committed start 1 none)

    good_by : (other : Saved) → judged image saved ≡ Ok other → IsGood image saved
    good_by other e = let h = by_good cut full illegal unread other e in (legal h.1 h.2 h.3, h.4)

    pub good : (judged image saved ≡ Ok saved) ↔ IsGood image saved
    good = (good_by saved, is_good image saved)

    pub same : (other : Saved) → judged image saved ≡ Ok other → other ≡ saved
    same other e = (by_good cut full illegal unread other e).0

    good_of : IsAccepted image saved → IsGood image saved
    good_of a = (((a.joined, a.sets), a.execution), a.read)

    pub accepted : IsInForm saved → IsGood image saved ↔ IsAccepted image saved
    accepted form = (
      λ good. record { form = form; joined = good.0.0.0; sets = good.0.0.1; execution = good.0.1; read = good.1 },
      good_of,
    )

    pub cut_off : (a b : ℕ) → (judged image saved ≡ Err (CutOff a b)) ↔ (cut ≡ Some (a, b))
    cut_off a b = (by_cut_off cut full illegal unread a b, is_cut_off image saved a b)

    pub set_full : (line : ℕ) → (judged image saved ≡ Err (SetFull line)) ↔ ((cut ≡ None) × (full ≡ Some line))
    set_full line = (by_set_full cut full illegal unread line, λ h. is_too_full image saved line h.0 h.1)

    pub not_legal : (place : ℕ) → (judged image saved ≡ Err (NotLegal (place + 1)))
        ↔ (Fits saved × FirstWithoutStep image start saved.committed place)
    not_legal place = (
      λ e.
          let h = by_not_legal cut full illegal unread (place + 1) e in
          let f = one_found saved.committed start 1 (place + 1) h.2 in
          let there = f.1 in
          let here : f.0 ≡ place = omega (arith, there) in
          (fits h.0 h.1, subst (λ (n : ℕ). FirstWithoutStep image start saved.committed n) here f.2),
      λ h. is_not_legal image saved saved.config.nodes place saved.committed refl refl h.0 h.1,
    )

    pub numbered : (number : ℕ) → judged image saved ≡ Err (NotLegal number) → 1 ≤ number
    numbered number e =
        let h = by_not_legal cut full illegal unread number e in
        let f = one_found saved.committed start 1 number h.2 in
        let there = f.1 in
        omega (arith, there)

    pub unread_by : (node : ℕ) → (judged image saved ≡ Err (Unread node)) ↔ (IsLegal image saved × (unread ≡ Some node))
    unread_by node = (
      λ e. let h = by_unread cut full illegal unread node e in (legal h.0 h.1 h.2, h.3),
      λ h. is_not_given image saved node h.0 h.1,
    )

    pub no_other : (cause : SaveCause) → judged image saved ≡ Err cause → IsOfPoint cause
    no_other cause e = by_other cut full illegal unread cause e

    -- and so of a text

    pub accepted_good : IsAccepted image saved → judged image saved ≡ Ok saved
    accepted_good a = is_good image saved (good_of a)

  -- what the lines say is what is judged
  said_is : (said : Result Saved SaveCause) (saved : Saved) → judged_of image said ≡ Ok saved → (said ≡ Ok saved) × IsGood image saved
  said_is (Ok other) saved e =
      let i : saved ≡ other = same other saved e in
      (ap (λ (s : Saved). Ok s) (sym i), subst (λ (s : Saved). IsGood image s) (sym i) (good_by other saved e))
  said_is (Err cause) saved e = absurd (cc)

  pub accepted_text : (text : List ℕ) (saved : Saved) →
      (judged_of image (said_by text) ≡ Ok saved) ↔ ((said_by text ≡ Ok saved) × IsAccepted image saved)
  accepted_text text saved = (
    λ e. let h = said_is (said_by text) saved e in (h.0, accepted_by image text saved h.0 h.1),
    λ h. of_said image saved (said_by text) (Ok saved) h.0 (accepted_good saved h.1),
  )
