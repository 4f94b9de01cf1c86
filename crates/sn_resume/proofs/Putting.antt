-- Texts that are put to a sink one after another.
use Rattle.std.proofs.Common.{◌≡◌, ℕ, ◌+◌, ◌≤◌, List, [], ◌++◌, take, drop, length, Option, Some, None, Result, Ok, Err, OnOk, OnErr}
use Rattle.std.proofs.Common.{refl, sym, ap, subst, ◌∙◌, arith, append_assoc, append-nil}
use Rattle.std.proofs.lemmas.List.{take-append-drop}
use Rattle.sn_io.specs.declared.outside.Failed.{Failed}
use Rattle.sn_io.specs.Outside.{followed_by, Rose}
use Rattle.sink_pieces.specs.Pieces.{HasBeginning}
use Rattle.sn_resume.specs.Saving.{Puts}

followed_none : (w : Option (List ℕ)) → w ≡ followed_by w []
followed_none None = refl
followed_none (Some w) = ap (λ t. Some t) (sym (append-nil w))

followed_twice : (w : Option (List ℕ)) (xs ys : List ℕ) → followed_by (followed_by w xs) ys ≡ followed_by w (xs ++ ys)
followed_twice None xs ys = refl
followed_twice (Some w) xs ys = ap (λ t. Some t) (append_assoc w xs ys)

-- a whole text, and a beginning of it where the sink failed
abbrev pub Whole : List ℕ → Option (List ℕ) → Option (List ℕ) → ℕ → ℕ → Type 0
Whole text before behind was is = (behind ≡ followed_by before text) × (was ≤ is)

abbrev pub Broken : List ℕ → Option (List ℕ) → Option (List ℕ) → ℕ → ℕ → Type 0
Broken text before behind was is = HasBeginning text before behind × Rose was is × (was ≤ is)

-- what the sink says
pub put_says : (text : List ℕ) (before behind : Option (List ℕ)) (was is : ℕ) (r : Result (Unit {0}) Failed) →
    OnOk r (behind ≡ followed_by before text) →
    OnErr r ((n : ℕ) × (n ≤ length text) × (behind ≡ followed_by before (take n text))) → was ≤ is → OnErr r (Rose was is) →
    Puts before behind was is text r
put_says text before behind was is (Ok done) whole part later cause = (whole, later)
put_says text before behind was is (Err failed) whole part later cause = (
  record { put = take part.0 text; left = drop part.0 text; whole = take-append-drop part.0 text; written = part.2 },
  cause,
  later,
)

pub same_text : (a b : List ℕ) (before behind : Option (List ℕ)) (was is : ℕ) (r : Result (Unit {0}) Failed) → a ≡ b →
    Puts before behind was is a r → Puts before behind was is b r
same_text a b before behind was is r e h = subst (λ (t : List ℕ). Puts before behind was is t r) e h

pub same_whole : (a b : List ℕ) (before behind : Option (List ℕ)) (was is : ℕ) → a ≡ b → Whole a before behind was is → Whole b before behind was is
same_whole a b before behind was is e h = subst (λ (t : List ℕ). Whole t before behind was is) e h

pub same_broken : (a b : List ℕ) (before behind : Option (List ℕ)) (was is : ℕ) → a ≡ b → Broken a before behind was is → Broken b before behind was is
same_broken a b before behind was is e h = subst (λ (t : List ℕ). Broken t before behind was is) e h

pub nothing_put : (w : Option (List ℕ)) (n : ℕ) → Whole [] w w n n
nothing_put w n = (followed_none w, omega arith)

-- so much of a text was put, and this is left of it
pub record IsLeft (all left : List ℕ) (before behind : Option (List ℕ)) (was is : ℕ) : Type 0 where
  put : List ℕ
  parts : put ++ left ≡ all
  written : behind ≡ followed_by before put
  later : was ≤ is

pub all_left : (all left : List ℕ) (w : Option (List ℕ)) (n : ℕ) → left ≡ all → IsLeft all left w w n n
all_left all left w n e = record { put = []; parts = e; written = followed_none w; later = omega arith }

pub none_left : (all left : List ℕ) (before behind : Option (List ℕ)) (was is : ℕ) → left ≡ [] → IsLeft all left before behind was is →
    Whole all before behind was is
none_left all left before behind was is e h =
    (h.written ∙ ap (followed_by before) (sym (append-nil h.put) ∙ ap (λ t. h.put ++ t) (sym e) ∙ h.parts), h.later)

-- the next of its parts
module _ (all left text rest : List ℕ) (before between behind : Option (List ℕ)) (was mid is : ℕ) (parts : left ≡ text ++ rest) (h : IsLeft all left before between was mid) where
  pub next_put : Whole text between behind mid is → IsLeft all rest before behind was is
  next_put p = record {
    put = h.put ++ text;
    parts = append_assoc h.put text rest ∙ ap (λ t. h.put ++ t) (sym parts) ∙ h.parts;
    written = p.0 ∙ ap (λ w. followed_by w text) h.written ∙ followed_twice before h.put text;
    later = let a = h.later in let b = p.1 in omega (arith, a, b);
  }

  pub next_broken : Broken text between behind mid is → Broken all before behind was is
  next_broken p = (
    record {
      put = h.put ++ p.0.put;
      left = p.0.left ++ rest;
      whole =
          append_assoc h.put p.0.put (p.0.left ++ rest)
          ∙ ap (λ t. h.put ++ t) (sym (append_assoc p.0.put p.0.left rest) ∙ ap (λ t. t ++ rest) p.0.whole ∙ sym parts)
          ∙ h.parts;
      written = p.0.written ∙ ap (λ w. followed_by w p.0.put) h.written ∙ followed_twice before h.put p.0.put;
    },
    let a = h.later in let b = p.1 in omega (arith, a, b),
    let a = h.later in let b = p.2 in omega (arith, a, b),
  )

-- the last of its parts, which may fail
pub last_put : (all left : List ℕ) (before between behind : Option (List ℕ)) (was mid is : ℕ) (r : Result (Unit {0}) Failed) →
    IsLeft all left before between was mid → Puts between behind mid is left r → Puts before behind was is all r
last_put all left before between behind was mid is (Ok done) h p =
    none_left all [] before behind was is refl (next_put all left left [] before between behind was mid is (sym (append-nil left)) h p)
last_put all left before between behind was mid is (Err failed) h p =
    next_broken all left left [] before between behind was mid is (sym (append-nil left)) h p

-- what a call that puts a text says of it, by its result
module _ (text : List ℕ) (before behind : Option (List ℕ)) (was is : ℕ) where
  pub puts_whole : (r : Result (Unit {0}) Failed) → Puts before behind was is text r → OnOk r (behind ≡ followed_by before text)
  puts_whole (Ok done) p = p.0
  puts_whole (Err failed) p = tt

  pub puts_part : (r : Result (Unit {0}) Failed) → Puts before behind was is text r → OnErr r (HasBeginning text before behind)
  puts_part (Ok done) p = tt
  puts_part (Err failed) p = p.0

  pub puts_later : (r : Result (Unit {0}) Failed) → Puts before behind was is text r → was ≤ is
  puts_later (Ok done) p = p.1
  puts_later (Err failed) p = p.2

  pub puts_cause : (r : Result (Unit {0}) Failed) → Puts before behind was is text r → OnErr r (Rose was is)
  puts_cause (Ok done) p = tt
  puts_cause (Err failed) p = p.1
