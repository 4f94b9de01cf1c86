-- A machine that goes on from a saved recovery point keeps what it keeps of the sorted list.
use Rattle.std.proofs.Common.{◌≡◌, ℕ, zero, suc, ◌≤◌, false, List, [], ◌∷◌, ◌++◌, ◌==◌, cond, refl, sym, ap, ◌∙◌, subst, arith}
use Rattle.std.specs.Prelude.{min, nat_eq}
use Rattle.std.proofs.lemmas.Bool.Decides.{nat_tests}
use Rattle.sn_base.specs.Image.{ImageData}
use Rattle.rv_core.specs.declared.step.Record.{Record}
use Rattle.rv_core.specs.Flat.{FlatState, core_at}
use Rattle.rv_core.specs.Execution.{Executes, state_after, put_out_by, in_of}
use Rattle.sn_consistency.specs.Entries.{Entry, Places, Good, run, step}
use Rattle.sn_consistency.specs.Sorted.{at_cut}
use Rattle.sn_consistency.specs.Shows.{Shows, places_of, records, outs}
use Rattle.sn_consistency.specs.Projections.{entries}
use Rattle.sn_consistency.specs.Outline.{AllPlaced, Keeps, saved_outline}
use Rattle.sn_consistency.proofs.CommittedPart.{good_out, taken-in_of}
use Rattle.sn_consistency.proofs.Execution.{good_end}
use Rattle.sn_consistency.proofs.ProjectionLaw.{entries_back, entries_good}

none_read : (image : ImageData) (N n : ℕ) → N ≤ n → (F : Places) (es : List Entry) → Good image N F es → in_of n (records es) ≡ []
none_read image N n l F [] g = refl
none_read image N n l F (e ∷ es) g =
    let other : nat_eq e.did.core n ≡ false = let w = g.0.fits.within in grind (arith, nat_tests) in
    rw other (none_read image N n l (step image F e) es g.1)

module _ (image : ImageData) (N : ℕ) (s : FlatState) (shows : Shows N s (places_of s)) (rs : List Record) (executes : Executes image s rs) where
  abbrev F : Places
  F = places_of s

  abbrev es : List Entry
  es = entries image (core_at s) rs

  good : Good image N F es
  good = entries_good image N s shows rs executes

  -- the flat machine after the records is what their entries leave
  pub saved_end : Shows N (state_after image s rs) (run image F es)
  saved_end =
      subst (λ (l : List Record). Shows N (state_after image s l) (run image F es)) (entries_back image (core_at s) rs)
      (good_end image N s F shows es good)

  pub saved_taken : (n : ℕ) → (run image F es).taken n ≡ in_of n rs
  saved_taken n = taken-in_of image F es n ∙ ap (in_of n) (entries_back image (core_at s) rs)

  pub saved_outs : outs image es ≡ put_out_by image s rs
  saved_outs = sym (good_out image N s F shows es good) ∙ ap (put_out_by image s) (entries_back image (core_at s) rs)

  -- a number that is no core's reads nothing
  pub saved_nobody : (n : ℕ) → N ≤ n → in_of n rs ≡ []
  saved_nobody n l = ap (in_of n) (sym (entries_back image (core_at s) rs)) ∙ none_read image N n l F es good

  module _ (point : ℕ) (unmoved : point ≡ 0 → rs ≡ []) (given waiting : ℕ → List ℕ) (left : (n : ℕ) → given n ≡ in_of n rs ++ waiting n) where
    abbrev list : ℕ → List Entry
    list x = cond (x == 0) es []

    later : (k : ℕ) → list (suc k) ≡ []
    later k = grind (arith, nat_tests)

    -- above interval 0 each cut is the end
    above : (k : ℕ) → at_cut image F list (suc k) ≡ run image F es
    unfolding at_cut
    above zero = refl
    above (suc k) = ap (λ l. run image (at_cut image F list (suc k)) l) (later k) ∙ above k

    at_zero : point ≡ 0 → at_cut image F list 0 ≡ run image F es
    unfolding at_cut
    at_zero e = ap (λ (l : List Record). run image F (entries image (core_at s) l)) (sym (unmoved e))

    from_point : (j : ℕ) → point ≤ j → at_cut image F list j ≡ run image F es
    from_point zero l = at_zero (omega arith)
    from_point (suc j) l = above j

    good_at : (k : ℕ) → Good image N (at_cut image F list k) (list k)
    unfolding at_cut
    good_at zero = good
    good_at (suc k) = rw (later k) tt

    placed_from : 1 ≤ point → (l : List Entry) → AllPlaced image (λ n. point) (λ b. min point 1) (λ b n. min point 1) 0 l
    placed_from some [] = tt
    placed_from some (e ∷ l) =
        (record { early = omega arith; write = λ w. omega arith; touch = λ w. omega arith }, placed_from some l)

    placed_at : (x : ℕ) → AllPlaced image (λ n. point) (λ b. min point 1) (λ b n. min point 1) x (list x)
    placed_at zero = go point refl
      where
        go : (p : ℕ) → point ≡ p → AllPlaced image (λ n. point) (λ b. min point 1) (λ b n. min point 1) 0 es
        go zero e =
            subst (λ (l : List Record). AllPlaced image (λ n. point) (λ b. min point 1) (λ b n. min point 1) 0 (entries image (core_at s) l))
            (sym (unmoved e)) tt
        go (suc p) e = placed_from (omega arith) es
    placed_at (suc x) = rw (later x) tt

    pub saved_keeps : Keeps image N F (saved_outline (state_after image s rs) es point given waiting)
    saved_keeps = record {
      good = good_at;
      placed = placed_at;
      core = λ n j l. ap (λ G. G.core n) (from_point j (omega arith)) ∙ sym (saved_end.core n);
      reserved = λ n j b l h. grind arith;
      given =
          λ n j l. left n ∙ ap (λ l. l ++ waiting n) (sym (saved_taken n) ∙ ap (λ G. G.taken n) (sym (from_point j (omega arith))));
      checkpoint = λ n j l u. ap (λ G. G.core n) (from_point j l) ∙ sym (saved_end.core n);
      content = λ b j l. ap (λ G. G.content b) (from_point j l) ∙ sym (saved_end.memory b);
      unwritten = λ b j l. refl;
      known_point = λ n. omega arith;
      point_interval = λ n. omega arith;
    }
