-- An entry put at the end of its interval does to each later cut what its step does, and the list stays good. A recovery leaves the cuts up to its interval.
use Rattle.std.proofs.Common.{◌≡◌, ◌≢◌, ℕ, zero, suc, ◌<◌, ◌≤◌, ◌⊎◌, List, [], ◌∷◌, ◌++◌, refl, sym, ◌∙◌, ap, arith, inl, inr, subst}
use Rattle.std.proofs.lemmas.Bool.Decides.{nat_tests}
use Rattle.std.proofs.lemmas.Bool.{cases_order}
use Rattle.sn_base.specs.Image.{ImageData}
use Rattle.sn_consistency.specs.Entries.{Entry, Places, Legal, Apart, AllApart, Good, run, step}
use Rattle.sn_consistency.specs.Sorted.{below, at_cut, GoodList, retire, entries_below_cut, LetsPass, AllPass}
use Rattle.sn_consistency.proofs.Swap.{swap, legal_after}

-- who lets an entry pass is apart from it
pass_apart : (image : ImageData) (e y : Entry) → LetsPass image e y → Apart image e y
pass_apart image e y p = record {
  cores = p.cores;
  reads_only = λ u v b. (grind (arith, p.no_later_access), p.no_later_write u b);
}

pub all_apart : (image : ImageData) (e : Entry) (ys : List Entry) → AllPass image e ys → AllApart image e ys
all_apart image e [] p = tt
all_apart image e (y ∷ ys) p = (pass_apart image e y p.0, all_apart image e ys p.1)

module _ (image : ImageData) where
  -- a list and a list after it
  pub run-append : (F : Places) (xs ys : List Entry) → run image F (xs ++ ys) ≡ run image (run image F xs) ys
  run-append F [] ys = refl
  run-append F (x ∷ xs) ys = run-append (step image F x) xs ys

  pub Good-append : (N : ℕ) (F : Places) (xs ys : List Entry) → Good image N F xs → Good image N (run image F xs) ys →
      Good image N F (xs ++ ys)
  Good-append N F [] ys g h = h
  Good-append N F (x ∷ xs) ys g h = (g.0, Good-append N (step image F x) xs ys g.1 h)

  -- a step before a list that is apart from it, or after it
  run_late : (F : Places) (e : Entry) (ys : List Entry) → AllApart image e ys →
      run image (step image F e) ys ≡ step image (run image F ys) e
  run_late F e [] a = refl
  run_late F e (y ∷ ys) a = ap (λ G. run image G ys) (swap image F e y a.0) ∙ run_late (step image F y) e ys a.1

  good_late : (N : ℕ) (F : Places) (e : Entry) (ys : List Entry) → AllApart image e ys → Good image N F ys →
      Good image N (step image F e) ys
  good_late N F e [] a g = tt
  good_late N F e (y ∷ ys) a g = (
    legal_after image F e y a.0 N g.0,
    subst (λ G. Good image N G ys) (sym (swap image F e y a.0)) (good_late N (step image F y) e ys a.1 g.1),
  )

module _ (image : ImageData) (F : Places) (f : ℕ → List Entry) (x : ℕ) (e : Entry) where
  -- up to its interval nothing changes
  pub retire_low : (k : ℕ) → k ≤ x → at_cut image F (retire f x e) k ≡ at_cut image F f k
  unfolding at_cut
  retire_low zero l = refl
  retire_low (suc k) l = low_step k l (retire_low k (omega arith))
    where
      low_step : (k : ℕ) → suc k ≤ x → at_cut image F (retire f x e) k ≡ at_cut image F f k →
          run image (at_cut image F (retire f x e) k) (retire f x e k) ≡ run image (at_cut image F f k) (f k)
      low_step k l h = grind (arith, nat_tests)

  module _ (a : (j : ℕ) → x < j → AllApart image e (f j)) where
    -- above it, its own step is done
    pub retire_high : (k : ℕ) → x < k → at_cut image F (retire f x e) k ≡ step image (at_cut image F f k) e
    unfolding at_cut
    retire_high zero l = absurd (omega arith)
    retire_high (suc k) l = go k (cases_order k x) l (retire_high k)
      where
        go : (k : ℕ) → ((k ≡ x) ⊎ ((k < x) ⊎ (x < k))) → x < suc k →
            (x < k → at_cut image F (retire f x e) k ≡ step image (at_cut image F f k) e) →
            run image (at_cut image F (retire f x e) k) (retire f x e k)
            ≡ step image (run image (at_cut image F f k) (f k)) e
        go k (inl i) l h = same_step k i (retire_low k (omega arith))
          where
            same_step : (k : ℕ) → k ≡ x → at_cut image F (retire f x e) k ≡ at_cut image F f k →
                run image (at_cut image F (retire f x e) k) (retire f x e k)
                ≡ step image (run image (at_cut image F f k) (f k)) e
            same_step k i q = let r = run-append image (at_cut image F f k) (f k) (e ∷ []) in grind (arith, nat_tests)
        go k (inr (inl m)) l h = absurd (omega arith)
        go k (inr (inr m)) l h = more_step k m (h m) (run_late image (at_cut image F f k) e (f k) (a k m))
          where
            more_step : (k : ℕ) → x < k → at_cut image F (retire f x e) k ≡ step image (at_cut image F f k) e →
                run image (step image (at_cut image F f k) e) (f k)
                ≡ step image (run image (at_cut image F f k) (f k)) e →
                run image (at_cut image F (retire f x e) k) (retire f x e k)
                ≡ step image (run image (at_cut image F f k) (f k)) e
            more_step k m h r = grind (arith, nat_tests)

    pub retire_good : (N : ℕ) → GoodList image N F f → Legal image N (at_cut image F f (suc x)) e →
        GoodList image N F (retire f x e)
    unfolding at_cut
    retire_good N g l k = go (cases_order k x)
      where
        is_x : k ≡ x → retire f x e k ≡ f k ++ e ∷ []
        is_x i = grind (arith, nat_tests)

        not_x : k ≢ x → retire f x e k ≡ f k
        not_x i = grind (arith, nat_tests)

        go : ((k ≡ x) ⊎ ((k < x) ⊎ (x < k))) → Good image N (at_cut image F (retire f x e) k) (retire f x e k)
        go (inl i) =
            rw (retire_low k (omega arith), is_x i)
            (Good-append image N (at_cut image F f k) (f k) (e ∷ []) (g k)
            ((subst (λ j. Legal image N (run image (at_cut image F f j) (f j)) e) (sym i) l), tt))
        go (inr (inl m)) = rw (retire_low k (omega arith), not_x (omega arith)) (g k)
        go (inr (inr m)) = rw (retire_high k m, not_x (omega arith)) (good_late image N (at_cut image F f k) e (f k) (a k m) (g k))

-- a recovery to k
module _ (image : ImageData) (F : Places) (f : ℕ → List Entry) (k : ℕ) where
  pub cut_off_low : (j : ℕ) → j ≤ k → at_cut image F (entries_below_cut f k) j ≡ at_cut image F f j
  unfolding at_cut
  cut_off_low zero l = refl
  cut_off_low (suc j) l = low_step j l (cut_off_low j (omega arith))
    where
      low_step : (j : ℕ) → suc j ≤ k → at_cut image F (entries_below_cut f k) j ≡ at_cut image F f j →
          run image (at_cut image F (entries_below_cut f k) j) (entries_below_cut f k j) ≡ run image (at_cut image F f j) (f j)
      low_step j l h = grind (arith, nat_tests)

  none : (j : ℕ) → k ≤ j → entries_below_cut f k j ≡ []
  none j m = grind (arith, nat_tests)

  some : (j : ℕ) → j < k → entries_below_cut f k j ≡ f j
  some j m = grind (arith, nat_tests)

  pub cut_off_high : (j : ℕ) → k ≤ j → at_cut image F (entries_below_cut f k) j ≡ at_cut image F f k
  unfolding at_cut
  cut_off_high zero l = let i : k ≡ zero = omega arith in subst (λ j. F ≡ at_cut image F f j) (sym i) refl
  cut_off_high (suc j) l = go (cases_order (suc j) k) (cut_off_high j)
    where
      go : ((suc j ≡ k) ⊎ ((suc j < k) ⊎ (k < suc j))) → (k ≤ j → at_cut image F (entries_below_cut f k) j ≡ at_cut image F f k) →
          run image (at_cut image F (entries_below_cut f k) j) (entries_below_cut f k j) ≡ at_cut image F f k
      go (inl i) h = cut_off_low (suc j) (omega arith) ∙ ap (at_cut image F f) i
      go (inr (inl m)) h = absurd (omega arith)
      go (inr (inr m)) h = rw (none j (omega arith)) (h (omega arith))

  pub cut_off_good : (N : ℕ) → GoodList image N F f → GoodList image N F (entries_below_cut f k)
  cut_off_good N g j = go (cases_order j k)
    where
      go : ((j ≡ k) ⊎ ((j < k) ⊎ (k < j))) → Good image N (at_cut image F (entries_below_cut f k) j) (entries_below_cut f k j)
      go (inl i) = rw (none j (omega arith)) tt
      go (inr (inl m)) = rw (some j m, cut_off_low j (omega arith)) (g j)
      go (inr (inr m)) = rw (none j (omega arith)) tt

module _ (image : ImageData) (F : Places) (f : ℕ → List Entry) where
  -- the whole list below k
  pub run-below : (k : ℕ) → run image F (below f k) ≡ at_cut image F f k
  unfolding below at_cut
  run-below zero = refl
  run-below (suc k) = run-append image F (below f k) (f k) ∙ ap (λ G. run image G (f k)) (run-below k)

  pub below_good : (N : ℕ) → GoodList image N F f → (k : ℕ) → Good image N F (below f k)
  unfolding below
  below_good N g zero = tt
  below_good N g (suc k) =
      Good-append image N F (below f k) (f k) (below_good N g k) (subst (λ G. Good image N G (f k)) (sym (run-below k)) (g k))

-- what is below k stays where only what is at or above it changes
pub below_same : {A : Type 0} → (f g : ℕ → List A) (k : ℕ) → ((j : ℕ) → j < k → f j ≡ g j) → below f k ≡ below g k
unfolding below
below_same f g zero h = refl
below_same f g (suc k) h = same_step (below f k) (f k) (below g k) (g k) (below_same f g k (λ j l. h j (omega arith))) (h k (omega arith))
  where
    same_step : {A : Type 0} → (a b c d : List A) → a ≡ c → b ≡ d → a ++ b ≡ c ++ d
    same_step a b c d p q = cc
