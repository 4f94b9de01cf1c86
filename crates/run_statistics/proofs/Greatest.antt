-- What becomes of numbers that are raised to others, each at its place.
use Rattle.std.proofs.Common.{◌≡◌, ◌≢◌, ℕ, zero, suc, ◌<◌, ◌≤◌, max, List, length, refl, sym, ap, subst, ◌∙◌, arith, ◌⊎◌, inl, inr}
use Rattle.std.proofs.Common.{length-set, get_or-set_same, get_or-set_other}
use Rattle.std.specs.Prelude.{slice_index}
use Rattle.std.proofs.lemmas.Bool.{cases_eq, cases_lt}
use Rattle.std.proofs.lemmas.List.{ext_get_or}
use Rattle.run_statistics.specs.Numbers.{with_greater, with_greatest_below}

right_of : (a b : ℕ) → b ≤ max a b
right_of a b = grind arith

absorbed : (a b : ℕ) → b ≤ a → max a b ≡ a
absorbed a b l = grind (arith, l)

module _ (f : ℕ → ℕ) where
  pub length-greatest : (n : ℕ) (xs : List ℕ) → length (with_greatest_below f n xs) ≡ length xs
  length-greatest zero xs = refl
  length-greatest (suc n) xs = length-set (with_greatest_below f n xs) n _ ∙ length-greatest n xs

  -- beyond those places it is as it was
  beyond : (n i : ℕ) (xs : List ℕ) → n ≤ i → slice_index (with_greatest_below f n xs) i ≡ slice_index xs i
  beyond zero i xs l = refl
  beyond (suc n) i xs l =
      get_or-set_other (with_greatest_below f n xs) n i _ 0 (λ e. omega (arith, e, l)) ∙ beyond n i xs (omega (arith, l))

  pub greatest-at : (n i : ℕ) (xs : List ℕ) → i < n → n ≤ length xs → slice_index (with_greatest_below f n xs) i ≡ max (slice_index xs i) (f i)
  greatest-at zero i xs l few = absurd (omega (arith, l))
  greatest-at (suc n) i xs l few = go (cases_eq i n) (λ below. greatest-at n i xs below (omega (arith, few))) where
    go : (i ≡ n) ⊎ (i ≡ n → ⊥) → (i < n → slice_index (with_greatest_below f n xs) i ≡ max (slice_index xs i) (f i)) →
        slice_index (with_greatest_below f (suc n) xs) i ≡ max (slice_index xs i) (f i)
    go (inl same) before =
        ap (λ j. slice_index (with_greatest_below f (suc n) xs) j) same
        ∙ get_or-set_same (with_greatest_below f n xs) n _ 0 (let e = length-greatest n xs in omega (arith, e, few))
        ∙ ap (λ k. max k (f n)) (beyond n n xs (omega arith))
        ∙ ap (λ j. max (slice_index xs j) (f j)) (sym same)
    go (inr other) before = get_or-set_other (with_greatest_below f n xs) n i _ 0 other ∙ before (omega (arith, l, other))

  pub greatest-covers : (n i : ℕ) (xs : List ℕ) → i < n → n ≤ length xs → f i ≤ slice_index (with_greatest_below f n xs) i
  greatest-covers n i xs l few = subst (λ k. f i ≤ k) (sym (greatest-at n i xs l few)) (right_of (slice_index xs i) (f i))

  kept_at : (n i : ℕ) (xs : List ℕ) → n ≤ length xs → (i < n → f i ≤ slice_index xs i) →
      slice_index (with_greatest_below f n xs) i ≡ slice_index xs i
  kept_at n i xs few low = go (cases_lt i n) where
    go : (i < n) ⊎ (n ≤ i) → slice_index (with_greatest_below f n xs) i ≡ slice_index xs i
    go (inl l) = greatest-at n i xs l few ∙ absorbed (slice_index xs i) (f i) (low l)
    go (inr l) = beyond n i xs l

  -- where none rises, all stay
  pub none-rises : (n : ℕ) (xs : List ℕ) → n ≤ length xs → ((i : ℕ) → i < n → f i ≤ slice_index xs i) → with_greatest_below f n xs ≡ xs
  none-rises n xs few low =
      ext_get_or 0 (with_greatest_below f n xs) xs (length-greatest n xs) (λ i l. kept_at n i xs few (λ m. low i m))

  -- where one alone may rise, the others stay
  pub one-rises : (n k : ℕ) (xs : List ℕ) → n ≤ length xs → k < n → ((i : ℕ) → i < n → i ≢ k → f i ≤ slice_index xs i) →
      with_greatest_below f n xs ≡ with_greater xs k (f k)
  one-rises n k xs few inside low =
      ext_get_or 0 (with_greatest_below f n xs) (with_greater xs k (f k)) (length-greatest n xs ∙ sym (length-set xs k _)) (λ i l. go i (cases_eq i k))
    where
      go : (i : ℕ) → (i ≡ k) ⊎ (i ≡ k → ⊥) → slice_index (with_greatest_below f n xs) i ≡ slice_index (with_greater xs k (f k)) i
      go i (inl same) =
          ap (λ j. slice_index (with_greatest_below f n xs) j) same ∙ greatest-at n k xs inside few
          ∙ sym (get_or-set_same xs k _ 0 (omega (arith, inside, few)))
          ∙ ap (λ j. slice_index (with_greater xs k (f k)) j) (sym same)
      go i (inr other) = kept_at n i xs few (λ m. low i m other) ∙ sym (get_or-set_other xs k i _ 0 other)
