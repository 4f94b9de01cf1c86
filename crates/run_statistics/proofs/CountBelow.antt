-- How many numbers below one pass a test, and what a change of the test at one number or two does to it.
use Rattle.std.proofs.Common.{◌≡◌, ◌≢◌, ℕ, zero, suc, ◌+◌, ◌<◌, ◌≤◌, Bool, true, false, if◌then◌else◌, nat_eq, refl, sym, ap, ◌∙◌, arith}
use Rattle.std.proofs.Common.{◌⊎◌, inl, inr}
use Rattle.std.proofs.lemmas.Bool.{cases_eq, eqb-true, eqb-false, eq-eqb, ne_eqb}
use Rattle.run_statistics.specs.Owned.{one_if, count_below}

pub one-at-most : (test : Bool) → one_if test ≤ 1
one-at-most true = omega arith
one-at-most false = omega arith

pub all-at-most : (f : ℕ → Bool) (n : ℕ) → count_below f n ≤ n
unfolding count_below
all-at-most f zero = omega arith
all-at-most f (suc n) = omega (arith, all-at-most f n, one-at-most (f n))

pub none-passes : (f : ℕ → Bool) (n : ℕ) → ((b : ℕ) → b < n → f b ≡ false) → count_below f n ≡ 0
unfolding count_below
none-passes f zero e = refl
none-passes f (suc n) e =
    let below = none-passes f n (λ b l. e b (omega (arith, l))) in
    let last : one_if (f n) ≡ 0 = ap one_if (e n (omega arith)) in
    omega (arith, below, last)

pub same-below : (f g : ℕ → Bool) (n : ℕ) → ((b : ℕ) → b < n → f b ≡ g b) → count_below f n ≡ count_below g n
unfolding count_below
same-below f g zero e = refl
same-below f g (suc n) e =
    ap (λ k. k + one_if (f n)) (same-below f g n (λ b l. e b (omega (arith, l))))
    ∙ ap (λ t. count_below g n + one_if t) (e n (omega arith))

exchanged : (a b x y : ℕ) → a ≡ b → (a + x) + y ≡ (b + y) + x
exchanged a b x y e = omega (arith, e)

with_both : (a b x y p q : ℕ) → a + x ≡ b + y → p ≡ q → (a + p) + x ≡ (b + q) + y
with_both a b x y p q e f = omega (arith, e, f)

-- at one number alone
pub one-differs : (f g : ℕ → Bool) (k n : ℕ) → ((b : ℕ) → b ≢ k → f b ≡ g b) → k < n →
    count_below f n + one_if (g k) ≡ count_below g n + one_if (f k)
unfolding count_below
one-differs f g k zero e l = absurd (omega (arith, l))
one-differs f g k (suc n) e l = go (cases_eq k n) (λ below. one-differs f g k n e below) where
  go : (k ≡ n) ⊎ (k ≡ n → ⊥) → (k < n → count_below f n + one_if (g k) ≡ count_below g n + one_if (f k)) →
      (count_below f n + one_if (f n)) + one_if (g k) ≡ (count_below g n + one_if (g n)) + one_if (f k)
  go (inl same) before =
      ap (λ j. (count_below f n + one_if (f n)) + one_if (g j)) same
      ∙ exchanged (count_below f n) (count_below g n) (one_if (f n)) (one_if (g n))
      (same-below f g n (λ b m. e b (λ is. omega (arith, m, is, same))))
      ∙ ap (λ j. (count_below g n + one_if (g n)) + one_if (f j)) (sym same)
  go (inr other) before =
      with_both (count_below f n) (count_below g n) (one_if (g k)) (one_if (f k)) (one_if (f n)) (one_if (g n))
      (before (omega (arith, l, other))) (ap one_if (e n (λ is. other (sym is))))

-- at two, which may be one

module _ (f g : ℕ → Bool) (k m n : ℕ) (e : (b : ℕ) → b ≢ k → b ≢ m → f b ≡ g b) (below_k : k < n) (below_m : m < n) where
  abbrev between : ℕ → Bool
  between b = if nat_eq b k then g b else f b

  at_first : between k ≡ g k
  at_first = ap (λ (t : Bool). if t then g k else f k) (eq-eqb k k refl)

  beside_first : (b : ℕ) → b ≢ k → between b ≡ f b
  beside_first b d = ap (λ (t : Bool). if t then g b else f b) (ne_eqb b k d)

  beside_second : (b : ℕ) → b ≢ m → between b ≡ g b
  beside_second b d = go (cases_eq b k) where
    go : (b ≡ k) ⊎ (b ≡ k → ⊥) → between b ≡ g b
    go (inl same) = ap (λ (t : Bool). if t then g b else f b) (eq-eqb b k same)
    go (inr other) = beside_first b other ∙ e b other d

  first : count_below f n + one_if (g k) ≡ count_below between n + one_if (f k)
  first = ap (λ t. count_below f n + one_if t) (sym at_first)
      ∙ one-differs f between k n (λ b d. sym (beside_first b d)) below_k

  second : m ≢ k → count_below between n + one_if (g m) ≡ count_below g n + one_if (f m)
  second d = one-differs between g m n beside_second below_m ∙ ap (λ t. count_below g n + one_if t) (beside_first m d)

  three : (a b c p q x y : ℕ) → a + p ≡ b + x → b + q ≡ c + y → a + (p + q) ≡ c + (x + y)
  three a b c p q x y h i = omega (arith, h, i)

  apart : m ≢ k → count_below f n + (one_if (g k) + one_if (g m)) ≡ count_below g n + (one_if (f k) + one_if (f m))
  apart d =
      three (count_below f n) (count_below between n) (count_below g n) (one_if (g k)) (one_if (g m)) (one_if (f k)) (one_if (f m)) first
      (second d)

  together : m ≡ k → count_below f n + (one_if (g k) + 0) ≡ count_below g n + (one_if (f k) + 0)
  together same =
      let h = one-differs f g k n (λ b d. e b d (λ is. d (is ∙ same))) below_k in
      omega (arith, h)

  by_test : (t : Bool) → nat_eq m k ≡ t → count_below f n + (one_if (g k) + (if t then 0 else one_if (g m)))
      ≡ count_below g n + (one_if (f k) + (if t then 0 else one_if (f m)))
  by_test true is = together (eqb-true m k is)
  by_test false is = apart (eqb-false m k is)

  pub two-differ : count_below f n + (one_if (g k) + (if nat_eq m k then 0 else one_if (g m)))
      ≡ count_below g n + (one_if (f k) + (if nat_eq m k then 0 else one_if (f m)))
  two-differ = by_test (nat_eq m k) refl
