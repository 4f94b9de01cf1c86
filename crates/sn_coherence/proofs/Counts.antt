-- How many nodes pass.
use Rattle.std.proofs.Common.{◌≡◌, ℕ, zero, suc, ◌+◌, ◌<◌, ◌≤◌, Bool, true, false, cond, refl, arith}
use Rattle.std.proofs.lemmas.Bool.Decides.{nat_tests}
use Rattle.sn_coherence.specs.Block.{set}
use Rattle.sn_coherence.specs.Invariant.{count}

-- where none is counted none passes
zero_step : (N : ℕ) (f : ℕ → Bool) (n : ℕ) → cond (f N) 1 0 + count N f ≡ 0 → n < suc N → (count N f ≡ 0 → n < N → f n ≡ false) →
    f n ≡ false
zero_step N f n e l h = grind (arith, nat_tests)

pub count_zero : (N : ℕ) (f : ℕ → Bool) → count N f ≡ 0 → (n : ℕ) → n < N → f n ≡ false
unfolding count
count_zero zero f e n l = absurd (omega arith)
count_zero (suc N) f e n l = zero_step N f n e l (λ z m. count_zero N f z n m)

-- nor outside, where all that pass are nodes
zero_all : (N : ℕ) (f : ℕ → Bool) (n : ℕ) → (f n ≡ true → n < N) → (n < N → f n ≡ false) → f n ≡ false
zero_all N f n low h = grind (arith, nat_tests)

pub count_none : (N : ℕ) (f : ℕ → Bool) → count N f ≡ 0 → ((n : ℕ) → f n ≡ true → n < N) → (n : ℕ) → f n ≡ false
count_none N f e low n = zero_all N f n (low n) (count_zero N f e n)

pub no_count : (N : ℕ) → count N (λ n. false) ≡ 0
unfolding count
no_count zero = refl
no_count (suc N) = grind (arith, no_count N)

past_step : (N : ℕ) (f : ℕ → Bool) (n : ℕ) → suc N ≤ n → count N (set f n false) ≡ count N f →
    cond (set f n false N) 1 0 + count N (set f n false) ≡ cond (f N) 1 0 + count N f
past_step N f n l h = grind (arith, nat_tests)

pub count_past : (N : ℕ) (f : ℕ → Bool) (n : ℕ) → N ≤ n → count N (set f n false) ≡ count N f
unfolding count
count_past zero f n l = refl
count_past (suc N) f n l = past_step N f n l (count_past N f n (omega arith))

without_step : (N : ℕ) (f : ℕ → Bool) (n : ℕ) → n < suc N → f n ≡ true →
    (n < N → count N (set f n false) + 1 ≡ count N f) → (N ≤ n → count N (set f n false) ≡ count N f) →
    (cond (set f n false N) 1 0 + count N (set f n false)) + 1 ≡ cond (f N) 1 0 + count N f
without_step N f n l e h g = grind (arith, nat_tests)

-- one fewer where a node that passed no longer does
pub count_without : (N : ℕ) (f : ℕ → Bool) (n : ℕ) → n < N → f n ≡ true → count N (set f n false) + 1 ≡ count N f
unfolding count
count_without zero f n l e = absurd (omega arith)
count_without (suc N) f n l e = without_step N f n l e (λ m. count_without N f n m e) (λ m. count_past N f n m)

low_step : (N : ℕ) (f : ℕ → Bool) (n : ℕ) → n < suc N → f n ≡ false → count N f ≤ N → (n < N → count N f < N) →
    cond (f N) 1 0 + count N f < suc N
low_step N f n l e m h = grind (arith, nat_tests)

most_step : (N : ℕ) (f : ℕ → Bool) → count N f ≤ N → cond (f N) 1 0 + count N f ≤ suc N
most_step N f m = grind (arith, nat_tests)

pub count_most : (N : ℕ) (f : ℕ → Bool) → count N f ≤ N
unfolding count
count_most zero f = omega arith
count_most (suc N) f = most_step N f (count_most N f)

-- fewer than all where a node doesn't pass
pub count_low : (N : ℕ) (f : ℕ → Bool) (n : ℕ) → n < N → f n ≡ false → count N f < N
unfolding count
count_low zero f n l e = absurd (omega arith)
count_low (suc N) f n l e = low_step N f n l e (count_most N f) (λ m. count_low N f n m e)
