-- the least number below a bound that passes a test
use Rattle.std.proofs.Common.{◌≡◌, ℕ, zero, suc, ◌<◌, ◌≤◌, Bool, true, false, cond, ◌⊎◌, inl, inr, refl, sym, ◌∙◌, arith}
use Rattle.std.proofs.lemmas.Bool.{false≢true, cases_order, cases_Bool, cases_lt, ltb-true, lt-ltb, le-ltb}
use Rattle.route_plan.specs.Distances.{least_below, some_below}

le_step : (b : Bool) (l n : ℕ) → l ≤ n → cond b 0 (suc l) ≤ suc n
le_step true l n h = omega arith
le_step false l n h = omega arith

pub least_below-le : (n : ℕ) (p : ℕ → Bool) → least_below n p ≤ n
unfolding least_below
least_below-le zero p = omega arith
least_below-le (suc n) p = le_step (p 0) _ n (least_below-le n (λ k. p (suc k)))

before_step : (p : ℕ → Bool) (l : ℕ) → ((j : ℕ) → j < l → p (suc j) ≡ false) → (b : Bool) → p 0 ≡ b → (j : ℕ) → j < cond b 0 (suc l) →
    p j ≡ false
before_step p l h true e j m = absurd (omega arith)
before_step p l h false e zero m = e
before_step p l h false e (suc j) m = h j (omega arith)

-- all below it fail
pub least_below-before : (n : ℕ) (p : ℕ → Bool) (j : ℕ) → j < least_below n p → p j ≡ false
unfolding least_below
least_below-before zero p j l = absurd (omega arith)
least_below-before (suc n) p j l = before_step p _ (least_below-before n (λ k. p (suc k))) (p 0) refl j l

passes_step : (p : ℕ → Bool) (l n : ℕ) → (l < n → p (suc l) ≡ true) → (b : Bool) → p 0 ≡ b → cond b 0 (suc l) < suc n →
    p (cond b 0 (suc l)) ≡ true
passes_step p l n h true e m = e
passes_step p l n h false e m = h (omega arith)

-- it passes, where one does
pub least_below-passes : (n : ℕ) (p : ℕ → Bool) → least_below n p < n → p (least_below n p) ≡ true
unfolding least_below
least_below-passes zero p l = absurd (omega arith)
least_below-passes (suc n) p l = passes_step p _ n (least_below-passes n (λ k. p (suc k))) (p 0) refl l

-- one that passes isn't below it
pub least_below-at : (n : ℕ) (p : ℕ → Bool) (k : ℕ) → p k ≡ true → least_below n p ≤ k
least_below-at n p k e =
    elim (cases_lt k (least_below n p)) [ inl h ↦ absurd (false≢true (sym (least_below-before n p k h) ∙ e)) | inr h ↦ h ]

is_step : (n k l : ℕ) (p : ℕ → Bool) → k ≤ n → ((j : ℕ) → j < k → p j ≡ false) → (k < n → p k ≡ true) →
    ((j : ℕ) → j < l → p j ≡ false) → (l < n → p l ≡ true) → l ≤ n → (l ≡ k) ⊎ ((l < k) ⊎ (k < l)) → l ≡ k
is_step n k l p m before at before' at' m' (inl e) = e
is_step n k l p m before at before' at' m' (inr (inl h)) = absurd (false≢true (sym (before l h) ∙ at' (omega arith)))
is_step n k l p m before at before' at' m' (inr (inr h)) = absurd (false≢true (sym (before' k h) ∙ at (omega arith)))

-- the only one that all this holds of
pub least_below-is : (n : ℕ) (p : ℕ → Bool) (k : ℕ) → k ≤ n → ((j : ℕ) → j < k → p j ≡ false) → (k < n → p k ≡ true) → least_below n p ≡ k
least_below-is n p k m before at =
    is_step n k (least_below n p) p m before at (least_below-before n p) (least_below-passes n p) (least_below-le n p)
    (cases_order (least_below n p) k)

pub some_below-true : (n : ℕ) (p : ℕ → Bool) (k : ℕ) → k < n → p k ≡ true → some_below n p ≡ true
unfolding some_below
some_below-true n p k l e = let h : least_below n p ≤ k = least_below-at n p k e in lt-ltb (least_below n p) n (omega arith)

pub record Found (n : ℕ) (p : ℕ → Bool) : Type 0 where
  pub at : ℕ
  pub below : at < n
  pub passes : p at ≡ true

pub some_below-found : (n : ℕ) (p : ℕ → Bool) → some_below n p ≡ true → Found n p
unfolding some_below
some_below-found n p e =
    let h : least_below n p < n = ltb-true (least_below n p) n e in
    record { at = least_below n p; below = h; passes = least_below-passes n p h }

pub some_below-none : (n : ℕ) (p : ℕ → Bool) → ((k : ℕ) → k < n → p k ≡ false) → some_below n p ≡ false
unfolding some_below
some_below-none n p h =
    let e : least_below n p ≡ n = least_below-is n p n (omega arith) h (λ l. absurd (omega arith)) in
    le-ltb (least_below n p) n (omega arith)

none_step : (n : ℕ) (p : ℕ → Bool) (k : ℕ) → k < n → some_below n p ≡ false → (p k ≡ true) ⊎ (p k ≡ false) → p k ≡ false
none_step n p k l e (inl h) = absurd (false≢true (sym e ∙ some_below-true n p k l h))
none_step n p k l e (inr h) = h

pub some_below-false : (n : ℕ) (p : ℕ → Bool) (k : ℕ) → k < n → some_below n p ≡ false → p k ≡ false
some_below-false n p k l e = none_step n p k l e (cases_Bool (p k))

same_step : (n : ℕ) (p q : ℕ → Bool) → ((k : ℕ) → k < n → p k ≡ q k) → (b : Bool) → some_below n q ≡ b → some_below n p ≡ b
same_step n p q h true e = let f = some_below-found n q e in some_below-true n p f.at f.below (h f.at f.below ∙ f.passes)
same_step n p q h false e = some_below-none n p (λ k l. h k l ∙ some_below-false n q k l e)

-- tests that agree below the bound
pub some_below-same : (n : ℕ) (p q : ℕ → Bool) → ((k : ℕ) → k < n → p k ≡ q k) → some_below n p ≡ some_below n q
some_below-same n p q h = same_step n p q h (some_below n q) refl
