-- How many of the first records are a core's, and how many of these are accesses.
use Rattle.std.proofs.Common.{◌≡◌, ◌≢◌, ℕ, zero, suc, ◌+◌, ◌<◌, ◌⊎◌, inl, inr, Bool, true, false, cond, ◌==◌, List, [], ◌∷◌, set, take}
use Rattle.std.proofs.Common.{length, get_or, slice_get, Some, refl, sym, ap, subst, ◌∙◌, arith}
use Rattle.std.proofs.lemmas.Bool.Decides.{nat_tests}
use Rattle.std.proofs.lemmas.Bool.{cases_order}
use Rattle.std.proofs.lemmas.List.{get_or-set_other}
use Rattle.std.proofs.lemmas.Grind.{get_or-set_at}
use Rattle.rv_core.specs.declared.step.Record.{Record}
use Rattle.sn_consistency.specs.Projections.{records_of}
use Rattle.trace_check.specs.declared.cores.Slot.{Slot}
use Rattle.trace_check.specs.Tags.{of_access, accesses_before}
use Rattle.trace_check.specs.Slots.{HasTag, own_before}
use Rattle.trace_check.proofs.Tagged.{accesses_next}

-- how many are a core's, with one record more
own_next : (n : ℕ) (rs : List Record) (k : ℕ) (r : Record) → slice_get rs k ≡ Some r →
    own_before rs n (suc k) ≡ cond (n == r.core) (suc (own_before rs n k)) (own_before rs n k)
own_next n [] k r e = absurd (cc)
own_next n (x ∷ rs) zero r e = let i : x ≡ r = cc in subst (λ y. own_before (x ∷ rs) n 1 ≡ cond (n == y.core) 1 0) i (go (n == x.core))
  where
    go : (q : Bool) → length (cond q (x ∷ []) []) ≡ cond q 1 0
    go true = refl
    go false = refl
own_next n (x ∷ rs) (suc k) r e = go (n == x.core) (n == r.core) (own_next n rs k r e)
  where
    go : (q t : Bool) → own_before rs n (suc k) ≡ cond t (suc (own_before rs n k)) (own_before rs n k) →
        length (cond q (x ∷ records_of n (take (suc k) rs)) (records_of n (take (suc k) rs)))
        ≡ cond t (suc (length (cond q (x ∷ records_of n (take k rs)) (records_of n (take k rs))))) (length (cond q (x ∷ records_of n (take k rs)) (records_of n (take k rs))))
    go true true h = omega (arith, h)
    go true false h = omega (arith, h)
    go false true h = h
    go false false h = h

-- what is counted for each of 16 cores, with a record of one of them more
module _ (rs : List Record) (k : ℕ) (r : Record) (e : slice_get rs k ≡ Some r) (core : ℕ) (i : core ≡ r.core) where
  own_more : (n : ℕ) → own_before rs n (k + 1) ≡ cond (n == r.core) (suc (own_before rs n k)) (own_before rs n k)
  own_more n = let f : k + 1 ≡ suc k = omega arith in ap (own_before rs n) f ∙ own_next n rs k r e

  same_more : (n : ℕ) → n ≡ core → own_before rs n (k + 1) ≡ suc (own_before rs n k)
  same_more n s = let t : (n == r.core) ≡ true = grind (arith, nat_tests) in own_more n ∙ ap (λ q. cond q (suc (own_before rs n k)) (own_before rs n k)) t

  other_more : (n : ℕ) → n ≢ core → own_before rs n (k + 1) ≡ own_before rs n k
  other_more n o = let t : (n == r.core) ≡ false = grind (arith, nat_tests) in own_more n ∙ ap (λ q. cond q (suc (own_before rs n k)) (own_before rs n k)) t

  module _ (counts : List ℕ) (wide : length counts ≡ 16) (step : ℕ) where
    counted : (before after : ℕ → ℕ) → ((n : ℕ) → n < 16 → get_or counts n 0 ≡ before n) →
        ((n : ℕ) → n ≡ core → after n ≡ before n + step) → ((n : ℕ) → n ≢ core → after n ≡ before n) →
        (n : ℕ) → n < 16 → get_or (set counts core (get_or counts core 0 + step)) n 0 ≡ after n
    counted before after h more same n l = go (cases_order n core)
      where
        other : n ≢ core → get_or (set counts core (get_or counts core 0 + step)) n 0 ≡ after n
        other o = get_or-set_other counts core n (get_or counts core 0 + step) 0 o ∙ h n l ∙ sym (same n o)

        go : ((n ≡ core) ⊎ ((n < core) ⊎ (core < n))) → get_or (set counts core (get_or counts core 0 + step)) n 0 ≡ after n
        go (inl s) =
            get_or-set_at counts core n (get_or counts core 0 + step) 0 s (omega (arith, wide, l, s))
            ∙ ap (λ x. get_or counts x 0 + step) (sym s) ∙ ap (λ x. x + step) (h n l) ∙ sym (more n s)
        go (inr (inl m)) = other (omega (arith, m))
        go (inr (inr m)) = other (omega (arith, m))

  pub own_set : (own : List ℕ) → length own ≡ 16 → ((n : ℕ) → n < 16 → get_or own n 0 ≡ own_before rs n k) →
      (n : ℕ) → n < 16 → get_or (set own core (get_or own core 0 + 1)) n 0 ≡ own_before rs n (k + 1)
  own_set own wide h = counted own wide 1 (λ n. own_before rs n k) (λ n. own_before rs n (k + 1)) h
      (λ n s. let f = same_more n s in omega (arith, f)) other_more

  pub next_set : (slots : List Slot) (tag step : ℕ) → ((d : Slot) → HasTag rs k r (get_or slots r.core d) tag) → step ≡ cond (of_access tag) 1 0 →
      (next : List ℕ) → length next ≡ 16 → (d : Slot) → ((n : ℕ) → n < 16 → get_or next n 0 ≡ accesses_before (get_or slots n d).tagged (own_before rs n k)) →
      (n : ℕ) → n < 16 → get_or (set next core (get_or next core 0 + step)) n 0 ≡ accesses_before (get_or slots n d).tagged (own_before rs n (k + 1))
  next_set slots tag step has is next wide d h =
      counted next wide step (λ n. accesses_before (get_or slots n d).tagged (own_before rs n k)) (λ n. accesses_before (get_or slots n d).tagged (own_before rs n (k + 1))) h
      more (λ n o. ap (accesses_before (get_or slots n d).tagged) (other_more n o))
    where
      more : (n : ℕ) → n ≡ core → accesses_before (get_or slots n d).tagged (own_before rs n (k + 1)) ≡ accesses_before (get_or slots n d).tagged (own_before rs n k) + step
      more n s =
          let t = subst (λ x. slice_get (get_or slots x d).tagged.tags.items (own_before rs x k) ≡ Some tag) (sym (s ∙ i)) (has d) in
          ap (accesses_before (get_or slots n d).tagged) (same_more n s)
          ∙ accesses_next (get_or slots n d).tagged.tags.items (own_before rs n k) tag t
          ∙ ap (λ x. accesses_before (get_or slots n d).tagged (own_before rs n k) + x) (sym is)
