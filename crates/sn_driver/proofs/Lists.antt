-- Lists whose places may be empty, and the first number or element that passes a test.
use Rattle.std.proofs.Common.{◌≡◌, ◌⊎◌, inl, inr, Bool, ◌||◌, cond, true, false, zero, suc, ℕ, ◌+◌, ◌-◌, ◌<◌, ◌≤◌, List, [], ◌∷◌, ◌++◌}
use Rattle.std.proofs.Common.{length, get_or, drop, filter_map, find, slice_get, Option, Some, None, refl, sym, ap, ◌∙◌, arith}
use Rattle.std.proofs.Common.{drop-cons, length-append, add-one}
use Rattle.std.specs.List.{list_any, range_with_len, cons_option}
use Rattle.std.proofs.lemmas.Bool.{cases_lt}
use Rattle.std.proofs.lemmas.List.{get_or-append-add}

-- the events from a place on are the one there, where there is one, and those after it
pub from_place : {X : Type 0} (xs : List (Option X)) (k : ℕ) → k < length xs →
    filter_map (λ (o : Option X). o) (drop k xs) ≡ cons_option (get_or xs k None) (filter_map (λ (o : Option X). o) (drop (k + 1) xs))
from_place xs k l = rw (add-one k) (ap (filter_map (λ o. o)) (drop-cons xs k None l))

-- a place after two lists
pub after_both : {X : Type 0} (xs ys zs : List X) (k place : ℕ) (d : X) → length xs ≡ k → length ys ≡ k → k ≤ place → k ≤ place - k →
    get_or (xs ++ ys ++ zs) place d ≡ get_or zs (place - k - k) d
after_both xs ys zs k place d hx hy l m =
    let e : length (xs ++ ys) ≡ k + k = omega (arith, length-append xs ys, hx, hy) in
    let i : place ≡ length (xs ++ ys) + (place - k - k) = omega (arith, e, l, m) in
    ap (λ p. get_or (xs ++ ys ++ zs) p d) i ∙ get_or-append-add (xs ++ ys) zs (place - k - k) d

-- an empty list has nothing at any place
pub nothing_of_none : {X : Type 0} (xs : List X) (k : ℕ) → length xs ≡ 0 → slice_get xs k ≡ None
nothing_of_none [] k e = refl
nothing_of_none (x ∷ xs) k e = absurd (omega (arith, e))

-- whether some element passes a test

or_true : (b : Bool) → b || true ≡ true
or_true true = refl
or_true false = refl

pub some_passes : {X : Type 0} (p : X → Bool) (xs : List X) (k : ℕ) (d : X) → k < length xs → p (get_or xs k d) ≡ true → list_any p xs ≡ true
some_passes p [] k d l h = absurd (omega (arith, l))
some_passes p (x ∷ xs) zero d l h = ap (λ b. b || list_any p xs) h
some_passes p (x ∷ xs) (suc k) d l h = ap (λ b. p x || b) (some_passes p xs k d (omega (arith, l)) h) ∙ or_true (p x)

pub none_passes : {X : Type 0} (p : X → Bool) (xs : List X) (d : X) → ((k : ℕ) → k < length xs → p (get_or xs k d) ≡ false) → list_any p xs ≡ false
none_passes p [] d h = refl
none_passes p (x ∷ xs) d h = ap (λ b. b || list_any p xs) (h 0 (omega arith)) ∙ none_passes p xs d (λ k l. h (suc k) (omega (arith, l)))

-- the least number that passes a test

pub least_from : (test : ℕ → Bool) (a n k : ℕ) → a ≤ k → k < a + n → ((b : ℕ) → b < k → test b ≡ false) → test k ≡ true → find test (range_with_len a n) ≡ Some k
least_from test a zero k low high below at = absurd (omega (arith, low, high))
least_from test a (suc n) k low high below at = go (cases_lt a k) (λ l. least_from test (a + 1) n k (omega (arith, l)) (omega (arith, high)) below at)
  where
    go : ((a < k) ⊎ (k ≤ a)) → (a < k → find test (range_with_len (a + 1) n) ≡ Some k) → find test (range_with_len a (suc n)) ≡ Some k
    go (inl l) later = ap (λ t. cond t (Some a) (find test (range_with_len (a + 1) n))) (below a l) ∙ later l
    go (inr l) later = let e : k ≡ a = omega (arith, low, l) in ap (λ t. cond t (Some a) (find test (range_with_len (a + 1) n))) (ap test (sym e) ∙ at) ∙ ap (λ j. Some j) (sym e)

pub none_from : (test : ℕ → Bool) (a n : ℕ) → ((b : ℕ) → b < a + n → test b ≡ false) → find test (range_with_len a n) ≡ None
none_from test a zero h = refl
none_from test a (suc n) h = ap (λ t. cond t (Some a) (find test (range_with_len (a + 1) n))) (h a (omega arith)) ∙ none_from test (a + 1) n (λ b l. h b (omega (arith, l)))
