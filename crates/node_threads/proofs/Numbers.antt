-- The workers' numbers.
use Rattle.std.proofs.Common.{◌≡◌, ℕ, ◌+◌, List, [], ◌∷◌, ◌++◌, map, sym, ap, ◌∙◌, arith}
use Rattle.std.specs.List.{range_with_len}
use Rattle.std.proofs.lemmas.List.{map-append, map-id}
use Rattle.std.proofs.lemmas.List.FromFn.{map-range_with_len_more}

range-more : (n : ℕ) → range_with_len 0 (n + 1) ≡ range_with_len 0 n ++ n ∷ []
range-more n =
    sym (map-id (range_with_len 0 (n + 1))) ∙ map-range_with_len_more (λ (k : ℕ). k) 0 n n (omega arith)
    ∙ ap (λ (l : List ℕ). l ++ n ∷ []) (map-id (range_with_len 0 n))

-- one more worker, with the next number
pub numbers-more : {A : Type 0} (slots longer : List A) (slot : A) (number : A → ℕ) (n : ℕ) → longer ≡ slots ++ slot ∷ [] → number slot ≡ n →
    map number slots ≡ range_with_len 0 n → map number longer ≡ range_with_len 0 (n + 1)
numbers-more slots longer slot number n is next numbered =
    ap (λ l. map number l) is ∙ map-append number slots (slot ∷ []) ∙ ap (λ (l : List ℕ). l ++ number slot ∷ []) numbered
    ∙ ap (λ (k : ℕ). range_with_len 0 n ++ k ∷ []) next ∙ sym (range-more n)
