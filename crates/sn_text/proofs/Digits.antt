-- How the definitions of numbers in texts go on at a byte.
use Rattle.std.proofs.Common.{inl, inr, ◌≡◌, ℕ, ◌+◌, ◌-◌, ◌*◌, ◌^◌, ◌<◌, ◌≤◌, List, [], ◌∷◌, drop, length, get_or, refl, ap, sym, ◌∙◌}
use Rattle.std.proofs.Common.{arith}
use Rattle.std.proofs.lemmas.Bool.Decides.{nat_tests}
use Rattle.std.specs.Prelude.{◌⊎◌, Option, Some, None, Bool, true, false, nat_eq, nat_lt, ◌&&◌, if◌then◌else◌}
use Rattle.std.proofs.lemmas.List.{drop_more, drop_all}
use Rattle.sn_text.specs.Digits.{is_digit, number_from, if_below, number_of}

number_from-digit : (n : ℕ) (text : List ℕ) (i : ℕ) → i < length text → is_digit (get_or text i 0) ≡ true →
    number_from n (drop i text) ≡ number_from (10 * n + (get_or text i 0 - 48)) (drop (i + 1) text)
number_from-digit n text i b digit = rw (drop_more text i 0 b, digit)

number_from-other : (n : ℕ) (text : List ℕ) (i : ℕ) → i < length text → is_digit (get_or text i 0) ≡ false →
    number_from n (drop i text) ≡ None
number_from-other n text i b other = rw (drop_more text i 0 b, other)

-- more digits never make a number smaller
branch-too_large : (b : Bool) (limit : ℕ) (r : Option ℕ) → if_below limit r ≡ None → if_below limit (if b then r else None) ≡ None
branch-too_large true limit r h = h
branch-too_large false limit r h = refl

above-is_none : (limit n : ℕ) (b : Bool) → nat_lt n limit ≡ b → limit ≤ n →
    (if b then Some n else None) ≡ (let none : Option ℕ = None in none)
above-is_none limit n false test h = refl
above-is_none limit n true test h = absurd (grind (arith, nat_tests))

too_large : (limit n : ℕ) (text : List ℕ) → limit ≤ n → if_below limit (number_from n text) ≡ None
too_large limit n [] h = above-is_none limit n (nat_lt n limit) refl h
too_large limit n (byte ∷ text) h =
    branch-too_large (is_digit byte) limit (number_from (10 * n + (byte - 48)) text)
    (too_large limit (10 * n + (byte - 48)) text (omega arith))

below-is_some : (limit n : ℕ) (b : Bool) → nat_lt n limit ≡ b → n < limit → (if b then Some n else None) ≡ Some n
below-is_some limit n true test h = refl
below-is_some limit n false test h = absurd (grind (arith, nat_tests))

pub number-ends : (limit n : ℕ) (text : List ℕ) (i : ℕ) → length text ≤ i → n < limit →
    if_below limit (number_from n (drop i text)) ≡ Some n
number-ends limit n text i past h = rw (drop_all i text past) (below-is_some limit n (nat_lt n limit) refl h)

pub number_of-plain : (text : List ℕ) → 0 < length text → (get_or text 0 0 ≡ 48 → length text ≤ 1) →
    number_of text ≡ if_below (2 ^ 64) (number_from 0 text)
number_of-plain [] some plain = absurd (omega arith)
number_of-plain (byte ∷ text) some plain = by_test (nat_eq byte 48 && nat_lt 0 (length text)) refl where
  by_test : (b : Bool) → (nat_eq byte 48 && nat_lt 0 (length text)) ≡ b →
      (if b then None else if_below (2 ^ 64) (number_from 0 (byte ∷ text))) ≡ if_below (2 ^ 64) (number_from 0 (byte ∷ text))
  by_test false e = refl
  by_test true e = absurd (grind (arith, nat_tests))

pub number_of-tested : (text : List ℕ) → 0 < length text → ((get_or text 0 0 ≡ 48) × (length text ≤ 1)) ⊎ (get_or text 0 0 ≡ 48 → ⊥) →
    number_of text ≡ if_below (2 ^ 64) (number_from 0 text)
number_of-tested text some (inl h) = number_of-plain text some (λ z. h.1)
number_of-tested text some (inr h) = number_of-plain text some (λ z. absurd (h z))

pub number_of-zero_first : (text : List ℕ) → 1 < length text → get_or text 0 0 ≡ 48 → number_of text ≡ None
number_of-zero_first [] long zero_first = absurd (omega arith)
number_of-zero_first (byte ∷ text) long zero_first =
    let e : (nat_eq byte 48 && nat_lt 0 (length text)) ≡ true = grind (arith, nat_tests) in rw e

-- one more digit is read
pub digit-step : (limit n longer digit : ℕ) (text : List ℕ) (i : ℕ) → i < length text → is_digit (get_or text i 0) ≡ true →
    digit + 48 ≡ get_or text i 0 → longer ≡ 10 * n + digit →
    if_below limit (number_from longer (drop (i + 1) text)) ≡ if_below limit (number_from n (drop i text))
digit-step limit n longer digit text i b is same e =
    let value : longer ≡ 10 * n + (get_or text i 0 - 48) = omega arith in
    ap (λ t. if_below limit (number_from t (drop (i + 1) text))) value ∙ ap (if_below limit) (sym (number_from-digit n text i b is))

-- what isn't a digit ends it
pub digit-other : (limit n : ℕ) (text : List ℕ) (i : ℕ) → i < length text → is_digit (get_or text i 0) ≡ false →
    if_below limit (number_from n (drop i text)) ≡ None
digit-other limit n text i b other = ap (if_below limit) (number_from-other n text i b other)

-- a digit that makes it too large
pub digit-too_large : (limit n digit : ℕ) (text : List ℕ) (i : ℕ) → i < length text → is_digit (get_or text i 0) ≡ true →
    digit + 48 ≡ get_or text i 0 → limit ≤ 10 * n + digit → if_below limit (number_from n (drop i text)) ≡ None
digit-too_large limit n digit text i b is same large =
    ap (if_below limit) (number_from-digit n text i b is)
    ∙ too_large limit (10 * n + (get_or text i 0 - 48)) (drop (i + 1) text) (omega arith)
