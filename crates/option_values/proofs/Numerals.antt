-- Digits as a test, and what the reader of std makes of them.
use Rattle.std.proofs.Common.{◌≡◌, ◌==◌, ◌&&◌, ◌<◌, ◌^◌, ℕ, Bool, cond, true, false, refl, sym, subst, arith, List, [], ◌∷◌, drop}
use Rattle.std.proofs.Common.{slice_index, Some, None, Result, Ok, Err, nat_lt}
use Rattle.std.proofs.lemmas.Bool.Decides.{nat_tests}
use Rattle.std.specs.Char.{is_digit}
use Rattle.std.specs.List.{list_all}
use Rattle.std.specs.Result.{result_ok, OkIff}
use Rattle.std.specs.Str.Parse.{AllDigits, IsNumeral, ParsesUnsigned, digits_value}
use Rattle.option_values.specs.Values.{are_digits, number_below}

each : (radix : ℕ) (text : List ℕ) → AllDigits radix text → list_all (λ c. is_digit c radix) text ≡ true
each radix [] h = refl
each radix (c ∷ cs) h = rw (each radix cs h.1) grind (arith, nat_tests, h.0)

of_each : (radix : ℕ) (text : List ℕ) → list_all (λ c. is_digit c radix) text ≡ true → AllDigits radix text
of_each radix [] h = tt
of_each radix (c ∷ cs) h = grind (arith, nat_tests, h, of_each radix cs)

are-digits : (radix : ℕ) (text : List ℕ) → IsNumeral radix text → are_digits radix text ≡ true
are-digits radix text h = rw (each radix text h.1) grind (arith, nat_tests, h.0)

is-numeral : (radix : ℕ) (text : List ℕ) → are_digits radix text ≡ true → IsNumeral radix text
is-numeral radix text h = grind (arith, nat_tests, h, of_each radix text)

module _ {E : Type 0} (radix : ℕ) (text : List ℕ) where
  abbrev Reads : Result ℕ E → List ℕ → Type 0
  Reads r digits = OkIff r (IsNumeral radix digits × (digits_value radix digits < 2 ^ 64)) (digits_value radix digits)

  read : (r : Result ℕ E) → Reads r text → result_ok r ≡ number_below (2 ^ 64) radix text
  read (Ok n) h = rw (are-digits radix text h.0.0) grind (arith, nat_tests, h.0.1, h.1)
  read (Err e) h = go (are_digits radix text && nat_lt (digits_value radix text) (2 ^ 64)) refl
    where
      go : (b : Bool) → (are_digits radix text && nat_lt (digits_value radix text) (2 ^ 64)) ≡ b →
          None ≡ cond b (Some (digits_value radix text)) None
      go false is = refl
      go true is = absurd (h (is-numeral radix text (grind (arith, nat_tests, is)), grind (arith, nat_tests, is)))

  pub read_as : (r : Result ℕ E) → false ≡ (slice_index text 0 == 43) → ParsesUnsigned 64 radix text r →
      result_ok r ≡ number_below (2 ^ 64) radix text
  read_as r plain h = read r (subst (λ t. Reads r (drop (cond t 1 0) text)) (sym plain) h)
