-- A number that is written reads back.
use Rattle.std.proofs.Common.{◌≡◌, ℕ, ℤ, pos, negsuc, suc, ◌+◌, ◌-◌, ◌*◌, ◌/◌, ◌%◌, ◌^◌, ◌<◌, ◌≤◌, true, false, nat_eq, List, [], ◌∷◌, ◌++◌}
use Rattle.std.proofs.Common.{length, map, codes, decimal, Some, refl, ap, ◌∙◌, arith}
use Rattle.std.specs.Prelude.{option_map, neg_ℤ}
use Rattle.std.proofs.lemmas.Bool.{ne_eqb, lt-ltb, le-leb, and_right, and_from}
use Rattle.std.proofs.lemmas.Bool.Decides.{nat_tests}
use Rattle.std.proofs.lemmas.Fmt.{decimal_is_IsNumeral, decimal_nonempty, length-decimal-le}
use Rattle.std.proofs.lemmas.Str.Parse.{digit_from_value}
use Rattle.std.specs.Bool.{⊤}
use Rattle.std.specs.Char.{digit_value as value_of}
use Rattle.std.specs.Fmt.{signed_decimal}
use Rattle.std.specs.Str.Parse.{AllDigits, digits_value, digits_value_after}
use lib.Signed.{mag}
use Rattle.rv_statement.specs.Operands.{digit_value, digits_from, digits_of, begins, number_of}
use Rattle.text_lines.specs.Hex.{hex_digit, hex_word}
use Rattle.asm_round_trip.proofs.Bytes.{all, is_solid}

same-value : (c : ℕ) → 48 ≤ c → c ≤ 57 → value_of c ≡ c - 48
same-value c l h = grind (arith, nat_tests)

our-value : (c : ℕ) → 48 ≤ c → c ≤ 57 → digit_value c ≡ c - 48
our-value c l h = grind (arith, nat_tests)

is_decimal : (c : ℕ) → value_of c < 10 → (48 ≤ c) × (c ≤ 57)
is_decimal c h = digit_from_value c h

digits-read : (number : ℕ) (text : List ℕ) → AllDigits 10 text → digits_from 10 number text ≡ Some (digits_value_after 10 number text)
digits-read number [] h = refl
digits-read number (c ∷ text) h =
    let r = is_decimal c h.0 in
    rw (our-value c r.0 r.1, same-value c r.0 r.1, lt-ltb (c - 48) 10 (omega (arith, r.0, r.1)))
    (digits-read (number * 10 + (c - 48)) text h.1)

digits_of-read : (text : List ℕ) → AllDigits 10 text → 0 < length text → length text ≤ 12 → digits_of 10 text ≡ Some (digits_value 10 text)
unfolding digits_of
digits_of-read text h some few = rw (lt-ltb 0 (length text) some, le-leb (length text) 12 few) (digits-read 0 text h)

no-minus : (text : List ℕ) → AllDigits 10 text → 0 < length text → begins (codes "-") text ≡ false
no-minus [] h some = absurd (omega arith)
no-minus (c ∷ text) h some = let r = is_decimal c h.0 in rw (ne_eqb c 45 (λ e. omega (arith, r.0))) refl

no-prefix : (text : List ℕ) → AllDigits 10 text → begins (codes "0x") text ≡ false
no-prefix [] h = refl
no-prefix (c ∷ []) h = and_right (nat_eq c 48) false refl
no-prefix (c ∷ d ∷ text) h = let r = is_decimal d h.1.0 in rw (ne_eqb d 120 (λ e. omega (arith, r.1))) (and_right (nat_eq c 48) false refl)

plain-read : (text : List ℕ) → AllDigits 10 text → 0 < length text → length text ≤ 12 → number_of text ≡ Some (pos (digits_value 10 text))
unfolding number_of
plain-read text h some few = rw (no-minus text h some, no-prefix text h) (ap (option_map pos) (digits_of-read text h some few))

minus-read : (text : List ℕ) → AllDigits 10 text → 0 < length text → length text ≤ 12 →
    number_of (45 ∷ text) ≡ Some (neg_ℤ (pos (digits_value 10 text)))
unfolding number_of
minus-read text h some few = ap (option_map (λ number. neg_ℤ (pos number))) (digits_of-read text h some few)

pub decimal-read : (n : ℕ) → n < 2 ^ 32 → number_of (decimal n) ≡ Some (pos n)
decimal-read n small =
    let fits : n < 2 ^ 64 = omega arith in
    let d = decimal_is_IsNumeral n fits in
    plain-read (decimal n) d.0.1 d.0.0 (length-decimal-le 12 n (omega arith) (omega arith) fits) ∙ ap (λ m. Some (pos m)) d.1

pub signed-read : (z : ℤ) → mag z < 2 ^ 31 → number_of (signed_decimal z) ≡ Some z
signed-read (pos n) small = decimal-read n (omega arith)
signed-read (negsuc n) small =
    let fits : suc n < 2 ^ 64 = omega arith in
    let d = decimal_is_IsNumeral (suc n) fits in
    minus-read (decimal (suc n)) d.0.1 d.0.0 (length-decimal-le 12 (suc n) (omega arith) (omega arith) fits)
    ∙ ap (λ m. Some (neg_ℤ (pos m))) d.1

digit-solid : (c : ℕ) → 48 ≤ c → c ≤ 57 → is_solid c ≡ true
digit-solid c l h = grind (arith, nat_tests)

digits-solid : (text : List ℕ) → AllDigits 10 text → all is_solid text ≡ true
digits-solid [] h = refl
digits-solid (c ∷ text) h =
    let r = is_decimal c h.0 in and_from (is_solid c) (all is_solid text) (digit-solid c r.0 r.1) (digits-solid text h.1)

pub decimal-solid : (n : ℕ) → n < 2 ^ 64 → all is_solid (decimal n) ≡ true
decimal-solid n fits = digits-solid (decimal n) (decimal_is_IsNumeral n fits).0.1

pub decimal-some : (n : ℕ) → n < 2 ^ 64 → 0 < length (decimal n)
decimal-some n fits = decimal_nonempty n fits

pub signed-solid : (z : ℤ) → mag z < 2 ^ 31 → all is_solid (signed_decimal z) ≡ true
signed-solid (pos n) small = decimal-solid n (omega arith)
signed-solid (negsuc n) small = decimal-solid (suc n) (omega arith)

pub signed-some : (z : ℤ) → mag z < 2 ^ 31 → 0 < length (signed_decimal z)
signed-some (pos n) small = decimal-some n (omega arith)
signed-some (negsuc n) small = omega arith

-- ---- hexadecimal digits

hex-value : (d : ℕ) → d < 16 → digit_value (hex_digit d) ≡ d
hex-value d h = grind (arith, nat_tests)

hex-solid : (d : ℕ) → d < 16 → is_solid (hex_digit d) ≡ true
hex-solid d h = grind (arith, nat_tests)

-- digits of a base of 16, and the number that they are after those of a number
abbrev AreBelow : List ℕ → Type 0
AreBelow [] = ⊤
AreBelow (d ∷ digits) = (d < 16) × AreBelow digits

abbrev value_after : ℕ → List ℕ → ℕ
value_after number [] = number
value_after number (d ∷ digits) = value_after (number * 16 + d) digits

hex-read : (number : ℕ) (digits : List ℕ) → AreBelow digits →
    digits_from 16 number (map hex_digit digits) ≡ Some (value_after number digits)
hex-read number [] h = refl
hex-read number (d ∷ digits) h = rw (hex-value d h.0, lt-ltb d 16 h.0) (hex-read (number * 16 + d) digits h.1)

hex-all_solid : (digits : List ℕ) → AreBelow digits → all is_solid (map hex_digit digits) ≡ true
hex-all_solid [] h = refl
hex-all_solid (d ∷ digits) h =
    and_from (is_solid (hex_digit d)) (all is_solid (map hex_digit digits)) (hex-solid d h.0) (hex-all_solid digits h.1)

below_16 : (n : ℕ) → n % 16 < 16
below_16 n = omega arith

digits-whole : (word : ℕ) → word < 2 ^ 32 →
    (((((((0 * 16 + word / 268435456 % 16) * 16 + word / 16777216 % 16) * 16 + word / 1048576 % 16) * 16 + word / 65536 % 16) * 16 + word / 4096 % 16) * 16 + word / 256 % 16) * 16 + word / 16 % 16) * 16 + word % 16 ≡ word
digits-whole word small = omega arith

-- the eight digits of a word
abbrev digits_in : ℕ → List ℕ
digits_in word =
    word / 268435456 % 16 ∷ word / 16777216 % 16 ∷ word / 1048576 % 16 ∷ word / 65536 % 16 ∷ word / 4096 % 16 ∷ word / 256 % 16
    ∷ word / 16 % 16 ∷ word % 16 ∷ []

are-below : (word : ℕ) → AreBelow (digits_in word)
are-below word = (
  below_16 (word / 268435456),
  (
    below_16 (word / 16777216),
    (
      below_16 (word / 1048576),
      (
        below_16 (word / 65536),
        (below_16 (word / 4096), (below_16 (word / 256), (below_16 (word / 16), (below_16 word, tt)))),
      ),
    ),
  ),
)

pub word-read : (word : ℕ) → word < 2 ^ 32 → number_of (codes "0x" ++ hex_word word) ≡ Some (pos word)
unfolding number_of digits_of hex_word
word-read word small = ap (option_map pos) (hex-read 0 (digits_in word) (are-below word)) ∙ ap (λ n. Some (pos n)) (digits-whole word small)

pub digits-text_solid : (word : ℕ) → all is_solid (hex_word word) ≡ true
unfolding hex_word
digits-text_solid word = hex-all_solid (digits_in word) (are-below word)
