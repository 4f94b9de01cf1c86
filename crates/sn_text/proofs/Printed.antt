-- What numbers and words look like as text, and that they are read back.
use Rattle.std.proofs.Common.{◌≡◌, ℕ, zero, suc, ◌+◌, ◌-◌, ◌*◌, ◌/◌, ◌%◌, ◌^◌, ◌<◌, ◌≤◌, List, [], ◌∷◌, ◌++◌, take, drop, length, get_or}
use Rattle.std.proofs.Common.{refl, ap, ◌∙◌, arith}
use Rattle.std.proofs.lemmas.Bool.Decides.{nat_tests}
use Rattle.std.proofs.lemmas.Fmt.{decimal_by_steps, decimal_nonempty, first_decimal, length-decimal-le}
use Rattle.std.proofs.lemmas.List.{length-append}
use Rattle.std.specs.List.{position_or_len}
use Rattle.std.specs.Prelude.{⊤, Bool, true, false, nat_eq, nat_lt, nat_le, ◌&&◌, if◌then◌else◌, decimal, Some, None}
use Rattle.sn_text.specs.Digits.{is_digit, number_of, number_from, if_below}
use Rattle.sn_text.specs.Script.{hex_value, byte_of, parts_at_blank}
use Rattle.text_lines.specs.Hex.{hex_digit, hex_byte, hex_word}
use Rattle.sn_text.specs.Trace.{word_of}
use Rattle.sn_text.proofs.Digits.{number_of-plain, number-ends}

-- no byte of a text is below this one
abbrev pub From : ℕ → List ℕ → Type 0
From low [] = ⊤
From low (byte ∷ bytes) = (low ≤ byte) × From low bytes

-- the same as a test, which a text that is written out passes by itself
abbrev pub is_from : ℕ → List ℕ → Bool
is_from low [] = true
is_from low (x ∷ xs) = nat_le low x && is_from low xs

pub from-tested : (low : ℕ) (xs : List ℕ) → is_from low xs ≡ true → From low xs
from-tested low [] e = tt
from-tested low (x ∷ xs) e = (grind (arith, nat_tests), from-tested low xs (by_test (nat_le low x) (is_from low xs) e)) where
  by_test : (a b : Bool) → (a && b) ≡ true → b ≡ true
  by_test true b h = h
  by_test false b h = absurd cc

pub from-append : (low : ℕ) (xs ys : List ℕ) → From low xs → From low ys → From low (xs ++ ys)
from-append low [] ys a b = b
from-append low (x ∷ xs) ys a b = (a.0, from-append low xs ys a.1 b)

pub from-lower : (low high : ℕ) (xs : List ℕ) → low ≤ high → From high xs → From low xs
from-lower low high [] l a = tt
from-lower low high (x ∷ xs) l a = (omega (arith, l, a.0), from-lower low high xs l a.1)

-- decimal digits
pub from-decimal : (n : ℕ) → n < 2 ^ 64 → From 48 (decimal n)
from-decimal =
    decimal_by_steps (λ n ds. From 48 ds) (λ n l. (omega arith, tt))
    (λ n ds l before. from-append 48 ds ((48 + n % 10) ∷ []) before (omega arith, tt))

-- one more digit
number_from-push : (start n digit : ℕ) (ds : List ℕ) → digit < 10 → number_from start ds ≡ Some n →
    number_from start (ds ++ (48 + digit) ∷ []) ≡ Some (10 * n + digit)
number_from-push start n digit [] l e =
    let is : is_digit (48 + digit) ≡ true = grind (arith, nat_tests) in
    let same : start ≡ n = cc in
    let value : 10 * start + (48 + digit - 48) ≡ 10 * n + digit = omega arith in
    rw is (ap (λ t. Some t) value)
number_from-push start n digit (d ∷ ds) l e = by_test (is_digit d) (number_from-push (10 * start + (d - 48)) n digit ds l) e where
  by_test : (b : Bool) → (number_from (10 * start + (d - 48)) ds ≡ Some n →
      number_from (10 * start + (d - 48)) (ds ++ (48 + digit) ∷ []) ≡ Some (10 * n + digit)) →
      (if b then number_from (10 * start + (d - 48)) ds else None) ≡ Some n →
      (if b then number_from (10 * start + (d - 48)) (ds ++ (48 + digit) ∷ []) else None) ≡ Some (10 * n + digit)
  by_test true on h = on h
  by_test false on h = absurd cc

number_from-decimal : (n : ℕ) → n < 2 ^ 64 → number_from 0 (decimal n) ≡ Some n
number_from-decimal =
    decimal_by_steps (λ n ds. number_from 0 ds ≡ Some n) (λ n l. number_from-push 0 0 n [] l refl ∙ ap (λ t. Some t) (omega arith))
    (λ n ds l before. number_from-push 0 (n / 10) (n % 10) ds (omega arith) before ∙ ap (λ t. Some t) (omega arith))

decimal-plain : (n : ℕ) → n < 2 ^ 64 → get_or (decimal n) 0 0 ≡ 48 → length (decimal n) ≤ 1
decimal-plain zero l e = length-decimal-le 1 0 (omega arith) (omega arith) l
decimal-plain (suc n) l e = absurd (omega (arith, first_decimal (suc n) (omega arith) l))

-- a number that is written is read back
pub number_of-decimal : (n : ℕ) → n < 2 ^ 64 → number_of (decimal n) ≡ Some n
number_of-decimal n l =
    number_of-plain (decimal n) (decimal_nonempty n l) (decimal-plain n l) ∙ ap (if_below (2 ^ 64)) (number_from-decimal n l)
    ∙ number-ends (2 ^ 64) n [] 0 (omega arith) l

-- hexadecimal digits
hex_value-digit : (d : ℕ) → d < 16 → hex_value (hex_digit d) ≡ Some d
hex_value-digit d l = by_test (nat_lt d 10) refl where
  by_test : (b : Bool) → nat_lt d 10 ≡ b → hex_value (if b then 48 + d else 87 + d) ≡ Some d
  by_test true e =
      let is : (nat_le 48 (48 + d) && nat_le (48 + d) 57) ≡ true = grind (arith, nat_tests) in
      rw is (ap (λ t. Some t) (omega arith))
  by_test false e =
      let no_decimal : (nat_le 48 (87 + d) && nat_le (87 + d) 57) ≡ false = grind (arith, nat_tests) in
      let is : (nat_le 97 (87 + d) && nat_le (87 + d) 102) ≡ true = grind (arith, nat_tests) in
      rw (no_decimal, is) (ap (λ t. Some t) (omega arith))

from-hex_digit : (d : ℕ) → 48 ≤ hex_digit d
from-hex_digit d = by_test (nat_lt d 10) where
  by_test : (b : Bool) → 48 ≤ (if b then 48 + d else 87 + d)
  by_test true = omega arith
  by_test false = omega arith

byte_of-digits : (high low : ℕ) → high < 16 → low < 16 → byte_of (hex_digit high ∷ hex_digit low ∷ []) ≡ Some (16 * high + low)
byte_of-digits high low h l = rw (hex_value-digit high h, hex_value-digit low l) refl

-- a byte that is written is read back
pub byte_of-text : (byte : ℕ) → byte < 256 → byte_of (hex_byte byte) ≡ Some byte
unfolding hex_byte
byte_of-text byte l = byte_of-digits (byte / 16 % 16) (byte % 16) (omega arith) (omega arith) ∙ ap (λ t. Some t) (omega arith)

pub from-byte : (byte : ℕ) → From 48 (hex_byte byte)
unfolding hex_byte
from-byte byte = (from-hex_digit (byte / 16 % 16), (from-hex_digit (byte % 16), tt))

-- a word that is written is read back
pub word_of-text : (word : ℕ) → word < 2 ^ 32 → word_of (hex_word word) ≡ Some word
unfolding hex_word word_of
word_of-text word l =
    rw (
      byte_of-digits (word / 268435456 % 16) (word / 16777216 % 16) (omega arith) (omega arith),
      byte_of-digits (word / 1048576 % 16) (word / 65536 % 16) (omega arith) (omega arith),
      byte_of-digits (word / 4096 % 16) (word / 256 % 16) (omega arith) (omega arith),
      byte_of-digits (word / 16 % 16) (word % 16) (omega arith) (omega arith),
    ) (ap (λ t. Some t) (omega arith))

pub from-word : (word : ℕ) → From 48 (hex_word word)
unfolding hex_word
from-word word = (
  from-hex_digit _,
  (
    from-hex_digit _,
    (from-hex_digit _, (from-hex_digit _, (from-hex_digit _, (from-hex_digit _, (from-hex_digit _, (from-hex_digit _, tt)))))),
  ),
)

-- words with a blank between them are parted there
first_blank : (xs ys : List ℕ) → From 33 xs → position_or_len (λ byte. nat_eq byte 32) (xs ++ 32 ∷ ys) ≡ length xs
first_blank [] ys a = refl
first_blank (x ∷ xs) ys a =
    let other : nat_eq x 32 ≡ false = grind (arith, nat_tests, a.0) in
    let next : 1 + length xs ≡ suc (length xs) = omega arith in
    rw other (ap (λ n. 1 + n) (first_blank xs ys a.1) ∙ next)

no_blank : (xs : List ℕ) → From 33 xs → position_or_len (λ byte. nat_eq byte 32) xs ≡ length xs
no_blank [] a = refl
no_blank (x ∷ xs) a =
    let other : nat_eq x 32 ≡ false = grind (arith, nat_tests, a.0) in
    let next : 1 + length xs ≡ suc (length xs) = omega arith in
    rw other (ap (λ n. 1 + n) (no_blank xs a.1) ∙ next)

before : (xs ys : List ℕ) → take (length xs) (xs ++ ys) ≡ xs
before [] ys = refl
before (x ∷ xs) ys = ap (λ t. x ∷ t) (before xs ys)

behind : (xs : List ℕ) (y : ℕ) (ys : List ℕ) → drop (suc (length xs)) (xs ++ y ∷ ys) ≡ ys
behind [] y ys = refl
behind (x ∷ xs) y ys = behind xs y ys

pub parted-words : (xs ys : List ℕ) → From 33 xs → parts_at_blank (xs ++ 32 ∷ ys) ≡ Some (xs, ys)
parted-words xs ys a =
    let inside : nat_lt (length xs) (length (xs ++ 32 ∷ ys)) ≡ true = grind (arith, nat_tests, length-append xs (32 ∷ ys)) in
    let next : length xs + 1 ≡ suc (length xs) = omega arith in
    rw (first_blank xs ys a, inside, before xs (32 ∷ ys), next, behind xs 32 ys) refl

pub parted-word : (xs : List ℕ) → From 33 xs → parts_at_blank xs ≡ None
parted-word xs a =
    let past : nat_lt (length xs) (length xs) ≡ false = grind (arith, nat_tests) in rw (no_blank xs a, past) refl
