-- The bytes that a disassembler writes: those inside of an operand or a mnemonic, and those of a whole line.
use Rattle.std.proofs.Common.{◌≡◌, ℕ, zero, suc, ◌-◌, ◌<◌, Bool, true, false, not, ◌&&◌, ◌||◌, nat_eq, nat_le, List, [], ◌∷◌, ◌++◌, length}
use Rattle.std.proofs.Common.{get_or, reverse, refl, ap, ◌∙◌, arith}
use Rattle.std.proofs.lemmas.Bool.{and_parts, and_from}
use Rattle.std.proofs.lemmas.Bool.Decides.{nat_tests}
use Rattle.std.proofs.lemmas.List.{length-append, length-reverse, reverse-append, get_or_append_left, get_or-reverse}
use Rattle.rv_statement.specs.Lines.{is_blank}

abbrev pub all : (ℕ → Bool) → List ℕ → Bool
all test [] = true
all test (byte ∷ bytes) = test byte && all test bytes

-- no byte passes
abbrev pub none : (ℕ → Bool) → List ℕ → Bool
none test text = all (λ byte. not (test byte)) text

pub all-append : (test : ℕ → Bool) (xs ys : List ℕ) → all test xs ≡ true → all test ys ≡ true → all test (xs ++ ys) ≡ true
all-append test [] ys a b = b
all-append test (x ∷ xs) ys a b =
    let p = and_parts (test x) (all test xs) a in and_from (test x) (all test (xs ++ ys)) p.0 (all-append test xs ys p.1 b)

pub all-weaker : (p q : ℕ → Bool) → ((byte : ℕ) → p byte ≡ true → q byte ≡ true) → (xs : List ℕ) → all p xs ≡ true → all q xs ≡ true
all-weaker p q f [] a = refl
all-weaker p q f (x ∷ xs) a = let h = and_parts (p x) (all p xs) a in and_from (q x) (all q xs) (f x h.0) (all-weaker p q f xs h.1)

pub all-at : (test : ℕ → Bool) (xs : List ℕ) (i : ℕ) → all test xs ≡ true → i < length xs → test (get_or xs i 0) ≡ true
all-at test [] i a l = absurd (omega arith)
all-at test (x ∷ xs) zero a l = (and_parts (test x) (all test xs) a).0
all-at test (x ∷ xs) (suc i) a l = all-at test xs i (and_parts (test x) (all test xs) a).1 (omega arith)

-- a letter in lower case, a digit, `-` or `.`
abbrev pub is_solid : ℕ → Bool
is_solid byte = nat_le 97 byte && nat_le byte 122 || nat_le 48 byte && nat_le byte 57 || nat_le 45 byte && nat_le byte 46

-- no end of a line, no `#` and no `:`
abbrev pub is_inner : ℕ → Bool
is_inner byte = nat_le 32 byte && not (nat_eq byte 35) && not (nat_eq byte 58)

pub solid-inner : (byte : ℕ) → is_solid byte ≡ true → is_inner byte ≡ true
solid-inner byte h = grind (arith, nat_tests)

pub solid-unblank : (byte : ℕ) → is_solid byte ≡ true → not (is_blank byte) ≡ true
solid-unblank byte h = grind (arith, nat_tests)

pub solid-no_comma : (byte : ℕ) → is_solid byte ≡ true → not (nat_eq byte 44) ≡ true
solid-no_comma byte h = grind (arith, nat_tests)

pub solid-no_open : (byte : ℕ) → is_solid byte ≡ true → not (nat_eq byte 40) ≡ true
solid-no_open byte h = grind (arith, nat_tests)

pub solid-no_close : (byte : ℕ) → is_solid byte ≡ true → not (nat_eq byte 41) ≡ true
solid-no_close byte h = grind (arith, nat_tests)

pub inner-no_comment : (byte : ℕ) → is_inner byte ≡ true → not (nat_eq byte 35) ≡ true
inner-no_comment byte h = grind (arith, nat_tests)

pub inner-no_feed : (byte : ℕ) → is_inner byte ≡ true → nat_eq byte 10 ≡ false
inner-no_feed byte h = grind (arith, nat_tests)

pub inner-no_return : (byte : ℕ) → is_inner byte ≡ true → nat_eq byte 13 ≡ false
inner-no_return byte h = grind (arith, nat_tests)

pub inner-no_colon : (byte : ℕ) → is_inner byte ≡ true → nat_eq byte 58 ≡ false
inner-no_colon byte h = grind (arith, nat_tests)

pub unblank : (byte : ℕ) → not (is_blank byte) ≡ true → is_blank byte ≡ false
unblank byte h = grind (arith, nat_tests)

-- a text whose first byte is no blank
pub record Begins (text : List ℕ) : Type 0 where
  pub some : 0 < length text
  pub first : is_blank (get_or text 0 0) ≡ false

-- a text whose last byte is no blank
pub record Ends (text : List ℕ) : Type 0 where
  pub some : 0 < length text
  pub last : is_blank (get_or (reverse text) 0 0) ≡ false

pub begins-append : (a b : List ℕ) → Begins a → Begins (a ++ b)
begins-append a b h = record {
  some = omega (arith, length-append a b, h.some);
  first = ap is_blank (get_or_append_left a b 0 0 h.some) ∙ h.first;
}

pub ends-append : (a b : List ℕ) → Ends b → Ends (a ++ b)
ends-append a b h = record {
  some = omega (arith, length-append a b, h.some);
  last = ap (λ (l : List ℕ). is_blank (get_or l 0 0)) (reverse-append a b)
      ∙ ap is_blank (get_or_append_left (reverse b) (reverse a) 0 0 (omega (arith, length-reverse b, h.some))) ∙ h.last;
}

pub ends-after : (byte : ℕ) (b : List ℕ) → Ends b → Ends (byte ∷ b)
ends-after byte b h = ends-append (byte ∷ []) b h

pub solid-begins : (text : List ℕ) → all is_solid text ≡ true → 0 < length text → Begins text
solid-begins text h some =
    record { some = some; first = unblank (get_or text 0 0) (solid-unblank (get_or text 0 0) (all-at is_solid text 0 h some)) }

pub solid-ends : (text : List ℕ) → all is_solid text ≡ true → 0 < length text → Ends text
solid-ends text h some =
    let place : length text - 1 - 0 < length text = omega arith in
    let byte = get_or text (length text - 1 - 0) 0 in
    record {
      some = some;
      last = ap is_blank (get_or-reverse text 0 0 some)
          ∙ unblank byte (solid-unblank byte (all-at is_solid text (length text - 1 - 0) h place));
    }
