-- Immediates: a signed number and the parts of its two's complement.
use Rattle.std.proofs.Common.{◌≡◌, ℕ, ◌+◌, ◌-◌, ◌*◌, ◌%◌, ◌^◌, ◌<◌, ◌≤◌, ℤ, pos, negsuc, Bool, true, arith, refl, sym, ap, ◌∙◌, ⊎_elim}
use Rattle.std.proofs.lemmas.Bool.Decides.{nat_tests}
use Rattle.std.proofs.lemmas.Bool.{cases_lt}
use Rattle.std.specs.Prelude.{nat_eq, unsigned_abs, ◌&&◌}
use Rattle.rv_decode.specs.Parts.{part, signed, twos, i_imm, s_imm, b_imm, j_imm, u_imm}
use Rattle.rv_decode.specs.Table.{is_signed, is_target, is_upper}
use Rattle.rv_decode.proofs.Cells.{part-lt}

-- ---- from a word: its parts are those of the number that they make

signed-below : (half n : ℕ) → n < half → twos (signed half n) ≡ n
signed-below half n h = grind (arith, nat_tests)

signed-above : (half n : ℕ) → half ≤ n → n < 2 * half → half < 2 ^ 31 → twos (signed half n) ≡ n + (2 ^ 32 - 2 * half)
signed-above half n l h s = grind (arith, nat_tests)

-- modulo twice the half nothing is lost
twos-signed-2048 : (n : ℕ) → n < 4096 → twos (signed 2048 n) % 4096 ≡ n
twos-signed-2048 n h =
    ⊎_elim (λ l. omega (arith, signed-below 2048 n l)) (λ l. omega (arith, signed-above 2048 n l h (omega arith))) (cases_lt n 2048)

twos-signed-4096 : (n : ℕ) → n < 8192 → twos (signed 4096 n) % 8192 ≡ n
twos-signed-4096 n h =
    ⊎_elim (λ l. omega (arith, signed-below 4096 n l)) (λ l. omega (arith, signed-above 4096 n l h (omega arith))) (cases_lt n 4096)

twos-signed-1048576 : (n : ℕ) → n < 2097152 → twos (signed 1048576 n) % 2097152 ≡ n
twos-signed-1048576 n h =
    ⊎_elim (λ l. omega (arith, signed-below 1048576 n l)) (λ l. omega (arith, signed-above 1048576 n l h (omega arith)))
    (cases_lt n 1048576)

-- ---- to a word: a signed number is what its two's complement reads as

pub signed-twos-2048 : (z : ℤ) → is_signed 2048 z ≡ true → signed 2048 (twos z % 4096) ≡ z
signed-twos-2048 (pos n) h = grind (arith, nat_tests)
signed-twos-2048 (negsuc n) h = grind (arith, nat_tests)

pub signed-twos-4096 : (z : ℤ) → is_signed 4096 z ≡ true → signed 4096 (twos z % 8192) ≡ z
signed-twos-4096 (pos n) h = grind (arith, nat_tests)
signed-twos-4096 (negsuc n) h = grind (arith, nat_tests)

pub signed-twos-1048576 : (z : ℤ) → is_signed 1048576 z ≡ true → signed 1048576 (twos z % 2097152) ≡ z
signed-twos-1048576 (pos n) h = grind (arith, nat_tests)
signed-twos-1048576 (negsuc n) h = grind (arith, nat_tests)

-- ---- the immediates of the forms

i-part : (n : ℕ) → n < 4096 → part 0 12 (twos (signed 2048 n)) ≡ n
i-part n h = omega (arith, twos-signed-2048 n h)

s-parts : (a b : ℕ) → a < 128 → b < 32 → (part 5 7 (twos (signed 2048 (a * 32 + b))) ≡ a) × (part 0 5 (twos (signed 2048 (a * 32 + b))) ≡ b)
s-parts a b p q =
    let e : twos (signed 2048 (a * 32 + b)) % 4096 ≡ a * 32 + b = twos-signed-2048 (a * 32 + b) (omega arith) in (omega arith, omega arith)

pub record BranchParts (number : ℕ) (a b c d : ℕ) : Type 0 where
  pub top : part 12 1 number ≡ a
  pub next : part 11 1 number ≡ b
  pub upper : part 5 6 number ≡ c
  pub lower : part 1 4 number ≡ d

b-parts : (a b c d : ℕ) → a < 2 → b < 2 → c < 64 → d < 16 → BranchParts (twos (signed 4096 (a * 4096 + b * 2048 + c * 32 + d * 2))) a b c d
b-parts a b c d p q r s =
    let e : twos (signed 4096 (a * 4096 + b * 2048 + c * 32 + d * 2)) % 8192
    ≡ a * 4096 + b * 2048 + c * 32 + d * 2 = twos-signed-4096 (a * 4096 + b * 2048 + c * 32 + d * 2) (omega arith) in
    record { top = omega arith; next = omega arith; upper = omega arith; lower = omega arith }

pub record JumpParts (number : ℕ) (a b c d : ℕ) : Type 0 where
  pub top : part 20 1 number ≡ a
  pub upper : part 12 8 number ≡ b
  pub next : part 11 1 number ≡ c
  pub lower : part 1 10 number ≡ d

j-parts : (a b c d : ℕ) → a < 2 → b < 256 → c < 2 → d < 1024 →
    JumpParts (twos (signed 1048576 (a * 1048576 + b * 4096 + c * 2048 + d * 2))) a b c d
j-parts a b c d p q r s =
    let e : twos (signed 1048576 (a * 1048576 + b * 4096 + c * 2048 + d * 2)) % 2097152
    ≡ a * 1048576 + b * 4096 + c * 2048 + d * 2 = twos-signed-1048576 (a * 1048576 + b * 4096 + c * 2048 + d * 2) (omega arith) in
    record { top = omega arith; upper = omega arith; next = omega arith; lower = omega arith }

-- the parts of a word are those of its immediate
pub i-reads : (word : ℕ) → part 20 12 word ≡ part 0 12 (twos (i_imm word))
i-reads word = sym (i-part (part 20 12 word) (part-lt 20 12 word))

pub s-reads : (word : ℕ) → (part 25 7 word ≡ part 5 7 (twos (s_imm word))) × (part 7 5 word ≡ part 0 5 (twos (s_imm word)))
s-reads word = let h : _ = s-parts (part 25 7 word) (part 7 5 word) (part-lt 25 7 word) (part-lt 7 5 word) in (sym h.0, sym h.1)

pub b-reads : (word : ℕ) → BranchParts (twos (b_imm word)) (part 31 1 word) (part 7 1 word) (part 25 6 word) (part 8 4 word)
b-reads word =
    b-parts (part 31 1 word) (part 7 1 word) (part 25 6 word) (part 8 4 word) (part-lt 31 1 word) (part-lt 7 1 word) (part-lt 25 6 word)
    (part-lt 8 4 word)

pub j-reads : (word : ℕ) → JumpParts (twos (j_imm word)) (part 31 1 word) (part 12 8 word) (part 20 1 word) (part 21 10 word)
j-reads word =
    j-parts (part 31 1 word) (part 12 8 word) (part 20 1 word) (part 21 10 word) (part-lt 31 1 word) (part-lt 12 8 word) (part-lt 20 1 word)
    (part-lt 21 10 word)

-- a word with the parts of an immediate has that immediate
pub i-is : (word : ℕ) (z : ℤ) → is_signed 2048 z ≡ true → part 20 12 word ≡ part 0 12 (twos z) → i_imm word ≡ z
i-is word z h e = ap (signed 2048) (omega (arith, e)) ∙ signed-twos-2048 z h

pub s-is : (word : ℕ) (z : ℤ) → is_signed 2048 z ≡ true → part 25 7 word ≡ part 5 7 (twos z) → part 7 5 word ≡ part 0 5 (twos z) →
    s_imm word ≡ z
s-is word z h e f = ap (signed 2048) (omega (arith, e, f)) ∙ signed-twos-2048 z h

signed-of-target : (half : ℕ) (z : ℤ) → is_target half z ≡ true → is_signed half z ≡ true
signed-of-target half z h = grind (arith, nat_tests)

even-of-target : (half : ℕ) (z : ℤ) → is_target half z ≡ true → twos z % 2 ≡ 0
even-of-target half (pos n) h = grind (arith, nat_tests)
even-of-target half (negsuc n) h = grind (arith, nat_tests)

b-sum : (n : ℕ) → n % 2 ≡ 0 → part 12 1 n * 4096 + part 11 1 n * 2048 + part 5 6 n * 32 + part 1 4 n * 2 ≡ n % 8192
b-sum n h = omega arith

j-sum : (n : ℕ) → n % 2 ≡ 0 → part 20 1 n * 1048576 + part 12 8 n * 4096 + part 11 1 n * 2048 + part 1 10 n * 2 ≡ n % 2097152
j-sum n h = omega arith

pub b-is : (word : ℕ) (z : ℤ) → is_target 4096 z ≡ true →
    BranchParts (twos z) (part 31 1 word) (part 7 1 word) (part 25 6 word) (part 8 4 word) → b_imm word ≡ z
b-is word z h e =
    ap (signed 4096) (omega (arith, e, b-sum (twos z) (even-of-target 4096 z h))) ∙ signed-twos-4096 z (signed-of-target 4096 z h)

pub j-is : (word : ℕ) (z : ℤ) → is_target 1048576 z ≡ true →
    JumpParts (twos z) (part 31 1 word) (part 12 8 word) (part 20 1 word) (part 21 10 word) → j_imm word ≡ z
j-is word z h e =
    ap (signed 1048576) (omega (arith, e, j-sum (twos z) (even-of-target 1048576 z h)))
    ∙ signed-twos-1048576 z (signed-of-target 1048576 z h)

pub u-is : (word imm : ℕ) → imm < 2 ^ 32 → imm % 4096 ≡ 0 → part 12 20 word ≡ part 12 20 imm → u_imm word ≡ imm
u-is word imm l m e = omega (arith, e)

pub u-reads : (word : ℕ) → part 12 20 word ≡ part 12 20 (u_imm word)
u-reads word = omega arith

-- ---- the immediates of a word fit

signed-fits-2048 : (n : ℕ) → n < 4096 → is_signed 2048 (signed 2048 n) ≡ true
signed-fits-2048 n l = grind (arith, nat_tests)

signed-fits-4096 : (n : ℕ) → n < 8192 → is_signed 4096 (signed 4096 n) ≡ true
signed-fits-4096 n l = grind (arith, nat_tests)

signed-fits-1048576 : (n : ℕ) → n < 2097152 → is_signed 1048576 (signed 1048576 n) ≡ true
signed-fits-1048576 n l = grind (arith, nat_tests)

-- the sign leaves a number even
even-signed : (half n : ℕ) → n < 2 * half → n % 2 ≡ 0 → nat_eq (unsigned_abs (signed half n) % 2) 0 ≡ true
even-signed half n l e = grind (arith, nat_tests)

both : (a b : Bool) → a ≡ true → b ≡ true → (a && b) ≡ true
both a b e f = rw (e, f) refl

pub i-fits : (word : ℕ) → is_signed 2048 (i_imm word) ≡ true
i-fits word = signed-fits-2048 (part 20 12 word) (part-lt 20 12 word)

pub s-fits : (word : ℕ) → is_signed 2048 (s_imm word) ≡ true
s-fits word = signed-fits-2048 (part 25 7 word * 32 + part 7 5 word) (omega (arith, part-lt 25 7 word, part-lt 7 5 word))

b-number-fits : (a b c d : ℕ) → a < 2 → b < 2 → c < 64 → d < 16 → is_target 4096 (signed 4096 (a * 4096 + b * 2048 + c * 32 + d * 2)) ≡ true
b-number-fits a b c d p q r s =
    let n : ℕ = a * 4096 + b * 2048 + c * 32 + d * 2 in
    both (is_signed 4096 (signed 4096 n)) (nat_eq (unsigned_abs (signed 4096 n) % 2) 0) (signed-fits-4096 n (omega arith))
    (even-signed 4096 n (omega arith) (omega arith))

j-number-fits : (a b c d : ℕ) → a < 2 → b < 256 → c < 2 → d < 1024 →
    is_target 1048576 (signed 1048576 (a * 1048576 + b * 4096 + c * 2048 + d * 2)) ≡ true
j-number-fits a b c d p q r s =
    let n : ℕ = a * 1048576 + b * 4096 + c * 2048 + d * 2 in
    both (is_signed 1048576 (signed 1048576 n)) (nat_eq (unsigned_abs (signed 1048576 n) % 2) 0) (signed-fits-1048576 n (omega arith))
    (even-signed 1048576 n (omega arith) (omega arith))

pub b-fits : (word : ℕ) → is_target 4096 (b_imm word) ≡ true
b-fits word =
    b-number-fits (part 31 1 word) (part 7 1 word) (part 25 6 word) (part 8 4 word) (part-lt 31 1 word) (part-lt 7 1 word)
    (part-lt 25 6 word) (part-lt 8 4 word)

pub j-fits : (word : ℕ) → is_target 1048576 (j_imm word) ≡ true
j-fits word =
    j-number-fits (part 31 1 word) (part 12 8 word) (part 20 1 word) (part 21 10 word) (part-lt 31 1 word) (part-lt 12 8 word)
    (part-lt 20 1 word) (part-lt 21 10 word)

upper-number-fits : (n : ℕ) → n < 1048576 → is_upper (n * 4096) ≡ true
upper-number-fits n l = grind (arith, nat_tests)

pub u-fits : (word : ℕ) → is_upper (u_imm word) ≡ true
u-fits word = upper-number-fits (part 12 20 word) (part-lt 12 20 word)
