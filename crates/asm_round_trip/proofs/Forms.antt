-- Each form of operands reads back.
use Rattle.std.proofs.Common.{◌≡◌, ℕ, ℤ, pos, ◌<◌, ◌^◌, true, not, nat_eq, List, [], ◌∷◌, ◌++◌, length, codes, decimal, Some, refl, ap, ◌∙◌}
use Rattle.std.proofs.Common.{arith, append_assoc}
use Rattle.std.specs.Fmt.{signed_decimal}
use lib.Signed.{mag}
use Rattle.rv_statement.specs.Lines.{cut}
use Rattle.rv_statement.specs.Forms.{register_then, registers_of, numbered_of, upper_of, closed_of, based_of, address_of, placed_of}
use Rattle.rv_statement.specs.Forms.{reserved_of, atomic_of, compared_of}
use Rattle.rv_asm.specs.Text.{register_text, with_comma, address_text, place_text}
use Rattle.asm_round_trip.proofs.Bytes.{all, all-append, all-weaker, is_solid, is_inner, solid-inner, solid-no_comma, solid-no_open}
use Rattle.asm_round_trip.proofs.Bytes.{solid-no_close, Begins, Ends, begins-append, ends-append, ends-after, solid-begins, solid-ends}
use Rattle.asm_round_trip.proofs.Cuts.{cut-at, trimmed-blank, trimmed-solid}
use Rattle.asm_round_trip.proofs.Numbers.{decimal-read, signed-read, signed-solid, signed-some, decimal-solid, decimal-some}
use Rattle.asm_round_trip.proofs.Registers.{register-read, register-solid, register-some}

-- what stands in a line, from its first byte to its last
pub record Stands (text : List ℕ) : Type 0 where
  pub begins : Begins text
  pub ends : Ends text
  pub inner : all is_inner text ≡ true

solid-stands : (text : List ℕ) → all is_solid text ≡ true → 0 < length text → Stands text
solid-stands text solid some =
    record {
      begins = solid-begins text solid some;
      ends = solid-ends text solid some;
      inner = all-weaker is_solid is_inner solid-inner text solid;
    }

pub register-stands : (n : ℕ) → n < 32 → Stands (register_text n)
register-stands n h = solid-stands (register_text n) (register-solid n h) (register-some n)

pub decimal-stands : (n : ℕ) → n < 2 ^ 32 → Stands (decimal n)
decimal-stands n h = solid-stands (decimal n) (decimal-solid n (omega arith)) (decimal-some n (omega arith))

pub signed-stands : (z : ℤ) → mag z < 2 ^ 31 → Stands (signed_decimal z)
signed-stands z h = solid-stands (signed_decimal z) (signed-solid z h) (signed-some z h)

listed-is : (one other : List ℕ) → with_comma one other ≡ one ++ 44 ∷ (32 ∷ other)
listed-is one other = append_assoc one (codes ", ") other

pub listed-stands : (one other : List ℕ) → Stands one → Stands other → Stands (with_comma one other)
listed-stands one other a b =
    rw (listed-is one other) (record {
      begins = begins-append one (44 ∷ (32 ∷ other)) a.begins;
      ends = ends-append one (44 ∷ (32 ∷ other)) (ends-after 44 (32 ∷ other) (ends-after 32 other b.ends));
      inner = all-append is_inner one (44 ∷ (32 ∷ other)) a.inner b.inner;
    })

-- (xN), after a number or nothing
based-ends : (base : ℕ) → Ends (address_text base)
based-ends base = ends-append (40 ∷ register_text base) (41 ∷ []) (record { some = omega arith; last = refl })

address-inner : (base : ℕ) → base < 32 → all is_inner (address_text base) ≡ true
address-inner base h = all-append is_inner (40 ∷ register_text base) (41 ∷ []) (register-stands base h).inner refl

pub address-stands : (base : ℕ) → base < 32 → Stands (address_text base)
address-stands base h =
    record { begins = record { some = omega arith; first = refl }; ends = based-ends base; inner = address-inner base h }

pub place-stands : (z : ℤ) (base : ℕ) → mag z < 2 ^ 31 → base < 32 → Stands (place_text z base)
place-stands z base small h = record {
  begins = begins-append (signed_decimal z) (address_text base) (signed-stands z small).begins;
  ends = ends-append (signed_decimal z) (address_text base) (based-ends base);
  inner = all-append is_inner (signed_decimal z) (address_text base) (signed-stands z small).inner (address-inner base h);
}

-- ---- forms

-- a register, a comma, and what follows
pub then-read : (n : ℕ) (rest : List ℕ) → n < 32 → Stands rest → register_then (with_comma (register_text n) rest) ≡ Some (n, rest)
unfolding register_then
then-read n rest h s =
    let comma : cut (λ byte. nat_eq byte 44) (with_comma (register_text n) rest) ≡ Some (register_text n, 32 ∷ rest) =
    ap (cut (λ byte. nat_eq byte 44)) (listed-is (register_text n) rest)
    ∙ cut-at (λ byte. nat_eq byte 44) (register_text n) (32 ∷ rest) 44
    (all-weaker is_solid (λ byte. not (nat_eq byte 44)) solid-no_comma (register_text n) (register-solid n h)) refl in
    rw (comma, trimmed-solid (register_text n) (register-solid n h), register-read n h, trimmed-blank rest s.begins s.ends) refl

pub registers-read : (a b c : ℕ) → a < 32 → b < 32 → c < 32 →
    registers_of (with_comma (register_text a) (with_comma (register_text b) (register_text c))) ≡ Some (a, b, c)
unfolding registers_of
registers-read a b c la lb lc =
    let sc = register-stands c lc in
    rw (
      then-read a (with_comma (register_text b) (register_text c)) la (listed-stands _ _ (register-stands b lb) sc),
      then-read b (register_text c) lb sc,
      register-read c lc,
    ) refl

pub numbered-read : (a b : ℕ) (z : ℤ) → a < 32 → b < 32 → mag z < 2 ^ 31 →
    numbered_of (with_comma (register_text a) (with_comma (register_text b) (signed_decimal z))) ≡ Some (a, b, z)
unfolding numbered_of
numbered-read a b z la lb lz =
    let sz = signed-stands z lz in
    rw (
      then-read a (with_comma (register_text b) (signed_decimal z)) la (listed-stands _ _ (register-stands b lb) sz),
      then-read b (signed_decimal z) lb sz,
      signed-read z lz,
    ) refl

pub compared-read : (a b : ℕ) (rest : List ℕ) → a < 32 → b < 32 → Stands rest →
    compared_of (with_comma (register_text a) (with_comma (register_text b) rest)) ≡ Some (a, b, rest)
unfolding compared_of
compared-read a b rest la lb s =
    rw (then-read a (with_comma (register_text b) rest) la (listed-stands _ _ (register-stands b lb) s), then-read b rest lb s) refl

pub upper-read : (a n : ℕ) → a < 32 → n < 2 ^ 32 → upper_of (with_comma (register_text a) (decimal n)) ≡ Some (a, pos n)
unfolding upper_of
upper-read a n la ln = rw (then-read a (decimal n) la (decimal-stands n ln), decimal-read n ln) refl

closed-read : (base : ℕ) → base < 32 → closed_of (register_text base ++ 41 ∷ []) ≡ Some base
unfolding closed_of
closed-read base h =
    let close : cut (λ byte. nat_eq byte 41) (register_text base ++ 41 ∷ []) ≡ Some (register_text base, []) =
    cut-at (λ byte. nat_eq byte 41) (register_text base) [] 41
    (all-weaker is_solid (λ byte. not (nat_eq byte 41)) solid-no_close (register_text base) (register-solid base h)) refl in
    rw (close, trimmed-solid (register_text base) (register-solid base h)) (register-read base h)

based-read : (before : List ℕ) (base : ℕ) → all is_solid before ≡ true → base < 32 →
    based_of (before ++ address_text base) ≡ Some (before, base)
unfolding based_of
based-read before base solid h =
    let bracket : cut (λ byte. nat_eq byte 40) (before ++ address_text base) ≡ Some (before, register_text base ++ 41 ∷ []) =
    cut-at (λ byte. nat_eq byte 40) before (register_text base ++ 41 ∷ []) 40
    (all-weaker is_solid (λ byte. not (nat_eq byte 40)) solid-no_open before solid) refl in
    rw (bracket, closed-read base h, trimmed-solid before solid) refl

address-read : (base : ℕ) → base < 32 → address_of (address_text base) ≡ Some base
unfolding address_of
address-read base h = rw (based-read [] base refl h) refl

pub placed-read : (a : ℕ) (z : ℤ) (base : ℕ) → a < 32 → mag z < 2 ^ 31 → base < 32 →
    placed_of (with_comma (register_text a) (place_text z base)) ≡ Some (a, z, base)
unfolding placed_of
placed-read a z base la lz lb =
    rw (
      then-read a (place_text z base) la (place-stands z base lz lb),
      based-read (signed_decimal z) base (signed-solid z lz) lb,
      signed-read z lz,
    ) refl

pub reserved-read : (a base : ℕ) → a < 32 → base < 32 → reserved_of (with_comma (register_text a) (address_text base)) ≡ Some (a, base)
unfolding reserved_of
reserved-read a base la lb = rw (then-read a (address_text base) la (address-stands base lb), address-read base lb) refl

pub atomic-read : (a b base : ℕ) → a < 32 → b < 32 → base < 32 →
    atomic_of (with_comma (register_text a) (with_comma (register_text b) (address_text base))) ≡ Some (a, b, base)
unfolding atomic_of
atomic-read a b base la lb lc =
    let s = address-stands base lc in
    rw (
      then-read a (with_comma (register_text b) (address_text base)) la (listed-stands _ _ (register-stands b lb) s),
      then-read b (address_text base) lb s,
      address-read base lc,
    ) refl
