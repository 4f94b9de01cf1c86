-- An instruction's line reads back as its word.
use Rattle.std.proofs.Common.{◌≡◌, ℕ, ℤ, pos, negsuc, ◌*◌, ◌/◌, ◌%◌, ◌^◌, ◌<◌, ◌≤◌, Bool, true, false, not, ◌&&◌, List, [], ◌∷◌, ◌++◌}
use Rattle.std.proofs.Common.{decimal, Option, Some, refl, sym, ap, ◌∙◌, arith, append-nil, subst}
use Rattle.std.specs.Prelude.{option_map}
use Rattle.std.specs.Fmt.{signed_decimal}
use Rattle.std.proofs.lemmas.Bool.Decides.{nat_tests}
use Rattle.std.proofs.lemmas.Bool.{lt-ltb, le-leb}
use lib.Signed.{mag}
use Rattle.rv_decode.specs.declared.instr.Instr.{Instr}
use Rattle.rv_decode.specs.declared.instr.Instr.TheVariants.{Lui, Auipc, Jal, Jalr, Branch, Load, Store, OpImm, Op, Fence, Ecall, Ebreak}
use Rattle.rv_decode.specs.declared.instr.Instr.TheVariants.{Lr, Sc, Amo}
use Rattle.rv_decode.specs.Codes.{is_shift}
use Rattle.rv_decode.specs.Table.{word_of, instr_fits, is_signed, is_target, is_operand, is_register, is_upper}
use Rattle.rv_statement.specs.Lines.{is_blank}
use Rattle.rv_statement.specs.Names.{mnemonic}
use Rattle.rv_statement.specs.Forms.{and_then}
use Rattle.rv_statement.specs.Reading.{Named, whole, fixed, read_of, word_of_instruction, upper, target, at_number, named_as, operation_of, on_parts}
use Rattle.rv_statement.specs.Reading.{instruction_of}
use Rattle.rv_asm.specs.Text.{register_text, with_comma, address_text, place_text, operands_text, instr_text}
use Rattle.asm_round_trip.proofs.Bytes.{all, all-append, all-weaker, is_solid, is_inner, solid-inner, solid-unblank, begins-append}
use Rattle.asm_round_trip.proofs.Bytes.{ends-append, ends-after, solid-begins, solid-ends}
use Rattle.asm_round_trip.proofs.Cuts.{cut-at, cut-nowhere, trimmed-none}
use Rattle.asm_round_trip.proofs.Numbers.{signed-read}
use Rattle.asm_round_trip.proofs.Forms.{Stands, register-stands, decimal-stands, signed-stands, listed-stands, address-stands, place-stands}
use Rattle.asm_round_trip.proofs.Forms.{then-read, registers-read, numbered-read, compared-read, upper-read, placed-read, reserved-read}
use Rattle.asm_round_trip.proofs.Forms.{atomic-read}
use Rattle.asm_round_trip.proofs.Rows.{operation-read, mnemonic-solid, mnemonic-some}

-- ---- what fits

is_register-lt : (n : ℕ) → is_register n ≡ true → n < 32
is_register-lt n h = grind (arith, nat_tests)

signed-small : (z : ℤ) → is_signed 2048 z ≡ true → mag z < 2 ^ 31
signed-small (pos n) h = grind (arith, nat_tests)
signed-small (negsuc n) h = grind (arith, nat_tests)

target-small : (half : ℕ) (z : ℤ) → half ≤ 1048576 → is_target half z ≡ true → mag z < 2 ^ 31
target-small half (pos n) l h = grind (arith, nat_tests)
target-small half (negsuc n) l h = grind (arith, nat_tests)

operand-small : (shift : Bool) (z : ℤ) → is_operand shift z ≡ true → mag z < 2 ^ 31
operand-small false z h = signed-small z h
operand-small true (pos n) h = grind (arith, nat_tests)
operand-small true (negsuc n) h = grind (arith, nat_tests)

upper-small : (imm : ℕ) → is_upper imm ≡ true → (imm / 4096 < 1048576) × (imm / 4096 * 4096 ≡ imm)
upper-small imm h =
    let below : imm < 2 ^ 32 = grind (arith, nat_tests) in
    let whole : imm % 4096 ≡ 0 = grind (arith, nat_tests) in
    (omega arith, omega arith)

first_of : (a b : Bool) → (a && b) ≡ true → a ≡ true
first_of true b h = refl
first_of false b h = cc

second_of : (a b : Bool) → (a && b) ≡ true → b ≡ true
second_of true b h = h
second_of false b h = cc

record Two (a b : Bool) : Type 0 where
  pub one : a ≡ true
  pub two : b ≡ true

two : (a b : Bool) → (a && b) ≡ true → Two a b
two a b h = record { one = first_of a b h; two = second_of a b h }

record Three (a b c : Bool) : Type 0 where
  pub one : a ≡ true
  pub two : b ≡ true
  pub three : c ≡ true

three : (a b c : Bool) → (a && b && c) ≡ true → Three a b c
three true true true h = record { one = refl; two = refl; three = refl }
three false b c h = cc
three true false c h = cc
three true true false h = cc

coded-fits : (instr : Instr) → instr_fits instr ≡ true → word_of_instruction instr ≡ Some (word_of instr)
unfolding word_of_instruction
coded-fits instr h = rw h refl

-- ---- operands

abbrev right : Instr → Option Named
right instr = Some (whole instr)

upper-is : (make : ℕ → Instr) (imm : ℕ) → is_upper imm ≡ true → upper make (pos (imm / 4096)) ≡ whole (make imm)
upper-is make imm h =
    let u = upper-small imm h in
    rw (le-leb 0 (imm / 4096) (omega arith), lt-ltb (imm / 4096) 1048576 u.0, u.1) refl

target-is : (make : ℤ → Instr) (z : ℤ) → mag z < 2 ^ 31 → target make (signed_decimal z) ≡ right (make z)
target-is make z small = ap (at_number make (signed_decimal z)) (signed-read z small)

-- the operands, without the blank before them
abbrev bare_operands : Instr → List ℕ
bare_operands (Lui rd imm) = with_comma (register_text rd) (decimal (imm / 4096))
bare_operands (Auipc rd imm) = with_comma (register_text rd) (decimal (imm / 4096))
bare_operands (Jal rd offset) = with_comma (register_text rd) (signed_decimal offset)
bare_operands (Jalr rd rs1 imm) = with_comma (register_text rd) (place_text imm rs1)
bare_operands (Branch o rs1 rs2 offset) = with_comma (register_text rs1) (with_comma (register_text rs2) (signed_decimal offset))
bare_operands (Load o rd rs1 imm) = with_comma (register_text rd) (place_text imm rs1)
bare_operands (Store o rs1 rs2 imm) = with_comma (register_text rs2) (place_text imm rs1)
bare_operands (OpImm o rd rs1 imm) = with_comma (register_text rd) (with_comma (register_text rs1) (signed_decimal imm))
bare_operands (Op o rd rs1 rs2) = with_comma (register_text rd) (with_comma (register_text rs1) (register_text rs2))
bare_operands Fence = []
bare_operands Ecall = []
bare_operands Ebreak = []
bare_operands (Lr rd rs1) = with_comma (register_text rd) (address_text rs1)
bare_operands (Sc rd rs1 rs2) = with_comma (register_text rd) (with_comma (register_text rs2) (address_text rs1))
bare_operands (Amo o rd rs1 rs2) = with_comma (register_text rd) (with_comma (register_text rs2) (address_text rs1))

operands-read : (instr : Instr) → instr_fits instr ≡ true → named_as instr (bare_operands instr) ≡ right instr
unfolding named_as
operands-read (Lui rd imm) h =
    let f = two _ _ h in let u = upper-small imm f.two in
    ap (option_map (λ a. upper (Lui a.0) a.1)) (upper-read rd (imm / 4096) (is_register-lt rd f.one) (omega (arith, u.0)))
    ∙ ap Some (upper-is (Lui rd) imm f.two)
operands-read (Auipc rd imm) h =
    let f = two _ _ h in let u = upper-small imm f.two in
    ap (option_map (λ a. upper (Auipc a.0) a.1)) (upper-read rd (imm / 4096) (is_register-lt rd f.one) (omega (arith, u.0)))
    ∙ ap Some (upper-is (Auipc rd) imm f.two)
operands-read (Jal rd offset) h =
    let f = two _ _ h in let small = target-small 1048576 offset (omega arith) f.two in
    ap (λ o. and_then o (λ a. target (Jal a.0) a.1))
    (then-read rd (signed_decimal offset) (is_register-lt rd f.one) (signed-stands offset small)) ∙ target-is (Jal rd) offset small
operands-read (Jalr rd rs1 imm) h =
    let f = three _ _ _ h in
    ap (option_map (λ a. whole (Jalr a.0 a.2 a.1)))
    (placed-read rd imm rs1 (is_register-lt rd f.one) (signed-small imm f.three) (is_register-lt rs1 f.two))
operands-read (Branch o rs1 rs2 offset) h =
    let f = three _ _ _ h in let small = target-small 4096 offset (omega arith) f.three in
    ap (λ c. and_then c (λ a. target (Branch o a.0 a.1) a.2))
    (compared-read rs1 rs2 (signed_decimal offset) (is_register-lt rs1 f.one) (is_register-lt rs2 f.two) (signed-stands offset small))
    ∙ target-is (Branch o rs1 rs2) offset small
operands-read (Load o rd rs1 imm) h =
    let f = three _ _ _ h in
    ap (option_map (λ a. whole (Load o a.0 a.2 a.1)))
    (placed-read rd imm rs1 (is_register-lt rd f.one) (signed-small imm f.three) (is_register-lt rs1 f.two))
operands-read (Store o rs1 rs2 imm) h =
    let f = three _ _ _ h in
    ap (option_map (λ a. whole (Store o a.2 a.0 a.1)))
    (placed-read rs2 imm rs1 (is_register-lt rs2 f.two) (signed-small imm f.three) (is_register-lt rs1 f.one))
operands-read (OpImm o rd rs1 imm) h =
    let f = three _ _ _ h in
    ap (option_map (λ a. whole (OpImm o a.0 a.1 a.2)))
    (numbered-read rd rs1 imm (is_register-lt rd f.one) (is_register-lt rs1 f.two) (operand-small (is_shift o) imm f.three))
operands-read (Op o rd rs1 rs2) h =
    let f = three _ _ _ h in
    ap (option_map (λ a. whole (Op o a.0 a.1 a.2)))
    (registers-read rd rs1 rs2 (is_register-lt rd f.one) (is_register-lt rs1 f.two) (is_register-lt rs2 f.three))
operands-read Fence h = refl
operands-read Ecall h = refl
operands-read Ebreak h = refl
operands-read (Lr rd rs1) h =
    let f = two _ _ h in
    ap (option_map (λ a. whole (Lr a.0 a.1))) (reserved-read rd rs1 (is_register-lt rd f.one) (is_register-lt rs1 f.two))
operands-read (Sc rd rs1 rs2) h =
    let f = three _ _ _ h in
    ap (option_map (λ a. whole (Sc a.0 a.2 a.1)))
    (atomic-read rd rs2 rs1 (is_register-lt rd f.one) (is_register-lt rs2 f.three) (is_register-lt rs1 f.two))
operands-read (Amo o rd rs1 rs2) h =
    let f = three _ _ _ h in
    ap (option_map (λ a. whole (Amo o a.0 a.2 a.1)))
    (atomic-read rd rs2 rs1 (is_register-lt rd f.one) (is_register-lt rs2 f.three) (is_register-lt rs1 f.two))

-- ---- the whole line

mnemonic-stands : (instr : Instr) → Stands (mnemonic instr)
mnemonic-stands instr = record {
  begins = solid-begins (mnemonic instr) (mnemonic-solid instr) (mnemonic-some instr);
  ends = solid-ends (mnemonic instr) (mnemonic-solid instr) (mnemonic-some instr);
  inner = all-weaker is_solid is_inner solid-inner (mnemonic instr) (mnemonic-solid instr);
}

pub spaced-stands : (name operands : List ℕ) → Stands name → Stands operands → Stands (name ++ 32 ∷ operands)
spaced-stands name operands a b = record {
  begins = begins-append name (32 ∷ operands) a.begins;
  ends = ends-append name (32 ∷ operands) (ends-after 32 operands b.ends);
  inner = all-append is_inner name (32 ∷ operands) a.inner b.inner;
}

-- what stands before the first blank, and what stands after it
pub spaced-read : (name operands : List ℕ) → all is_solid name ≡ true → Stands operands →
    instruction_of (name ++ 32 ∷ operands) ≡ operation_of name operands
unfolding instruction_of
spaced-read name operands solid s =
    ap (on_parts operation_of (name ++ 32 ∷ operands))
    (cut-at is_blank name operands 32 (all-weaker is_solid (λ byte. not (is_blank byte)) solid-unblank name solid) refl)
    ∙ ap (operation_of name) (trimmed-none operands s.begins s.ends)

alone-read : (name : List ℕ) → all is_solid name ≡ true → instruction_of name ≡ operation_of name []
unfolding instruction_of
alone-read name solid =
    ap (on_parts operation_of name) (cut-nowhere is_blank name (all-weaker is_solid (λ byte. not (is_blank byte)) solid-unblank name solid))

-- a line, from its first byte to its last, that says an instruction
pub record IsLine (instr : Instr) (text : List ℕ) : Type 0 where
  pub stands : Stands text
  pub reads : instruction_of text ≡ Some (fixed (Some (word_of instr)))

with-operands : (instr : Instr) → instr_fits instr ≡ true → operands_text instr ≡ 32 ∷ bare_operands instr → Stands (bare_operands instr) →
    IsLine instr (instr_text instr)
unfolding instr_text
with-operands instr h e s =
    subst (λ (operands : List ℕ). IsLine instr (mnemonic instr ++ operands)) (sym e) (record {
      stands = spaced-stands (mnemonic instr) (bare_operands instr) (mnemonic-stands instr) s;
      reads =
          spaced-read (mnemonic instr) (bare_operands instr) (mnemonic-solid instr) s ∙ operation-read instr (bare_operands instr)
          ∙ ap (option_map read_of) (operands-read instr h) ∙ ap (λ w. Some (fixed w)) (coded-fits instr h);
    })

without-operands : (instr : Instr) → instr_fits instr ≡ true → operands_text instr ≡ [] → bare_operands instr ≡ [] →
    IsLine instr (instr_text instr)
unfolding instr_text
without-operands instr h e b =
    let text : mnemonic instr ++ operands_text instr ≡ mnemonic instr = ap (λ (operands : List ℕ). mnemonic instr ++ operands) e
    ∙ append-nil (mnemonic instr) in
    subst (IsLine instr) (sym text) (record {
      stands = mnemonic-stands instr;
      reads =
          alone-read (mnemonic instr) (mnemonic-solid instr) ∙ operation-read instr []
          ∙ ap (λ text. option_map read_of (named_as instr text)) (sym b) ∙ ap (option_map read_of) (operands-read instr h)
          ∙ ap (λ w. Some (fixed w)) (coded-fits instr h);
    })

numbered-stands : (a b : ℕ) (z : ℤ) → a < 32 → b < 32 → mag z < 2 ^ 31 →
    Stands (with_comma (register_text a) (with_comma (register_text b) (signed_decimal z)))
numbered-stands a b z la lb lz =
    listed-stands (register_text a) (with_comma (register_text b) (signed_decimal z)) (register-stands a la)
    (listed-stands (register_text b) (signed_decimal z) (register-stands b lb) (signed-stands z lz))

placed-stands : (a : ℕ) (z : ℤ) (base : ℕ) → a < 32 → mag z < 2 ^ 31 → base < 32 → Stands (with_comma (register_text a) (place_text z base))
placed-stands a z base la lz lb = listed-stands (register_text a) (place_text z base) (register-stands a la) (place-stands z base lz lb)

atomic-stands : (a b base : ℕ) → a < 32 → b < 32 → base < 32 →
    Stands (with_comma (register_text a) (with_comma (register_text b) (address_text base)))
atomic-stands a b base la lb lc =
    listed-stands (register_text a) (with_comma (register_text b) (address_text base)) (register-stands a la)
    (listed-stands (register_text b) (address_text base) (register-stands b lb) (address-stands base lc))

upper-stands : (rd imm : ℕ) → is_register rd ≡ true → is_upper imm ≡ true → Stands (with_comma (register_text rd) (decimal (imm / 4096)))
upper-stands rd imm r u =
    listed-stands (register_text rd) (decimal (imm / 4096)) (register-stands rd (is_register-lt rd r))
    (decimal-stands (imm / 4096) (omega (arith, (upper-small imm u).0)))

pub line-read : (instr : Instr) → instr_fits instr ≡ true → IsLine instr (instr_text instr)
line-read (Lui rd imm) h = let f = two _ _ h in with-operands (Lui rd imm) h refl (upper-stands rd imm f.one f.two)
line-read (Auipc rd imm) h = let f = two _ _ h in with-operands (Auipc rd imm) h refl (upper-stands rd imm f.one f.two)
line-read (Jal rd offset) h =
    let f = two _ _ h in
    with-operands (Jal rd offset) h refl
    (listed-stands (register_text rd) (signed_decimal offset) (register-stands rd (is_register-lt rd f.one))
    (signed-stands offset (target-small 1048576 offset (omega arith) f.two)))
line-read (Jalr rd rs1 imm) h =
    let f = three _ _ _ h in
    with-operands (Jalr rd rs1 imm) h refl
    (placed-stands rd imm rs1 (is_register-lt rd f.one) (signed-small imm f.three) (is_register-lt rs1 f.two))
line-read (Branch o rs1 rs2 offset) h =
    let f = three _ _ _ h in
    with-operands (Branch o rs1 rs2 offset) h refl
    (numbered-stands rs1 rs2 offset (is_register-lt rs1 f.one) (is_register-lt rs2 f.two) (target-small 4096 offset (omega arith) f.three))
line-read (Load o rd rs1 imm) h =
    let f = three _ _ _ h in
    with-operands (Load o rd rs1 imm) h refl
    (placed-stands rd imm rs1 (is_register-lt rd f.one) (signed-small imm f.three) (is_register-lt rs1 f.two))
line-read (Store o rs1 rs2 imm) h =
    let f = three _ _ _ h in
    with-operands (Store o rs1 rs2 imm) h refl
    (placed-stands rs2 imm rs1 (is_register-lt rs2 f.two) (signed-small imm f.three) (is_register-lt rs1 f.one))
line-read (OpImm o rd rs1 imm) h =
    let f = three _ _ _ h in
    with-operands (OpImm o rd rs1 imm) h refl
    (numbered-stands rd rs1 imm (is_register-lt rd f.one) (is_register-lt rs1 f.two) (operand-small (is_shift o) imm f.three))
line-read (Op o rd rs1 rs2) h =
    let f = three _ _ _ h in
    with-operands (Op o rd rs1 rs2) h refl
    (listed-stands (register_text rd) (with_comma (register_text rs1) (register_text rs2)) (register-stands rd (is_register-lt rd f.one))
    (listed-stands (register_text rs1) (register_text rs2) (register-stands rs1 (is_register-lt rs1 f.two))
    (register-stands rs2 (is_register-lt rs2 f.three))))
line-read Fence h = without-operands Fence h refl refl
line-read Ecall h = without-operands Ecall h refl refl
line-read Ebreak h = without-operands Ebreak h refl refl
line-read (Lr rd rs1) h =
    let f = two _ _ h in
    with-operands (Lr rd rs1) h refl
    (listed-stands (register_text rd) (address_text rs1) (register-stands rd (is_register-lt rd f.one))
    (address-stands rs1 (is_register-lt rs1 f.two)))
line-read (Sc rd rs1 rs2) h =
    let f = three _ _ _ h in
    with-operands (Sc rd rs1 rs2) h refl
    (atomic-stands rd rs2 rs1 (is_register-lt rd f.one) (is_register-lt rs2 f.three) (is_register-lt rs1 f.two))
line-read (Amo o rd rs1 rs2) h =
    let f = three _ _ _ h in
    with-operands (Amo o rd rs1 rs2) h refl
    (atomic-stands rd rs2 rs1 (is_register-lt rd f.one) (is_register-lt rs2 f.three) (is_register-lt rs1 f.two))
