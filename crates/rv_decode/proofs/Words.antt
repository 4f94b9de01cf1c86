-- The word that is written of an instruction is one of its words; and what decoding gives, from both sides.
use Rattle.std.proofs.Common.{◌≡◌, ℕ, ◌^◌, ◌<◌, ℤ, pos, negsuc, Bool, true, false, Option, Some, None, Ok, arith, refl, ap, subst}
use Rattle.std.specs.Prelude.{if◌then◌else◌, IfSome, ok_or, ◌↔◌, ◌&&◌, IsErr, MatchResult, IfOk}
use Rattle.std.proofs.lemmas.Bool.Decides.{nat_tests}
use Rattle.rv_decode.specs.declared.operations.ImmOp.{ImmOp}
use Rattle.rv_decode.specs.declared.instr.Illegal.{Illegal}
use Rattle.rv_decode.specs.declared.instr.Instr.{Instr}
use Rattle.rv_decode.specs.declared.instr.Instr.TheVariants.{Lui, Auipc, Jal, Jalr, Branch, Load, Store, OpImm, Op, Fence, Ecall, Ebreak}
use Rattle.rv_decode.specs.declared.instr.Instr.TheVariants.{Lr, Sc, Amo}
use Rattle.rv_decode.specs.Parts.{twos}
use Rattle.rv_decode.specs.Codes.{jalr, load, op_imm, op, load_code, imm_code, is_shift, shift_top, reg_code, reg_top, amo_code}
use Rattle.rv_decode.specs.Table.{IsWordOf, layout, width, word_of_cells, word_of, instr_fits, is_signed, is_target, is_operand, is_register}
use Rattle.rv_decode.specs.Table.{is_upper, r_form, i_form, amo_form}
use Rattle.rv_decode.specs.Decoded.{instruction_at}
use Rattle.rv_decode.proofs.Cells.{HasRoom, part-lt, placed-lt, Reads-placed}
use Rattle.rv_decode.proofs.Found.{branch_code-lt, load_code-lt, store_code-lt, imm_code-lt, shift_top-lt, reg_code-lt, reg_top-lt}
use Rattle.rv_decode.proofs.Found.{amo_code-lt}
use Rattle.rv_decode.proofs.Complete.{decoded-complete}
use Rattle.rv_decode.proofs.Sound.{decoded-sound}

-- ---- each field has room for what is written into it

-- the registers of an instruction, from the test of two with something else
pair-lt : (a b : ℕ) (rest : Bool) → (is_register a && is_register b && rest) ≡ true → (a < 32) × (b < 32) × (rest ≡ true)
pair-lt a b rest h = (grind (arith, nat_tests), grind (arith, nat_tests), grind (arith, nat_tests))

one-lt : (a : ℕ) (rest : Bool) → (is_register a && rest) ≡ true → a < 32
one-lt a rest h = grind (arith, nat_tests)

two-lt : (a b : ℕ) → (is_register a && is_register b) ≡ true → (a < 32) × (b < 32)
two-lt a b h = (grind (arith, nat_tests), grind (arith, nat_tests))

three-lt : (a b c : ℕ) → (is_register a && is_register b && is_register c) ≡ true → (a < 32) × (b < 32) × (c < 32)
three-lt a b c h = (grind (arith, nat_tests), grind (arith, nat_tests), grind (arith, nat_tests))

r-room : (top rs2 rs1 code rd opcode : ℕ) → top < 128 → rs2 < 32 → rs1 < 32 → code < 8 → rd < 32 → opcode < 128 →
    HasRoom (r_form top rs2 rs1 code rd opcode)
r-room top rs2 rs1 code rd opcode a b c d e f = (a, (b, (c, (d, (e, (f, tt))))))

i-room : (imm : ℤ) (rs1 code rd opcode : ℕ) → rs1 < 32 → code < 8 → rd < 32 → opcode < 128 → HasRoom (i_form imm rs1 code rd opcode)
i-room imm rs1 code rd opcode c d e f = (part-lt 0 12 (twos imm), (c, (d, (e, (f, tt)))))

amo-room : (code rs2 rs1 rd : ℕ) → code < 32 → rs2 < 32 → rs1 < 32 → rd < 32 → HasRoom (amo_form code rs2 rs1 rd)
amo-room code rs2 rs1 rd a b c d = (a, (omega arith, (b, (c, (omega arith, (d, (omega arith, tt)))))))

amount-lt : (imm : ℤ) → is_operand true imm ≡ true → twos imm < 32
amount-lt (pos n) h = grind (arith, nat_tests)
amount-lt (negsuc n) h = grind (arith, nat_tests)

op_imm-room : (shift : Bool) (o : ImmOp) (rd rs1 : ℕ) (imm : ℤ) → rd < 32 → rs1 < 32 → is_operand shift imm ≡ true
    → HasRoom (if shift then r_form (shift_top o) (twos imm) rs1 (imm_code o) rd op_imm else i_form imm rs1 (imm_code o) rd op_imm)
op_imm-room true o rd rs1 imm d s h =
    r-room (shift_top o) (twos imm) rs1 (imm_code o) rd op_imm (shift_top-lt o) (amount-lt imm h) s (imm_code-lt o) d (omega arith)
op_imm-room false o rd rs1 imm d s h = i-room imm rs1 (imm_code o) rd op_imm s (imm_code-lt o) d (omega arith)

has-room : (instr : Instr) → instr_fits instr ≡ true → HasRoom (layout instr)
has-room (Lui rd imm) h = (part-lt 12 20 imm, (one-lt rd (is_upper imm) h, (omega arith, tt)))
has-room (Auipc rd imm) h = (part-lt 12 20 imm, (one-lt rd (is_upper imm) h, (omega arith, tt)))
has-room (Jal rd offset) h =
    let t : ℕ = twos offset in
    (part-lt 20 1 t, (part-lt 1 10 t, (part-lt 11 1 t, (part-lt 12 8 t, (one-lt rd (is_target 1048576 offset) h, (omega arith, tt))))))
has-room (Jalr rd rs1 imm) h =
    let r : _ = pair-lt rd rs1 (is_signed 2048 imm) h in i-room imm rs1 0 rd jalr r.1 (omega arith) r.0 (omega arith)
has-room (Branch o rs1 rs2 offset) h =
    let r : _ = pair-lt rs1 rs2 (is_target 4096 offset) h in
    let t : ℕ = twos offset in
    (part-lt 12 1 t, (part-lt 5 6 t, (r.1, (r.0, (branch_code-lt o, (part-lt 1 4 t, (part-lt 11 1 t, (omega arith, tt))))))))
has-room (Load o rd rs1 imm) h =
    let r : _ = pair-lt rd rs1 (is_signed 2048 imm) h in i-room imm rs1 (load_code o) rd load r.1 (load_code-lt o) r.0 (omega arith)
has-room (Store o rs1 rs2 imm) h =
    let r : _ = pair-lt rs1 rs2 (is_signed 2048 imm) h in
    (part-lt 5 7 (twos imm), (r.1, (r.0, (store_code-lt o, (part-lt 0 5 (twos imm), (omega arith, tt))))))
has-room (OpImm o rd rs1 imm) h =
    let r : _ = pair-lt rd rs1 (is_operand (is_shift o) imm) h in op_imm-room (is_shift o) o rd rs1 imm r.0 r.1 r.2
has-room (Op o rd rs1 rs2) h =
    let r : _ = three-lt rd rs1 rs2 h in
    r-room (reg_top o) rs2 rs1 (reg_code o) rd op (reg_top-lt o) r.2 r.1 (reg_code-lt o) r.0 (omega arith)
has-room Fence h = (omega arith, (omega arith, (omega arith, (omega arith, (omega arith, tt)))))
has-room Ecall h = (omega arith, (omega arith, (omega arith, (omega arith, (omega arith, tt)))))
has-room Ebreak h = (omega arith, (omega arith, (omega arith, (omega arith, (omega arith, tt)))))
has-room (Lr rd rs1) h = let r : _ = two-lt rd rs1 h in amo-room 0b00010 0 rs1 rd (omega arith) (omega arith) r.1 r.0
has-room (Sc rd rs1 rs2) h = let r : _ = three-lt rd rs1 rs2 h in amo-room 0b00011 rs2 rs1 rd (omega arith) r.2 r.1 r.0
has-room (Amo o rd rs1 rs2) h = let r : _ = three-lt rd rs1 rs2 h in amo-room (amo_code o) rs2 rs1 rd (amo_code-lt o) r.2 r.1 r.0

op_imm-width : (shift : Bool) (top amount imm rs1 code rd : ℕ) (z : ℤ) →
    width (if shift then r_form top amount rs1 code rd op_imm else i_form z rs1 code rd op_imm) ≡ 32
op_imm-width true top amount imm rs1 code rd z = refl
op_imm-width false top amount imm rs1 code rd z = refl

width-layout : (instr : Instr) → width (layout instr) ≡ 32
width-layout (Lui rd imm) = refl
width-layout (Auipc rd imm) = refl
width-layout (Jal rd offset) = refl
width-layout (Jalr rd rs1 imm) = refl
width-layout (Branch o rs1 rs2 offset) = refl
width-layout (Load o rd rs1 imm) = refl
width-layout (Store o rs1 rs2 imm) = refl
width-layout (OpImm o rd rs1 imm) = op_imm-width (is_shift o) (shift_top o) (twos imm) 0 rs1 (imm_code o) rd imm
width-layout (Op o rd rs1 rs2) = refl
width-layout Fence = refl
width-layout Ecall = refl
width-layout Ebreak = refl
width-layout (Lr rd rs1) = refl
width-layout (Sc rd rs1 rs2) = refl
width-layout (Amo o rd rs1 rs2) = refl

-- ---- the laws

pub word_of-lt : (instr : Instr) → instr_fits instr ≡ true → word_of instr < 2 ^ 32
unfolding word_of
word_of-lt instr h = subst (λ n. word_of_cells (layout instr) < 2 ^ n) (width-layout instr) (placed-lt (layout instr) (has-room instr h))

-- the word that is written is one of the instruction's
pub word_of-right : (instr : Instr) → instr_fits instr ≡ true → IsWordOf instr (word_of instr)
unfolding word_of
word_of-right instr h = record { fits = h; reads = Reads-placed (layout instr) (has-room instr h) }

-- and is decoded as it
pub decoded-word_of : (instr : Instr) → instr_fits instr ≡ true → instruction_at (word_of instr) ≡ Some instr
decoded-word_of instr h = decoded-complete instr (word_of instr) (word_of-lt instr h) (word_of-right instr h)

right-of : (word : ℕ) (found : Option Instr) (illegal : Illegal) (instr : Instr) → IfSome found (λ i. IsWordOf i word) →
    ok_or found illegal ≡ Ok instr → IsWordOf instr word
right-of word None illegal instr h e = cc
right-of word (Some i) illegal instr h e = let f : i ≡ instr = cc in subst (λ j. IsWordOf j word) f h

-- decoding gives an instruction exactly where the word is one of its words
pub decode-exact : (word : ℕ) → word < 2 ^ 32 → (illegal : Illegal) (instr : Instr) →
    (ok_or (instruction_at word) illegal ≡ Ok instr) ↔ IsWordOf instr word
decode-exact word l illegal instr = (
  right-of word (instruction_at word) illegal instr (decoded-sound word),
  λ h. ap (λ found. ok_or found illegal) (decoded-complete instr word l h),
)

none-of : (word : ℕ) (found : Option Instr) (illegal : Illegal) → IfSome found (λ i. IsWordOf i word) →
    ((instr : Instr) → IsWordOf instr word → ⊥) → IsErr (ok_or found illegal)
none-of word None illegal h f = refl
none-of word (Some i) illegal h f = absurd (f i h)

-- and none exactly where the word is no instruction's
pub decode-illegal : (word : ℕ) → word < 2 ^ 32 → (illegal : Illegal) →
    IsErr (ok_or (instruction_at word) illegal) ↔ ((instr : Instr) → IsWordOf instr word → ⊥)
decode-illegal word l illegal = (
  λ e instr h. let p : IsErr (ok_or (Some instr) illegal) =
      subst (λ found. IsErr (ok_or found illegal)) (decoded-complete instr word l h) e in cc,
  none-of word (instruction_at word) illegal (decoded-sound word),
)

-- no word is two instructions'
pub one-instruction : (word : ℕ) → word < 2 ^ 32 → (i j : Instr) → IsWordOf i word → IsWordOf j word → i ≡ j
one-instruction word l i j h k =
    let e : instruction_at word ≡ Some i = decoded-complete i word l h in let f : instruction_at word ≡ Some j = decoded-complete j word l k in cc

-- an answer tells what was decoded, and that it fits
decode-tells-of : (found : Option Instr) (illegal : Illegal) →
    MatchResult (ok_or found illegal) (λ instr. found ≡ Some instr) (λ _. found ≡ None)
decode-tells-of None illegal = refl
decode-tells-of (Some instr) illegal = refl

pub decode-tells : (word : ℕ) (illegal : Illegal) →
    MatchResult (ok_or (instruction_at word) illegal) (λ instr. instruction_at word ≡ Some instr) (λ _. instruction_at word ≡ None)
decode-tells word illegal = decode-tells-of (instruction_at word) illegal

decode-fits-of : (word : ℕ) (found : Option Instr) (illegal : Illegal) → IfSome found (λ instr. IsWordOf instr word) →
    IfOk (ok_or found illegal) (λ instr. instr_fits instr ≡ true)
decode-fits-of word None illegal h = tt
decode-fits-of word (Some instr) illegal h = h.fits

pub decode-fits : (word : ℕ) (illegal : Illegal) → IfOk (ok_or (instruction_at word) illegal) (λ instr. instr_fits instr ≡ true)
decode-fits word illegal = decode-fits-of word (instruction_at word) illegal (decoded-sound word)
