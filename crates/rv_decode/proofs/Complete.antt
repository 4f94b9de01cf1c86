-- The word of an instruction is decoded as that instruction.
use Rattle.std.proofs.Common.{◌≡◌, ℕ, ◌+◌, ◌*◌, ◌%◌, ◌^◌, ◌<◌, ℤ, pos, negsuc, Bool, true, false, Some, arith, refl, sym, ap, ◌∙◌}
use Rattle.std.specs.Prelude.{option_map, nat_eq, if◌then◌else◌, ◌&&◌}
use Rattle.std.proofs.lemmas.Bool.Decides.{nat_tests}
use Rattle.sn_base.specs.declared.block.Width.{Width}
use Rattle.rv_decode.specs.declared.operations.BranchOp.{BranchOp}
use Rattle.rv_decode.specs.declared.operations.LoadOp.{LoadOp}
use Rattle.rv_decode.specs.declared.operations.ImmOp.{ImmOp}
use Rattle.rv_decode.specs.declared.operations.RegOp.{RegOp}
use Rattle.rv_decode.specs.declared.operations.AmoOp.{AmoOp}
use Rattle.rv_decode.specs.declared.instr.Instr.{Instr}
use Rattle.rv_decode.specs.declared.instr.Instr.TheVariants.{Lui, Auipc, Jal, Jalr, Branch, Load, Store, OpImm, Op, Fence, Ecall, Ebreak}
use Rattle.rv_decode.specs.declared.instr.Instr.TheVariants.{Lr, Sc, Amo}
use Rattle.rv_decode.specs.Parts.{part, opcode, rd_of, funct3, rs1_of, rs2_of, funct7, funct5, twos, i_imm, s_imm, b_imm, u_imm, j_imm}
use Rattle.rv_decode.specs.Codes.{lui, auipc, jal, jalr, branch, load, store, op_imm, op, misc_mem, system, amo, load_code, imm_code}
use Rattle.rv_decode.specs.Codes.{is_shift, shift_top, reg_code, reg_top, amo_code, branch_op, load_op, store_op, imm_op, reg_op, amo_op}
use Rattle.rv_decode.specs.Table.{IsWordOf, Reads, layout, is_signed, is_target, is_operand, is_register, is_upper, r_form, i_form}
use Rattle.rv_decode.specs.Decoded.{instruction_at, jalr_of, branch_of, load_of, store_of, op_imm_of, op_of, fence_of, system_of, atomic_of, sc_of}
use Rattle.rv_decode.specs.Decoded.{amo_of}
use Rattle.rv_decode.proofs.Numbers.{i-is, s-is, b-is, j-is, u-is}
use Rattle.rv_decode.proofs.Found.{branch-found, load-found, store-found, shift-found, imm-found, reg-found, amo-found, amo-codes}

-- ---- by its opcode

at_lui : (word : ℕ) → opcode word ≡ lui → instruction_at word ≡ Some (Lui (rd_of word) (u_imm word))
unfolding instruction_at
at_lui word e = rw e refl

at_auipc : (word : ℕ) → opcode word ≡ auipc → instruction_at word ≡ Some (Auipc (rd_of word) (u_imm word))
unfolding instruction_at
at_auipc word e = rw e refl

at_jal : (word : ℕ) → opcode word ≡ jal → instruction_at word ≡ Some (Jal (rd_of word) (j_imm word))
unfolding instruction_at
at_jal word e = rw e refl

at_jalr : (word : ℕ) → opcode word ≡ jalr → instruction_at word ≡ jalr_of word
unfolding instruction_at
at_jalr word e = rw e refl

at_branch : (word : ℕ) → opcode word ≡ branch → instruction_at word ≡ branch_of word
unfolding instruction_at
at_branch word e = rw e refl

at_load : (word : ℕ) → opcode word ≡ load → instruction_at word ≡ load_of word
unfolding instruction_at
at_load word e = rw e refl

at_store : (word : ℕ) → opcode word ≡ store → instruction_at word ≡ store_of word
unfolding instruction_at
at_store word e = rw e refl

at_op_imm : (word : ℕ) → opcode word ≡ op_imm → instruction_at word ≡ op_imm_of word
unfolding instruction_at
at_op_imm word e = rw e refl

at_op : (word : ℕ) → opcode word ≡ op → instruction_at word ≡ op_of word
unfolding instruction_at
at_op word e = rw e refl

at_misc_mem : (word : ℕ) → opcode word ≡ misc_mem → instruction_at word ≡ fence_of word
unfolding instruction_at
at_misc_mem word e = rw e refl

at_system : (word : ℕ) → opcode word ≡ system → instruction_at word ≡ system_of word
unfolding instruction_at
at_system word e = rw e refl

at_amo : (word : ℕ) → opcode word ≡ amo → instruction_at word ≡ atomic_of word
unfolding instruction_at
at_amo word e = rw e refl

-- ---- by its operation

upper-is : (word rd imm : ℕ) → (is_register rd && is_upper imm) ≡ true → part 12 20 word ≡ part 12 20 imm → u_imm word ≡ imm
upper-is word rd imm f e =
    let small : imm < 2 ^ 32 = grind (arith, nat_tests) in let whole : imm % 4096 ≡ 0 = grind (arith, nat_tests) in
    u-is word imm small whole e

-- the instruction of each opcode
lui-complete : (word rd imm : ℕ) → IsWordOf (Lui rd imm) word → instruction_at word ≡ Some (Lui rd imm)
lui-complete word rd imm h =
    let i : u_imm word ≡ imm = upper-is word rd imm h.fits h.reads.0 in
    let d : rd_of word ≡ rd = h.reads.1.0 in
    at_lui word h.reads.1.1.0 ∙ (cc)

auipc-complete : (word rd imm : ℕ) → IsWordOf (Auipc rd imm) word → instruction_at word ≡ Some (Auipc rd imm)
auipc-complete word rd imm h =
    let i : u_imm word ≡ imm = upper-is word rd imm h.fits h.reads.0 in
    let d : rd_of word ≡ rd = h.reads.1.0 in
    at_auipc word h.reads.1.1.0 ∙ (cc)

jal-complete : (word rd : ℕ) (offset : ℤ) → IsWordOf (Jal rd offset) word → instruction_at word ≡ Some (Jal rd offset)
jal-complete word rd offset h =
    let t : is_target 1048576 offset ≡ true = grind (arith, nat_tests, h.fits) in
    let r : Reads (layout (Jal rd offset)) word = h.reads in
    let i : j_imm word ≡ offset = j-is word offset t
    (record { top = sym r.0; lower = sym r.1.0; next = sym r.1.1.0; upper = sym r.1.1.1.0 }) in
    let d : rd_of word ≡ rd = r.1.1.1.1.0 in
    at_jal word r.1.1.1.1.1.0 ∙ (cc)

-- the parts of the I form
pub record IParts (rd rs1 : ℕ) (imm : ℤ) (code top word : ℕ) : Type 0 where
  pub imm_is : i_imm word ≡ imm
  pub rs1_is : rs1_of word ≡ rs1
  pub code_is : funct3 word ≡ code
  pub rd_is : rd_of word ≡ rd
  pub top_is : opcode word ≡ top

i-parts : (rd rs1 : ℕ) (imm : ℤ) (code top word : ℕ) → is_signed 2048 imm ≡ true → Reads (i_form imm rs1 code rd top) word →
    IParts rd rs1 imm code top word
i-parts rd rs1 imm code top word s r =
    record { imm_is = i-is word imm s r.0; rs1_is = r.1.0; code_is = r.1.1.0; rd_is = r.1.1.1.0; top_is = r.1.1.1.1.0 }

i-signed : (rd rs1 : ℕ) (imm : ℤ) → (is_register rd && is_register rs1 && is_signed 2048 imm) ≡ true → is_signed 2048 imm ≡ true
i-signed rd rs1 imm f = grind (arith, nat_tests)

jalr-at : (word : ℕ) → funct3 word ≡ 0b000 → jalr_of word ≡ Some (Jalr (rd_of word) (rs1_of word) (i_imm word))
jalr-at word e = rw e refl

jalr-complete : (word rd rs1 : ℕ) (imm : ℤ) → IsWordOf (Jalr rd rs1 imm) word → instruction_at word ≡ Some (Jalr rd rs1 imm)
jalr-complete word rd rs1 imm h =
    let p : IParts rd rs1 imm 0b000 jalr word = i-parts rd rs1 imm 0b000 jalr word (i-signed rd rs1 imm h.fits) h.reads in
    at_jalr word p.top_is ∙ jalr-at word p.code_is ∙ (cc)

branch-complete : (word : ℕ) (o : BranchOp) (rs1 rs2 : ℕ) (offset : ℤ) → IsWordOf (Branch o rs1 rs2 offset) word →
    instruction_at word ≡ Some (Branch o rs1 rs2 offset)
branch-complete word o rs1 rs2 offset h =
    let t : is_target 4096 offset ≡ true = grind (arith, nat_tests, h.fits) in
    let r : Reads (layout (Branch o rs1 rs2 offset)) word = h.reads in
    let i : b_imm word ≡ offset = b-is word offset t
    (record { top = sym r.0; upper = sym r.1.0; lower = sym r.1.1.1.1.1.0; next = sym r.1.1.1.1.1.1.0 }) in
    let s2 : rs2_of word ≡ rs2 = r.1.1.0 in
    let s1 : rs1_of word ≡ rs1 = r.1.1.1.0 in
    let f : branch_op (funct3 word) ≡ Some o = ap branch_op r.1.1.1.1.0 ∙ branch-found o in
    at_branch word r.1.1.1.1.1.1.1.0 ∙ ap (option_map (λ o. Branch o (rs1_of word) (rs2_of word) (b_imm word))) f ∙ (cc)

load-complete : (word : ℕ) (o : LoadOp) (rd rs1 : ℕ) (imm : ℤ) → IsWordOf (Load o rd rs1 imm) word → instruction_at word ≡ Some (Load o rd rs1 imm)
load-complete word o rd rs1 imm h =
    let p : IParts rd rs1 imm (load_code o) load word = i-parts rd rs1 imm (load_code o) load word (i-signed rd rs1 imm h.fits) h.reads in
    let f : load_op (funct3 word) ≡ Some o = ap load_op p.code_is ∙ load-found o in
    at_load word p.top_is ∙ ap (option_map (λ o. Load o (rd_of word) (rs1_of word) (i_imm word))) f ∙ (cc)

store-complete : (word : ℕ) (o : Width) (rs1 rs2 : ℕ) (imm : ℤ) → IsWordOf (Store o rs1 rs2 imm) word →
    instruction_at word ≡ Some (Store o rs1 rs2 imm)
store-complete word o rs1 rs2 imm h =
    let r : Reads (layout (Store o rs1 rs2 imm)) word = h.reads in
    let i : s_imm word ≡ imm = s-is word imm (i-signed rs1 rs2 imm h.fits) r.0 r.1.1.1.1.0 in
    let s2 : rs2_of word ≡ rs2 = r.1.0 in
    let s1 : rs1_of word ≡ rs1 = r.1.1.0 in
    let f : store_op (funct3 word) ≡ Some o = ap store_op r.1.1.1.0 ∙ store-found o in
    at_store word r.1.1.1.1.1.0 ∙ ap (option_map (λ o. Store o (rs1_of word) (rs2_of word) (s_imm word))) f ∙ (cc)

-- the parts of the R form
pub record RParts (top2 rs2 rs1 code rd top word : ℕ) : Type 0 where
  pub top2_is : funct7 word ≡ top2
  pub rs2_is : rs2_of word ≡ rs2
  pub rs1_is : rs1_of word ≡ rs1
  pub code_is : funct3 word ≡ code
  pub rd_is : rd_of word ≡ rd
  pub top_is : opcode word ≡ top

r-parts : (top2 rs2 rs1 code rd top word : ℕ) → Reads (r_form top2 rs2 rs1 code rd top) word → RParts top2 rs2 rs1 code rd top word
r-parts top2 rs2 rs1 code rd top word r =
    record { top2_is = r.0; rs2_is = r.1.0; rs1_is = r.1.1.0; code_is = r.1.1.1.0; rd_is = r.1.1.1.1.0; top_is = r.1.1.1.1.1.0 }

-- a shift's amount is its own two's complement
amount-is : (imm : ℤ) (n : ℕ) → is_operand true imm ≡ true → n ≡ twos imm → pos n ≡ imm
amount-is (pos m) n h e = ap pos e
amount-is (negsuc m) n h e = grind (arith, nat_tests)

op_imm-of : (shift : Bool) (o : ImmOp) (rd rs1 : ℕ) (imm : ℤ) (word : ℕ) → is_shift o ≡ shift → is_operand shift imm ≡ true
    → Reads (if shift then r_form (shift_top o) (twos imm) rs1 (imm_code o) rd op_imm else i_form imm rs1 (imm_code o) rd op_imm) word
    → instruction_at word ≡ Some (OpImm o rd rs1 imm)
op_imm-of true o rd rs1 imm word e s h =
    let p : RParts (shift_top o) (twos imm) rs1 (imm_code o) rd op_imm word = r-parts (shift_top o) (twos imm) rs1
    (imm_code o) rd op_imm word h in
    let i : pos (rs2_of word) ≡ imm = amount-is imm (rs2_of word) s p.rs2_is in
    let v : (if is_shift o then pos (rs2_of word) else i_imm word) ≡ pos (rs2_of word) = rw e refl in
    let f : imm_op (funct3 word) (funct7 word) ≡ Some o = ap (λ c. imm_op c (funct7 word)) p.code_is ∙ ap (imm_op (imm_code o)) p.top2_is
    ∙ shift-found o e in
    at_op_imm word p.top_is
    ∙ ap (option_map (λ o. OpImm o (rd_of word) (rs1_of word) (if is_shift o then pos (rs2_of word) else i_imm word))) f ∙ (cc)
op_imm-of false o rd rs1 imm word e s h =
    let p : IParts rd rs1 imm (imm_code o) op_imm word = i-parts rd rs1 imm (imm_code o) op_imm word s h in
    let v : (if is_shift o then pos (rs2_of word) else i_imm word) ≡ i_imm word = rw e refl in
    let f : imm_op (funct3 word) (funct7 word) ≡ Some o = ap (λ c. imm_op c (funct7 word)) p.code_is ∙ imm-found o (funct7 word) e in
    at_op_imm word p.top_is
    ∙ ap (option_map (λ o. OpImm o (rd_of word) (rs1_of word) (if is_shift o then pos (rs2_of word) else i_imm word))) f ∙ (cc)

op_imm-operand : (o : ImmOp) (rd rs1 : ℕ) (imm : ℤ) → (is_register rd && is_register rs1 && is_operand (is_shift o) imm) ≡ true →
    is_operand (is_shift o) imm ≡ true
op_imm-operand o rd rs1 imm f = grind (arith, nat_tests)

op_imm-complete : (word : ℕ) (o : ImmOp) (rd rs1 : ℕ) (imm : ℤ) → IsWordOf (OpImm o rd rs1 imm) word →
    instruction_at word ≡ Some (OpImm o rd rs1 imm)
op_imm-complete word o rd rs1 imm h = op_imm-of (is_shift o) o rd rs1 imm word refl (op_imm-operand o rd rs1 imm h.fits) h.reads

op-complete : (word : ℕ) (o : RegOp) (rd rs1 rs2 : ℕ) → IsWordOf (Op o rd rs1 rs2) word → instruction_at word ≡ Some (Op o rd rs1 rs2)
op-complete word o rd rs1 rs2 h =
    let p : RParts (reg_top o) rs2 rs1 (reg_code o) rd op word = r-parts (reg_top o) rs2 rs1 (reg_code o) rd op word h.reads in
    let f : reg_op (funct3 word) (funct7 word) ≡ Some o = ap (λ c. reg_op c (funct7 word)) p.code_is ∙ ap (reg_op (reg_code o)) p.top2_is
    ∙ reg-found o in
    at_op word p.top_is ∙ ap (option_map (λ o. Op o (rd_of word) (rs1_of word) (rs2_of word))) f ∙ (cc)

fence-complete : (word : ℕ) → IsWordOf Fence word → instruction_at word ≡ Some Fence
fence-complete word h = let f : fence_of word ≡ Some Fence = rw h.reads.0 refl in at_misc_mem word h.reads.1.0 ∙ f

-- the parts of a word make it
whole : (word : ℕ) → word < 2 ^ 32 →
    word ≡ part 20 12 word * 1048576 + part 15 5 word * 32768 + part 12 3 word * 4096 + part 7 5 word * 128 + part 0 7 word
whole word h = omega arith

ecall-complete : (word : ℕ) → word < 2 ^ 32 → IsWordOf Ecall word → instruction_at word ≡ Some Ecall
ecall-complete word l h =
    let r : Reads (layout Ecall) word = h.reads in
    let e : word ≡ 0x00000073 = omega (arith, whole word l, r.0, r.1.0, r.1.1.0, r.1.1.1.0, r.1.1.1.1.0) in
    let f : system_of word ≡ Some Ecall = rw e refl in
    at_system word r.1.1.1.1.0 ∙ f

ebreak-complete : (word : ℕ) → word < 2 ^ 32 → IsWordOf Ebreak word → instruction_at word ≡ Some Ebreak
ebreak-complete word l h =
    let r : Reads (layout Ebreak) word = h.reads in
    let e : word ≡ 0x00100073 = omega (arith, whole word l, r.0, r.1.0, r.1.1.0, r.1.1.1.0, r.1.1.1.1.0) in
    let f : system_of word ≡ Some Ebreak = rw e refl in
    at_system word r.1.1.1.1.0 ∙ f

lr-at : (word : ℕ) → funct3 word ≡ 0b010 → funct5 word ≡ 0b00010 → rs2_of word ≡ 0 → atomic_of word ≡ Some (Lr (rd_of word) (rs1_of word))
lr-at word e f g = rw (e, f, g) refl

lr-complete : (word rd rs1 : ℕ) → IsWordOf (Lr rd rs1) word → instruction_at word ≡ Some (Lr rd rs1)
lr-complete word rd rs1 h =
    let r : Reads (layout (Lr rd rs1)) word = h.reads in
    let s1 : rs1_of word ≡ rs1 = r.1.1.0 in
    let d : rd_of word ≡ rd = r.1.1.1.1.0 in
    at_amo word r.1.1.1.1.1.0 ∙ lr-at word r.1.1.1.0 r.0 r.1.0 ∙ (cc)

sc-at : (word : ℕ) → funct3 word ≡ 0b010 → funct5 word ≡ 0b00011 → atomic_of word ≡ Some (sc_of word)
sc-at word e f = rw (e, f) refl

sc-complete : (word rd rs1 rs2 : ℕ) → IsWordOf (Sc rd rs1 rs2) word → instruction_at word ≡ Some (Sc rd rs1 rs2)
sc-complete word rd rs1 rs2 h =
    let r : Reads (layout (Sc rd rs1 rs2)) word = h.reads in
    let s2 : rs2_of word ≡ rs2 = r.1.0 in
    let s1 : rs1_of word ≡ rs1 = r.1.1.0 in
    let d : rd_of word ≡ rd = r.1.1.1.1.0 in
    at_amo word r.1.1.1.1.1.0 ∙ sc-at word r.1.1.1.0 r.0 ∙ (cc)

amo-at : (word code : ℕ) → funct3 word ≡ 0b010 → funct5 word ≡ code → nat_eq code 0b00010 ≡ false → nat_eq code 0b00011 ≡ false →
    atomic_of word ≡ amo_of word
amo-at word code e c f g =
    let f2 : nat_eq (funct5 word) 0b00010 ≡ false = ap (λ n. nat_eq n 0b00010) c ∙ f in
    let g2 : nat_eq (funct5 word) 0b00011 ≡ false = ap (λ n. nat_eq n 0b00011) c ∙ g in rw (e, f2, g2) refl

amo-complete : (word : ℕ) (o : AmoOp) (rd rs1 rs2 : ℕ) → IsWordOf (Amo o rd rs1 rs2) word → instruction_at word ≡ Some (Amo o rd rs1 rs2)
amo-complete word o rd rs1 rs2 h =
    let r : Reads (layout (Amo o rd rs1 rs2)) word = h.reads in
    let s2 : rs2_of word ≡ rs2 = r.1.0 in
    let s1 : rs1_of word ≡ rs1 = r.1.1.0 in
    let d : rd_of word ≡ rd = r.1.1.1.1.0 in
    let f : amo_op (funct5 word) ≡ Some o = ap amo_op r.0 ∙ amo-found o in
    at_amo word r.1.1.1.1.1.0 ∙ amo-at word (amo_code o) r.1.1.1.0 r.0 (amo-codes o).0 (amo-codes o).1
    ∙ ap (option_map (λ o. Amo o (rd_of word) (rs1_of word) (rs2_of word))) f ∙ (cc)

-- the word of an instruction is decoded as it
pub decoded-complete : (instr : Instr) (word : ℕ) → word < 2 ^ 32 → IsWordOf instr word → instruction_at word ≡ Some instr
decoded-complete (Lui rd imm) word l h = lui-complete word rd imm h
decoded-complete (Auipc rd imm) word l h = auipc-complete word rd imm h
decoded-complete (Jal rd offset) word l h = jal-complete word rd offset h
decoded-complete (Jalr rd rs1 imm) word l h = jalr-complete word rd rs1 imm h
decoded-complete (Branch o rs1 rs2 offset) word l h = branch-complete word o rs1 rs2 offset h
decoded-complete (Load o rd rs1 imm) word l h = load-complete word o rd rs1 imm h
decoded-complete (Store o rs1 rs2 imm) word l h = store-complete word o rs1 rs2 imm h
decoded-complete (OpImm o rd rs1 imm) word l h = op_imm-complete word o rd rs1 imm h
decoded-complete (Op o rd rs1 rs2) word l h = op-complete word o rd rs1 rs2 h
decoded-complete Fence word l h = fence-complete word h
decoded-complete Ecall word l h = ecall-complete word l h
decoded-complete Ebreak word l h = ebreak-complete word l h
decoded-complete (Lr rd rs1) word l h = lr-complete word rd rs1 h
decoded-complete (Sc rd rs1 rs2) word l h = sc-complete word rd rs1 rs2 h
decoded-complete (Amo o rd rs1 rs2) word l h = amo-complete word o rd rs1 rs2 h
