-- The instruction of a word.
use Rattle.std.specs.Prelude.{ℕ, nat_eq, if◌then◌else◌, ℤ, pos, Option, Some, None, option_map}
use Rattle.rv_decode.specs.declared.operations.ImmOp.{ImmOp}
use Rattle.rv_decode.specs.declared.instr.Instr.{Instr}
use Rattle.rv_decode.specs.declared.instr.Instr.TheVariants.{Lui, Auipc, Jal, Jalr, Branch, Load, Store, OpImm, Op, Fence, Ecall, Ebreak}
use Rattle.rv_decode.specs.declared.instr.Instr.TheVariants.{Lr, Sc, Amo}
use Rattle.rv_decode.specs.Parts.{opcode, rd_of, funct3, rs1_of, rs2_of, funct7, funct5, i_imm, s_imm, b_imm, u_imm, j_imm}
use Rattle.rv_decode.specs.Codes.{lui, auipc, jal, jalr, branch, load, store, op_imm, op, misc_mem, system, amo, is_shift, branch_op}
use Rattle.rv_decode.specs.Codes.{load_op, store_op, imm_op, reg_op, amo_op}

abbrev pub jalr_of : ℕ → Option Instr
jalr_of word = if nat_eq (funct3 word) 0b000 then Some (Jalr (rd_of word) (rs1_of word) (i_imm word)) else None

abbrev pub branch_of : ℕ → Option Instr
branch_of word = option_map (λ o. Branch o (rs1_of word) (rs2_of word) (b_imm word)) (branch_op (funct3 word))

abbrev pub load_of : ℕ → Option Instr
load_of word = option_map (λ o. Load o (rd_of word) (rs1_of word) (i_imm word)) (load_op (funct3 word))

abbrev pub store_of : ℕ → Option Instr
store_of word = option_map (λ o. Store o (rs1_of word) (rs2_of word) (s_imm word)) (store_op (funct3 word))

-- the immediate of an operation: a shift's is the rs2 field
abbrev pub operand_of : ImmOp → ℕ → ℤ
operand_of o word = if is_shift o then pos (rs2_of word) else i_imm word

abbrev pub op_imm_of : ℕ → Option Instr
op_imm_of word = option_map (λ o. OpImm o (rd_of word) (rs1_of word) (operand_of o word)) (imm_op (funct3 word) (funct7 word))

abbrev pub op_of : ℕ → Option Instr
op_of word = option_map (λ o. Op o (rd_of word) (rs1_of word) (rs2_of word)) (reg_op (funct3 word) (funct7 word))

abbrev pub fence_of : ℕ → Option Instr
fence_of word = if nat_eq (funct3 word) 0b000 then Some Fence else None

-- ECALL and EBREAK are one word each
abbrev pub system_of : ℕ → Option Instr
system_of word = if nat_eq word 0x00000073 then Some Ecall else if nat_eq word 0x00100073 then Some Ebreak else None

abbrev pub lr_of : ℕ → Option Instr
lr_of word = if nat_eq (rs2_of word) 0 then Some (Lr (rd_of word) (rs1_of word)) else None

abbrev pub sc_of : ℕ → Instr
sc_of word = Sc (rd_of word) (rs1_of word) (rs2_of word)

abbrev pub amo_of : ℕ → Option Instr
amo_of word = option_map (λ o. Amo o (rd_of word) (rs1_of word) (rs2_of word)) (amo_op (funct5 word))

abbrev pub atomic_of : ℕ → Option Instr
atomic_of word =
    if nat_eq (funct3 word) 0b010 then
    if nat_eq (funct5 word) 0b00010 then lr_of word
    else if nat_eq (funct5 word) 0b00011 then Some (sc_of word)
    else amo_of word
    else None

-- the instruction that has the word, where there is one
unfoldable pub instruction_at : ℕ → Option Instr
instruction_at word =
    if nat_eq (opcode word) lui then Some (Lui (rd_of word) (u_imm word))
    else if nat_eq (opcode word) auipc then Some (Auipc (rd_of word) (u_imm word))
    else if nat_eq (opcode word) jal then Some (Jal (rd_of word) (j_imm word))
    else if nat_eq (opcode word) jalr then jalr_of word
    else if nat_eq (opcode word) branch then branch_of word
    else if nat_eq (opcode word) load then load_of word
    else if nat_eq (opcode word) store then store_of word
    else if nat_eq (opcode word) op_imm then op_imm_of word
    else if nat_eq (opcode word) op then op_of word
    else if nat_eq (opcode word) misc_mem then fence_of word
    else if nat_eq (opcode word) system then system_of word
    else if nat_eq (opcode word) amo then atomic_of word
    else None
