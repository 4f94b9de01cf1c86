-- The table of instructions: the words of each (RISC-V Unprivileged ISA, "RV32/64G Instruction Set Listings").
use Rattle.std.specs.Prelude.{◌≡◌, ℕ, ◌+◌, ◌*◌, ◌%◌, ◌^◌, Bool, true, ◌&&◌, nat_eq, nat_lt, if◌then◌else◌, List, [], ◌∷◌, ℤ, pos, neg_ℤ}
use Rattle.std.specs.Prelude.{int_le, int_lt, unsigned_abs, ⊤}
use Rattle.rv_decode.specs.declared.instr.Instr.{Instr}
use Rattle.rv_decode.specs.declared.instr.Instr.TheVariants.{Lui, Auipc, Jal, Jalr, Branch, Load, Store, OpImm, Op, Fence, Ecall, Ebreak}
use Rattle.rv_decode.specs.declared.instr.Instr.TheVariants.{Lr, Sc, Amo}
use Rattle.rv_decode.specs.Parts.{part, twos}
use Rattle.rv_decode.specs.Codes.{lui, auipc, jal, jalr, branch, load, store, op_imm, op, misc_mem, system, amo, branch_code, load_code}
use Rattle.rv_decode.specs.Codes.{store_code, imm_code, is_shift, shift_top, reg_code, reg_top, amo_code}

-- some neighbouring bits of a word: how many they are, and their value; free bits may have any, and are written so
pub data Cell : Type 0 where
  bits : ℕ → ℕ → Cell
  free : ℕ → ℕ → Cell

-- the forms, from the top of the word
abbrev pub r_form : ℕ → ℕ → ℕ → ℕ → ℕ → ℕ → List Cell
r_form funct7 rs2 rs1 funct3 rd opcode = bits 7 funct7 ∷ bits 5 rs2 ∷ bits 5 rs1 ∷ bits 3 funct3 ∷ bits 5 rd ∷ bits 7 opcode ∷ []

abbrev pub i_form : ℤ → ℕ → ℕ → ℕ → ℕ → List Cell
i_form imm rs1 funct3 rd opcode = bits 12 (part 0 12 (twos imm)) ∷ bits 5 rs1 ∷ bits 3 funct3 ∷ bits 5 rd ∷ bits 7 opcode ∷ []

abbrev pub s_form : ℤ → ℕ → ℕ → ℕ → ℕ → List Cell
s_form imm rs2 rs1 funct3 opcode =
    bits 7 (part 5 7 (twos imm)) ∷ bits 5 rs2 ∷ bits 5 rs1 ∷ bits 3 funct3 ∷ bits 5 (part 0 5 (twos imm)) ∷ bits 7 opcode ∷ []

abbrev pub b_form : ℤ → ℕ → ℕ → ℕ → ℕ → List Cell
b_form offset rs2 rs1 funct3 opcode =
    bits 1 (part 12 1 (twos offset)) ∷ bits 6 (part 5 6 (twos offset)) ∷ bits 5 rs2 ∷ bits 5 rs1 ∷ bits 3 funct3
    ∷ bits 4 (part 1 4 (twos offset)) ∷ bits 1 (part 11 1 (twos offset)) ∷ bits 7 opcode ∷ []

abbrev pub u_form : ℕ → ℕ → ℕ → List Cell
u_form imm rd opcode = bits 20 (part 12 20 imm) ∷ bits 5 rd ∷ bits 7 opcode ∷ []

abbrev pub j_form : ℤ → ℕ → ℕ → List Cell
j_form offset rd opcode =
    bits 1 (part 20 1 (twos offset)) ∷ bits 10 (part 1 10 (twos offset)) ∷ bits 1 (part 11 1 (twos offset))
    ∷ bits 8 (part 12 8 (twos offset))
    ∷ bits 5 rd ∷ bits 7 opcode ∷ []

-- the R form with the acquire and release bits in the place of funct7's lower two, and the width of a word
abbrev pub amo_form : ℕ → ℕ → ℕ → ℕ → List Cell
amo_form funct5 rs2 rs1 rd = bits 5 funct5 ∷ free 2 0 ∷ bits 5 rs2 ∷ bits 5 rs1 ∷ bits 3 0b010 ∷ bits 5 rd ∷ bits 7 amo ∷ []

-- the table
abbrev pub layout : Instr → List Cell
layout (Lui rd imm) = u_form imm rd lui
layout (Auipc rd imm) = u_form imm rd auipc
layout (Jal rd offset) = j_form offset rd jal
layout (Jalr rd rs1 imm) = i_form imm rs1 0b000 rd jalr
layout (Branch o rs1 rs2 offset) = b_form offset rs2 rs1 (branch_code o) branch
layout (Load o rd rs1 imm) = i_form imm rs1 (load_code o) rd load
layout (Store o rs1 rs2 imm) = s_form imm rs2 rs1 (store_code o) store
layout (OpImm o rd rs1 imm) =
    if is_shift o then r_form (shift_top o) (twos imm) rs1 (imm_code o) rd op_imm else i_form imm rs1 (imm_code o) rd op_imm
layout (Op o rd rs1 rs2) = r_form (reg_top o) rs2 rs1 (reg_code o) rd op
layout Fence = free 12 0x0ff ∷ free 5 0 ∷ bits 3 0b000 ∷ free 5 0 ∷ bits 7 misc_mem ∷ []
layout Ecall = bits 12 0 ∷ bits 5 0 ∷ bits 3 0b000 ∷ bits 5 0 ∷ bits 7 system ∷ []
layout Ebreak = bits 12 1 ∷ bits 5 0 ∷ bits 3 0b000 ∷ bits 5 0 ∷ bits 7 system ∷ []
layout (Lr rd rs1) = amo_form 0b00010 0 rs1 rd
layout (Sc rd rs1 rs2) = amo_form 0b00011 rs2 rs1 rd
layout (Amo o rd rs1 rs2) = amo_form (amo_code o) rs2 rs1 rd

-- a number of so many values with sign, half of them below 0
abbrev pub is_signed : ℕ → ℤ → Bool
is_signed half z = int_le (neg_ℤ (pos half)) z && int_lt z (pos half)

-- the same, and even
abbrev pub is_target : ℕ → ℤ → Bool
is_target half z = is_signed half z && nat_eq (unsigned_abs z % 2) 0

abbrev pub is_register : ℕ → Bool
is_register number = nat_lt number 32

-- the upper 20 bits of a word, in place
abbrev pub is_upper : ℕ → Bool
is_upper imm = nat_lt imm (2 ^ 32) && nat_eq (imm % 4096) 0

-- the immediate of an operation: 0 to 31 for a shift
abbrev pub is_operand : Bool → ℤ → Bool
is_operand shift imm = if shift then int_le (pos 0) imm && int_lt imm (pos 32) else is_signed 2048 imm

-- registers are below 32, and immediates in the range of their form
abbrev pub instr_fits : Instr → Bool
instr_fits (Lui rd imm) = is_register rd && is_upper imm
instr_fits (Auipc rd imm) = is_register rd && is_upper imm
instr_fits (Jal rd offset) = is_register rd && is_target 1048576 offset
instr_fits (Jalr rd rs1 imm) = is_register rd && is_register rs1 && is_signed 2048 imm
instr_fits (Branch o rs1 rs2 offset) = is_register rs1 && is_register rs2 && is_target 4096 offset
instr_fits (Load o rd rs1 imm) = is_register rd && is_register rs1 && is_signed 2048 imm
instr_fits (Store o rs1 rs2 imm) = is_register rs1 && is_register rs2 && is_signed 2048 imm
instr_fits (OpImm o rd rs1 imm) = is_register rd && is_register rs1 && is_operand (is_shift o) imm
instr_fits (Op o rd rs1 rs2) = is_register rd && is_register rs1 && is_register rs2
instr_fits Fence = true
instr_fits Ecall = true
instr_fits Ebreak = true
instr_fits (Lr rd rs1) = is_register rd && is_register rs1
instr_fits (Sc rd rs1 rs2) = is_register rd && is_register rs1 && is_register rs2
instr_fits (Amo o rd rs1 rs2) = is_register rd && is_register rs1 && is_register rs2

-- how many bits the cells are
abbrev pub width : List Cell → ℕ
width [] = 0
width (bits n value ∷ cells) = n + width cells
width (free n value ∷ cells) = n + width cells

-- whether a word has these cells at its lower end
abbrev pub Reads : List Cell → ℕ → Type 0
Reads [] word = ⊤
Reads (bits n value ∷ cells) word = (part (width cells) n word ≡ value) × Reads cells word
Reads (free n value ∷ cells) word = Reads cells word

-- the word that is written of cells
abbrev pub word_of_cells : List Cell → ℕ
word_of_cells [] = 0
word_of_cells (bits n value ∷ cells) = value * 2 ^ width cells + word_of_cells cells
word_of_cells (free n value ∷ cells) = value * 2 ^ width cells + word_of_cells cells

-- the words of an instruction
pub record IsWordOf (instr : Instr) (word : ℕ) : Type 0 where
  pub fits : instr_fits instr ≡ true
  pub reads : Reads (layout instr) word

-- the one that is written
unfoldable pub word_of : Instr → ℕ
word_of instr = word_of_cells (layout instr)
