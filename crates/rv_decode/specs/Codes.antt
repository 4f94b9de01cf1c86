-- The operations of each opcode in the manual's order, the numbers that tell them apart, and the operation that has
-- given numbers.
use Rattle.std.specs.Prelude.{ℕ, Bool, true, false, not, ◌&&◌, ◌||◌, nat_eq, List, [], ◌∷◌, Option, find}
use Rattle.sn_base.specs.declared.block.Width.{Width}
use Rattle.sn_base.specs.declared.block.Width.TheVariants.{Byte, Half, Word}
use Rattle.rv_decode.specs.declared.operations.BranchOp.{BranchOp}
use Rattle.rv_decode.specs.declared.operations.BranchOp.TheVariants.{Beq, Bne, Blt, Bge, Bltu, Bgeu}
use Rattle.rv_decode.specs.declared.operations.LoadOp.{LoadOp}
use Rattle.rv_decode.specs.declared.operations.LoadOp.TheVariants.{Lb, Lh, Lw, Lbu, Lhu}
use Rattle.rv_decode.specs.declared.operations.ImmOp.{ImmOp}
use Rattle.rv_decode.specs.declared.operations.ImmOp.TheVariants.{Addi, Slti, Sltiu, Xori, Ori, Andi, Slli, Srli, Srai}
use Rattle.rv_decode.specs.declared.operations.RegOp.{RegOp}
use Rattle.rv_decode.specs.declared.operations.RegOp.TheVariants.{Add, Sll, Slt, Sltu, Xor, Srl, Or, And, Sub, Sra}
use Rattle.rv_decode.specs.declared.operations.AmoOp.{AmoOp}
use Rattle.rv_decode.specs.declared.operations.AmoOp.TheVariants.{Amoswap, Amoadd, Amoxor, Amoand, Amoor, Amomin, Amomax, Amominu, Amomaxu}

-- the opcodes
abbrev pub lui : ℕ
lui = 0b0110111

abbrev pub auipc : ℕ
auipc = 0b0010111

abbrev pub jal : ℕ
jal = 0b1101111

abbrev pub jalr : ℕ
jalr = 0b1100111

abbrev pub branch : ℕ
branch = 0b1100011

abbrev pub load : ℕ
load = 0b0000011

abbrev pub store : ℕ
store = 0b0100011

abbrev pub op_imm : ℕ
op_imm = 0b0010011

abbrev pub op : ℕ
op = 0b0110011

abbrev pub misc_mem : ℕ
misc_mem = 0b0001111

abbrev pub system : ℕ
system = 0b1110011

abbrev pub amo : ℕ
amo = 0b0101111

-- branches, by funct3
abbrev pub branch_code : BranchOp → ℕ
branch_code Beq = 0b000
branch_code Bne = 0b001
branch_code Blt = 0b100
branch_code Bge = 0b101
branch_code Bltu = 0b110
branch_code Bgeu = 0b111

abbrev pub branch_ops : List BranchOp
branch_ops = Beq ∷ Bne ∷ Blt ∷ Bge ∷ Bltu ∷ Bgeu ∷ []

abbrev pub branch_op : ℕ → Option BranchOp
branch_op code = find (λ o. nat_eq code (branch_code o)) branch_ops

-- loads, by funct3
abbrev pub load_code : LoadOp → ℕ
load_code Lb = 0b000
load_code Lh = 0b001
load_code Lw = 0b010
load_code Lbu = 0b100
load_code Lhu = 0b101

abbrev pub load_ops : List LoadOp
load_ops = Lb ∷ Lh ∷ Lw ∷ Lbu ∷ Lhu ∷ []

abbrev pub load_op : ℕ → Option LoadOp
load_op code = find (λ o. nat_eq code (load_code o)) load_ops

-- stores, by funct3: SB, SH, SW
abbrev pub store_code : Width → ℕ
store_code Byte = 0b000
store_code Half = 0b001
store_code Word = 0b010

abbrev pub store_ops : List Width
store_ops = Byte ∷ Half ∷ Word ∷ []

abbrev pub store_op : ℕ → Option Width
store_op code = find (λ o. nat_eq code (store_code o)) store_ops

-- operations with an immediate, by funct3, and the shifts by funct7 too
abbrev pub imm_code : ImmOp → ℕ
imm_code Addi = 0b000
imm_code Slti = 0b010
imm_code Sltiu = 0b011
imm_code Xori = 0b100
imm_code Ori = 0b110
imm_code Andi = 0b111
imm_code Slli = 0b001
imm_code Srli = 0b101
imm_code Srai = 0b101

abbrev pub is_shift : ImmOp → Bool
is_shift Addi = false
is_shift Slti = false
is_shift Sltiu = false
is_shift Xori = false
is_shift Ori = false
is_shift Andi = false
is_shift Slli = true
is_shift Srli = true
is_shift Srai = true

abbrev pub shift_top : ImmOp → ℕ
shift_top Srai = 0b0100000
shift_top _ = 0b0000000

abbrev pub imm_ops : List ImmOp
imm_ops = Addi ∷ Slti ∷ Sltiu ∷ Xori ∷ Ori ∷ Andi ∷ Slli ∷ Srli ∷ Srai ∷ []

abbrev pub imm_op : ℕ → ℕ → Option ImmOp
imm_op code top = find (λ o. nat_eq code (imm_code o) && (not (is_shift o) || nat_eq top (shift_top o))) imm_ops

-- operations on two registers, by funct3 and funct7
abbrev pub reg_code : RegOp → ℕ
reg_code Add = 0b000
reg_code Sll = 0b001
reg_code Slt = 0b010
reg_code Sltu = 0b011
reg_code Xor = 0b100
reg_code Srl = 0b101
reg_code Or = 0b110
reg_code And = 0b111
reg_code Sub = 0b000
reg_code Sra = 0b101

abbrev pub reg_top : RegOp → ℕ
reg_top Sub = 0b0100000
reg_top Sra = 0b0100000
reg_top _ = 0b0000000

abbrev pub reg_ops : List RegOp
reg_ops = Add ∷ Sll ∷ Slt ∷ Sltu ∷ Xor ∷ Srl ∷ Or ∷ And ∷ Sub ∷ Sra ∷ []

abbrev pub reg_op : ℕ → ℕ → Option RegOp
reg_op code top = find (λ o. nat_eq code (reg_code o) && nat_eq top (reg_top o)) reg_ops

-- atomic memory operations, by funct5
abbrev pub amo_code : AmoOp → ℕ
amo_code Amoswap = 0b00001
amo_code Amoadd = 0b00000
amo_code Amoxor = 0b00100
amo_code Amoand = 0b01100
amo_code Amoor = 0b01000
amo_code Amomin = 0b10000
amo_code Amomax = 0b10100
amo_code Amominu = 0b11000
amo_code Amomaxu = 0b11100

abbrev pub amo_ops : List AmoOp
amo_ops = Amoswap ∷ Amoadd ∷ Amoxor ∷ Amoand ∷ Amoor ∷ Amomin ∷ Amomax ∷ Amominu ∷ Amomaxu ∷ []

abbrev pub amo_op : ℕ → Option AmoOp
amo_op code = find (λ o. nat_eq code (amo_code o)) amo_ops
