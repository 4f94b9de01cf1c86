-- The table of mnemonics: the manual's names in lower case, those of the A extension with `.w`.
use Rattle.std.specs.Prelude.{ℕ, List, codes}
use Rattle.sn_base.specs.declared.block.Width.{Width}
use Rattle.sn_base.specs.declared.block.Width.TheVariants.{Byte, Half, Word}
use Rattle.rv_decode.specs.declared.operations.BranchOp.{BranchOp}
use Rattle.rv_decode.specs.declared.operations.BranchOp.TheVariants.{Beq, Bne, Blt, Bge, Bltu, Bgeu}
use Rattle.rv_decode.specs.declared.operations.LoadOp.{LoadOp}
use Rattle.rv_decode.specs.declared.operations.LoadOp.TheVariants.{Lb, Lh, Lw, Lbu, Lhu}
use Rattle.rv_decode.specs.declared.operations.ImmOp.{ImmOp}
use Rattle.rv_decode.specs.declared.operations.ImmOp.TheVariants.{Addi, Slti, Sltiu, Xori, Ori, Andi, Slli, Srli, Srai}
use Rattle.rv_decode.specs.declared.operations.RegOp.{RegOp}
use Rattle.rv_decode.specs.declared.operations.RegOp.TheVariants.{Add, Sll, Slt, Sltu, Xor, Srl, Or, And, Sub, Sra}
use Rattle.rv_decode.specs.declared.operations.AmoOp.{AmoOp}
use Rattle.rv_decode.specs.declared.operations.AmoOp.TheVariants.{Amoswap, Amoadd, Amoxor, Amoand, Amoor, Amomin, Amomax, Amominu, Amomaxu}
use Rattle.rv_decode.specs.declared.instr.Instr.{Instr}
use Rattle.rv_decode.specs.declared.instr.Instr.TheVariants.{Lui, Auipc, Jal, Jalr, Branch, Load, Store, OpImm, Op, Fence, Ecall, Ebreak}
use Rattle.rv_decode.specs.declared.instr.Instr.TheVariants.{Lr, Sc, Amo}

abbrev pub branch_name : BranchOp → List ℕ
branch_name Beq = codes "beq"
branch_name Bne = codes "bne"
branch_name Blt = codes "blt"
branch_name Bge = codes "bge"
branch_name Bltu = codes "bltu"
branch_name Bgeu = codes "bgeu"

abbrev pub load_name : LoadOp → List ℕ
load_name Lb = codes "lb"
load_name Lh = codes "lh"
load_name Lw = codes "lw"
load_name Lbu = codes "lbu"
load_name Lhu = codes "lhu"

abbrev pub store_name : Width → List ℕ
store_name Byte = codes "sb"
store_name Half = codes "sh"
store_name Word = codes "sw"

abbrev pub imm_name : ImmOp → List ℕ
imm_name Addi = codes "addi"
imm_name Slti = codes "slti"
imm_name Sltiu = codes "sltiu"
imm_name Xori = codes "xori"
imm_name Ori = codes "ori"
imm_name Andi = codes "andi"
imm_name Slli = codes "slli"
imm_name Srli = codes "srli"
imm_name Srai = codes "srai"

abbrev pub reg_name : RegOp → List ℕ
reg_name Add = codes "add"
reg_name Sll = codes "sll"
reg_name Slt = codes "slt"
reg_name Sltu = codes "sltu"
reg_name Xor = codes "xor"
reg_name Srl = codes "srl"
reg_name Or = codes "or"
reg_name And = codes "and"
reg_name Sub = codes "sub"
reg_name Sra = codes "sra"

abbrev pub amo_name : AmoOp → List ℕ
amo_name Amoswap = codes "amoswap.w"
amo_name Amoadd = codes "amoadd.w"
amo_name Amoxor = codes "amoxor.w"
amo_name Amoand = codes "amoand.w"
amo_name Amoor = codes "amoor.w"
amo_name Amomin = codes "amomin.w"
amo_name Amomax = codes "amomax.w"
amo_name Amominu = codes "amominu.w"
amo_name Amomaxu = codes "amomaxu.w"

-- the mnemonic of an instruction
abbrev pub mnemonic : Instr → List ℕ
mnemonic (Lui rd imm) = codes "lui"
mnemonic (Auipc rd imm) = codes "auipc"
mnemonic (Jal rd offset) = codes "jal"
mnemonic (Jalr rd rs1 imm) = codes "jalr"
mnemonic (Branch o rs1 rs2 offset) = branch_name o
mnemonic (Load o rd rs1 imm) = load_name o
mnemonic (Store o rs1 rs2 imm) = store_name o
mnemonic (OpImm o rd rs1 imm) = imm_name o
mnemonic (Op o rd rs1 rs2) = reg_name o
mnemonic Fence = codes "fence"
mnemonic Ecall = codes "ecall"
mnemonic Ebreak = codes "ebreak"
mnemonic (Lr rd rs1) = codes "lr.w"
mnemonic (Sc rd rs1 rs2) = codes "sc.w"
mnemonic (Amo o rd rs1 rs2) = amo_name o
