-- How long a mnemonic is.
use Rattle.std.proofs.Common.{◌≤◌, length, arith}
use Rattle.sn_base.specs.declared.block.Width.{Width}
use Rattle.sn_base.specs.declared.block.Width.TheVariants.{Byte, Half, Word}
use Rattle.rv_decode.specs.declared.operations.BranchOp.{BranchOp}
use Rattle.rv_decode.specs.declared.operations.BranchOp.TheVariants.{Beq, Bne, Blt, Bge, Bltu, Bgeu}
use Rattle.rv_decode.specs.declared.operations.LoadOp.{LoadOp}
use Rattle.rv_decode.specs.declared.operations.LoadOp.TheVariants.{Lb, Lh, Lw, Lbu, Lhu}
use Rattle.rv_decode.specs.declared.operations.ImmOp.{ImmOp}
use Rattle.rv_decode.specs.declared.operations.ImmOp.TheVariants.{Addi, Slti, Sltiu, Xori, Ori, Andi, Slli, Srli, Srai}
use Rattle.rv_decode.specs.declared.operations.RegOp.{RegOp}
use Rattle.rv_decode.specs.declared.operations.RegOp.TheVariants.{Add, Sll, Slt, Sltu, Xor, Srl, Or, And, Sub, Sra}
use Rattle.rv_decode.specs.declared.operations.AmoOp.{AmoOp}
use Rattle.rv_decode.specs.declared.operations.AmoOp.TheVariants.{Amoswap, Amoadd, Amoxor, Amoand, Amoor, Amomin, Amomax, Amominu, Amomaxu}
use Rattle.rv_decode.specs.declared.instr.Instr.{Instr}
use Rattle.rv_decode.specs.declared.instr.Instr.TheVariants.{Lui, Auipc, Jal, Jalr, Branch, Load, Store, OpImm, Op, Fence, Ecall, Ebreak}
use Rattle.rv_decode.specs.declared.instr.Instr.TheVariants.{Lr, Sc, Amo}
use Rattle.rv_statement.specs.Names.{mnemonic, branch_name, load_name, store_name, imm_name, reg_name, amo_name}

branch_short : (o : BranchOp) → length (branch_name o) ≤ 9
branch_short Beq = omega arith
branch_short Bne = omega arith
branch_short Blt = omega arith
branch_short Bge = omega arith
branch_short Bltu = omega arith
branch_short Bgeu = omega arith

load_short : (o : LoadOp) → length (load_name o) ≤ 9
load_short Lb = omega arith
load_short Lh = omega arith
load_short Lw = omega arith
load_short Lbu = omega arith
load_short Lhu = omega arith

store_short : (w : Width) → length (store_name w) ≤ 9
store_short Byte = omega arith
store_short Half = omega arith
store_short Word = omega arith

imm_short : (o : ImmOp) → length (imm_name o) ≤ 9
imm_short Addi = omega arith
imm_short Slti = omega arith
imm_short Sltiu = omega arith
imm_short Xori = omega arith
imm_short Ori = omega arith
imm_short Andi = omega arith
imm_short Slli = omega arith
imm_short Srli = omega arith
imm_short Srai = omega arith

reg_short : (o : RegOp) → length (reg_name o) ≤ 9
reg_short Add = omega arith
reg_short Sll = omega arith
reg_short Slt = omega arith
reg_short Sltu = omega arith
reg_short Xor = omega arith
reg_short Srl = omega arith
reg_short Or = omega arith
reg_short And = omega arith
reg_short Sub = omega arith
reg_short Sra = omega arith

amo_short : (o : AmoOp) → length (amo_name o) ≤ 9
amo_short Amoswap = omega arith
amo_short Amoadd = omega arith
amo_short Amoxor = omega arith
amo_short Amoand = omega arith
amo_short Amoor = omega arith
amo_short Amomin = omega arith
amo_short Amomax = omega arith
amo_short Amominu = omega arith
amo_short Amomaxu = omega arith

pub mnemonic_short : (i : Instr) → length (mnemonic i) ≤ 9
mnemonic_short (Lui rd imm) = omega arith
mnemonic_short (Auipc rd imm) = omega arith
mnemonic_short (Jal rd offset) = omega arith
mnemonic_short (Jalr rd rs1 imm) = omega arith
mnemonic_short (Branch o rs1 rs2 offset) = branch_short o
mnemonic_short (Load o rd rs1 imm) = load_short o
mnemonic_short (Store o rs1 rs2 imm) = store_short o
mnemonic_short (OpImm o rd rs1 imm) = imm_short o
mnemonic_short (Op o rd rs1 rs2) = reg_short o
mnemonic_short Fence = omega arith
mnemonic_short Ecall = omega arith
mnemonic_short Ebreak = omega arith
mnemonic_short (Lr rd rs1) = omega arith
mnemonic_short (Sc rd rs1 rs2) = omega arith
mnemonic_short (Amo o rd rs1 rs2) = amo_short o
