-- Each mnemonic is found in the table, and its row is read as its instruction is.
use Rattle.std.proofs.Common.{◌≡◌, ℕ, ◌<◌, true, List, length, refl, arith}
use Rattle.std.specs.Prelude.{option_map}
use Rattle.sn_base.specs.declared.block.Width.TheVariants.{Byte, Half, Word}
use Rattle.rv_decode.specs.declared.operations.BranchOp.TheVariants.{Beq, Bne, Blt, Bge, Bltu, Bgeu}
use Rattle.rv_decode.specs.declared.operations.LoadOp.TheVariants.{Lb, Lh, Lw, Lbu, Lhu}
use Rattle.rv_decode.specs.declared.operations.ImmOp.TheVariants.{Addi, Slti, Sltiu, Xori, Ori, Andi, Slli, Srli, Srai}
use Rattle.rv_decode.specs.declared.operations.RegOp.TheVariants.{Add, Sll, Slt, Sltu, Xor, Srl, Or, And, Sub, Sra}
use Rattle.rv_decode.specs.declared.operations.AmoOp.TheVariants.{Amoswap, Amoadd, Amoxor, Amoand, Amoor, Amomin, Amomax, Amominu, Amomaxu}
use Rattle.rv_decode.specs.declared.instr.Instr.{Instr}
use Rattle.rv_decode.specs.declared.instr.Instr.TheVariants.{Lui, Auipc, Jal, Jalr, Branch, Load, Store, OpImm, Op, Fence, Ecall, Ebreak}
use Rattle.rv_decode.specs.declared.instr.Instr.TheVariants.{Lr, Sc, Amo}
use Rattle.rv_statement.specs.Names.{mnemonic}
use Rattle.rv_statement.specs.Reading.{read_of, named_as, row_of, operation_of}
use Rattle.asm_round_trip.proofs.Bytes.{all, is_solid}

pub operation-read : (instr : Instr) (text : List ℕ) → operation_of (mnemonic instr) text ≡ option_map read_of (named_as instr text)
unfolding operation_of row_of named_as
operation-read (Lui rd imm) text = refl
operation-read (Auipc rd imm) text = refl
operation-read (Jal rd offset) text = refl
operation-read (Jalr rd rs1 imm) text = refl
operation-read (Branch Beq rs1 rs2 offset) text = refl
operation-read (Branch Bne rs1 rs2 offset) text = refl
operation-read (Branch Blt rs1 rs2 offset) text = refl
operation-read (Branch Bge rs1 rs2 offset) text = refl
operation-read (Branch Bltu rs1 rs2 offset) text = refl
operation-read (Branch Bgeu rs1 rs2 offset) text = refl
operation-read (Load Lb rd rs1 imm) text = refl
operation-read (Load Lh rd rs1 imm) text = refl
operation-read (Load Lw rd rs1 imm) text = refl
operation-read (Load Lbu rd rs1 imm) text = refl
operation-read (Load Lhu rd rs1 imm) text = refl
operation-read (Store Byte rs1 rs2 imm) text = refl
operation-read (Store Half rs1 rs2 imm) text = refl
operation-read (Store Word rs1 rs2 imm) text = refl
operation-read (OpImm Addi rd rs1 imm) text = refl
operation-read (OpImm Slti rd rs1 imm) text = refl
operation-read (OpImm Sltiu rd rs1 imm) text = refl
operation-read (OpImm Xori rd rs1 imm) text = refl
operation-read (OpImm Ori rd rs1 imm) text = refl
operation-read (OpImm Andi rd rs1 imm) text = refl
operation-read (OpImm Slli rd rs1 imm) text = refl
operation-read (OpImm Srli rd rs1 imm) text = refl
operation-read (OpImm Srai rd rs1 imm) text = refl
operation-read (Op Add rd rs1 rs2) text = refl
operation-read (Op Sll rd rs1 rs2) text = refl
operation-read (Op Slt rd rs1 rs2) text = refl
operation-read (Op Sltu rd rs1 rs2) text = refl
operation-read (Op Xor rd rs1 rs2) text = refl
operation-read (Op Srl rd rs1 rs2) text = refl
operation-read (Op Or rd rs1 rs2) text = refl
operation-read (Op And rd rs1 rs2) text = refl
operation-read (Op Sub rd rs1 rs2) text = refl
operation-read (Op Sra rd rs1 rs2) text = refl
operation-read Fence text = refl
operation-read Ecall text = refl
operation-read Ebreak text = refl
operation-read (Lr rd rs1) text = refl
operation-read (Sc rd rs1 rs2) text = refl
operation-read (Amo Amoswap rd rs1 rs2) text = refl
operation-read (Amo Amoadd rd rs1 rs2) text = refl
operation-read (Amo Amoxor rd rs1 rs2) text = refl
operation-read (Amo Amoand rd rs1 rs2) text = refl
operation-read (Amo Amoor rd rs1 rs2) text = refl
operation-read (Amo Amomin rd rs1 rs2) text = refl
operation-read (Amo Amomax rd rs1 rs2) text = refl
operation-read (Amo Amominu rd rs1 rs2) text = refl
operation-read (Amo Amomaxu rd rs1 rs2) text = refl

pub mnemonic-solid : (instr : Instr) → all is_solid (mnemonic instr) ≡ true
mnemonic-solid (Lui rd imm) = refl
mnemonic-solid (Auipc rd imm) = refl
mnemonic-solid (Jal rd offset) = refl
mnemonic-solid (Jalr rd rs1 imm) = refl
mnemonic-solid (Branch Beq rs1 rs2 offset) = refl
mnemonic-solid (Branch Bne rs1 rs2 offset) = refl
mnemonic-solid (Branch Blt rs1 rs2 offset) = refl
mnemonic-solid (Branch Bge rs1 rs2 offset) = refl
mnemonic-solid (Branch Bltu rs1 rs2 offset) = refl
mnemonic-solid (Branch Bgeu rs1 rs2 offset) = refl
mnemonic-solid (Load Lb rd rs1 imm) = refl
mnemonic-solid (Load Lh rd rs1 imm) = refl
mnemonic-solid (Load Lw rd rs1 imm) = refl
mnemonic-solid (Load Lbu rd rs1 imm) = refl
mnemonic-solid (Load Lhu rd rs1 imm) = refl
mnemonic-solid (Store Byte rs1 rs2 imm) = refl
mnemonic-solid (Store Half rs1 rs2 imm) = refl
mnemonic-solid (Store Word rs1 rs2 imm) = refl
mnemonic-solid (OpImm Addi rd rs1 imm) = refl
mnemonic-solid (OpImm Slti rd rs1 imm) = refl
mnemonic-solid (OpImm Sltiu rd rs1 imm) = refl
mnemonic-solid (OpImm Xori rd rs1 imm) = refl
mnemonic-solid (OpImm Ori rd rs1 imm) = refl
mnemonic-solid (OpImm Andi rd rs1 imm) = refl
mnemonic-solid (OpImm Slli rd rs1 imm) = refl
mnemonic-solid (OpImm Srli rd rs1 imm) = refl
mnemonic-solid (OpImm Srai rd rs1 imm) = refl
mnemonic-solid (Op Add rd rs1 rs2) = refl
mnemonic-solid (Op Sll rd rs1 rs2) = refl
mnemonic-solid (Op Slt rd rs1 rs2) = refl
mnemonic-solid (Op Sltu rd rs1 rs2) = refl
mnemonic-solid (Op Xor rd rs1 rs2) = refl
mnemonic-solid (Op Srl rd rs1 rs2) = refl
mnemonic-solid (Op Or rd rs1 rs2) = refl
mnemonic-solid (Op And rd rs1 rs2) = refl
mnemonic-solid (Op Sub rd rs1 rs2) = refl
mnemonic-solid (Op Sra rd rs1 rs2) = refl
mnemonic-solid Fence = refl
mnemonic-solid Ecall = refl
mnemonic-solid Ebreak = refl
mnemonic-solid (Lr rd rs1) = refl
mnemonic-solid (Sc rd rs1 rs2) = refl
mnemonic-solid (Amo Amoswap rd rs1 rs2) = refl
mnemonic-solid (Amo Amoadd rd rs1 rs2) = refl
mnemonic-solid (Amo Amoxor rd rs1 rs2) = refl
mnemonic-solid (Amo Amoand rd rs1 rs2) = refl
mnemonic-solid (Amo Amoor rd rs1 rs2) = refl
mnemonic-solid (Amo Amomin rd rs1 rs2) = refl
mnemonic-solid (Amo Amomax rd rs1 rs2) = refl
mnemonic-solid (Amo Amominu rd rs1 rs2) = refl
mnemonic-solid (Amo Amomaxu rd rs1 rs2) = refl

pub mnemonic-some : (instr : Instr) → 0 < length (mnemonic instr)
mnemonic-some (Lui rd imm) = omega arith
mnemonic-some (Auipc rd imm) = omega arith
mnemonic-some (Jal rd offset) = omega arith
mnemonic-some (Jalr rd rs1 imm) = omega arith
mnemonic-some (Branch Beq rs1 rs2 offset) = omega arith
mnemonic-some (Branch Bne rs1 rs2 offset) = omega arith
mnemonic-some (Branch Blt rs1 rs2 offset) = omega arith
mnemonic-some (Branch Bge rs1 rs2 offset) = omega arith
mnemonic-some (Branch Bltu rs1 rs2 offset) = omega arith
mnemonic-some (Branch Bgeu rs1 rs2 offset) = omega arith
mnemonic-some (Load Lb rd rs1 imm) = omega arith
mnemonic-some (Load Lh rd rs1 imm) = omega arith
mnemonic-some (Load Lw rd rs1 imm) = omega arith
mnemonic-some (Load Lbu rd rs1 imm) = omega arith
mnemonic-some (Load Lhu rd rs1 imm) = omega arith
mnemonic-some (Store Byte rs1 rs2 imm) = omega arith
mnemonic-some (Store Half rs1 rs2 imm) = omega arith
mnemonic-some (Store Word rs1 rs2 imm) = omega arith
mnemonic-some (OpImm Addi rd rs1 imm) = omega arith
mnemonic-some (OpImm Slti rd rs1 imm) = omega arith
mnemonic-some (OpImm Sltiu rd rs1 imm) = omega arith
mnemonic-some (OpImm Xori rd rs1 imm) = omega arith
mnemonic-some (OpImm Ori rd rs1 imm) = omega arith
mnemonic-some (OpImm Andi rd rs1 imm) = omega arith
mnemonic-some (OpImm Slli rd rs1 imm) = omega arith
mnemonic-some (OpImm Srli rd rs1 imm) = omega arith
mnemonic-some (OpImm Srai rd rs1 imm) = omega arith
mnemonic-some (Op Add rd rs1 rs2) = omega arith
mnemonic-some (Op Sll rd rs1 rs2) = omega arith
mnemonic-some (Op Slt rd rs1 rs2) = omega arith
mnemonic-some (Op Sltu rd rs1 rs2) = omega arith
mnemonic-some (Op Xor rd rs1 rs2) = omega arith
mnemonic-some (Op Srl rd rs1 rs2) = omega arith
mnemonic-some (Op Or rd rs1 rs2) = omega arith
mnemonic-some (Op And rd rs1 rs2) = omega arith
mnemonic-some (Op Sub rd rs1 rs2) = omega arith
mnemonic-some (Op Sra rd rs1 rs2) = omega arith
mnemonic-some Fence = omega arith
mnemonic-some Ecall = omega arith
mnemonic-some Ebreak = omega arith
mnemonic-some (Lr rd rs1) = omega arith
mnemonic-some (Sc rd rs1 rs2) = omega arith
mnemonic-some (Amo Amoswap rd rs1 rs2) = omega arith
mnemonic-some (Amo Amoadd rd rs1 rs2) = omega arith
mnemonic-some (Amo Amoxor rd rs1 rs2) = omega arith
mnemonic-some (Amo Amoand rd rs1 rs2) = omega arith
mnemonic-some (Amo Amoor rd rs1 rs2) = omega arith
mnemonic-some (Amo Amomin rd rs1 rs2) = omega arith
mnemonic-some (Amo Amomax rd rs1 rs2) = omega arith
mnemonic-some (Amo Amominu rd rs1 rs2) = omega arith
mnemonic-some (Amo Amomaxu rd rs1 rs2) = omega arith
