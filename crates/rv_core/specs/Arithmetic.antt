-- The arithmetic of registers: numbers below 2^32 (RISC-V Unprivileged ISA, "Integer Computational Instructions",
-- "Conditional Branches", "Load and Store Instructions" and "Atomic Memory Operations").
use Rattle.std.specs.Prelude.{ℕ, ◌+◌, ◌-◌, ◌*◌, ◌/◌, ◌%◌, ◌^◌, min, max, Bool, not, nat_eq, nat_lt, if◌then◌else◌, ℤ, int_lt, bit_and}
use Rattle.std.specs.Prelude.{bit_or, bit_xor}
use Rattle.std.specs.Int.{w32, cast_signed, cast_unsigned, int_shr}
use Rattle.rv_decode.specs.declared.operations.BranchOp.{BranchOp}
use Rattle.rv_decode.specs.declared.operations.BranchOp.TheVariants.{Beq, Bne, Blt, Bge, Bltu, Bgeu}
use Rattle.rv_decode.specs.declared.operations.LoadOp.{LoadOp}
use Rattle.rv_decode.specs.declared.operations.LoadOp.TheVariants.{Lb, Lh, Lw, Lbu, Lhu}
use Rattle.rv_decode.specs.declared.operations.ImmOp.{ImmOp}
use Rattle.rv_decode.specs.declared.operations.ImmOp.TheVariants.{Addi, Slti, Sltiu, Xori, Ori, Andi, Slli, Srli, Srai}
use Rattle.rv_decode.specs.declared.operations.RegOp.{RegOp}
use Rattle.rv_decode.specs.declared.operations.RegOp.TheVariants.{Add, Sll, Slt, Sltu, Xor, Srl, Or, And, Sub, Sra}
use Rattle.rv_decode.specs.declared.operations.AmoOp.{AmoOp}
use Rattle.rv_decode.specs.declared.operations.AmoOp.TheVariants.{Amoswap, Amoadd, Amoxor, Amoand, Amoor, Amomin, Amomax, Amominu, Amomaxu}

abbrev pub sum : ℕ → ℕ → ℕ
sum a b = (a + b) % 2 ^ 32

abbrev pub difference : ℕ → ℕ → ℕ
difference a b = (a + (2 ^ 32 - b)) % 2 ^ 32

-- the number with sign that a register holds
abbrev pub with_sign : ℕ → ℤ
with_sign a = cast_signed w32 a

-- a number with sign as a register holds it
abbrev pub as_word : ℤ → ℕ
as_word z = cast_unsigned w32 z

abbrev pub less_with_sign : ℕ → ℕ → Bool
less_with_sign a b = int_lt (with_sign a) (with_sign b)

abbrev pub one_if : Bool → ℕ
one_if test = if test then 1 else 0

-- shifts by the low 5 bits of a number; the last keeps the sign
abbrev pub shifted_left : ℕ → ℕ → ℕ
shifted_left a bits = a * 2 ^ (bits % 32) % 2 ^ 32

abbrev pub shifted_right : ℕ → ℕ → ℕ
shifted_right a bits = a / 2 ^ (bits % 32)

abbrev pub shifted_with_sign : ℕ → ℕ → ℕ
shifted_with_sign a bits = as_word (int_shr (with_sign a) (bits % 32))

-- whether a branch on two registers is taken
abbrev pub is_taken : BranchOp → ℕ → ℕ → Bool
is_taken Beq a b = nat_eq a b
is_taken Bne a b = not (nat_eq a b)
is_taken Blt a b = less_with_sign a b
is_taken Bge a b = not (less_with_sign a b)
is_taken Bltu a b = nat_lt a b
is_taken Bgeu a b = not (nat_lt a b)

-- an operation on a register and an immediate
abbrev pub imm_result : ImmOp → ℕ → ℕ → ℕ
imm_result Addi a imm = sum a imm
imm_result Slti a imm = one_if (less_with_sign a imm)
imm_result Sltiu a imm = one_if (nat_lt a imm)
imm_result Xori a imm = bit_xor a imm
imm_result Ori a imm = bit_or a imm
imm_result Andi a imm = bit_and a imm
imm_result Slli a imm = shifted_left a imm
imm_result Srli a imm = shifted_right a imm
imm_result Srai a imm = shifted_with_sign a imm

-- an operation on two registers
abbrev pub reg_result : RegOp → ℕ → ℕ → ℕ
reg_result Add a b = sum a b
reg_result Sll a b = shifted_left a b
reg_result Slt a b = one_if (less_with_sign a b)
reg_result Sltu a b = one_if (nat_lt a b)
reg_result Xor a b = bit_xor a b
reg_result Srl a b = shifted_right a b
reg_result Or a b = bit_or a b
reg_result And a b = bit_and a b
reg_result Sub a b = difference a b
reg_result Sra a b = shifted_with_sign a b

-- what an atomic operation writes, of the word that it saw and a register
abbrev pub amo_result : AmoOp → ℕ → ℕ → ℕ
amo_result Amoswap seen b = b
amo_result Amoadd seen b = sum seen b
amo_result Amoxor seen b = bit_xor seen b
amo_result Amoand seen b = bit_and seen b
amo_result Amoor seen b = bit_or seen b
amo_result Amomin seen b = if less_with_sign b seen then b else seen
amo_result Amomax seen b = if less_with_sign seen b then b else seen
amo_result Amominu seen b = min seen b
amo_result Amomaxu seen b = max seen b

-- the accessed byte or halfword of an aligned word
abbrev pub byte_of : ℕ → ℕ → ℕ
byte_of address seen = seen / 2 ^ (8 * (address % 4)) % 2 ^ 8

abbrev pub half_of : ℕ → ℕ → ℕ
half_of address seen = seen / 2 ^ (8 * (address % 4)) % 2 ^ 16

-- a number below twice `half` with its highest bit repeated up to 32 bits
abbrev pub sign_extended : ℕ → ℕ → ℕ
sign_extended half n = if nat_lt n half then n else n + (2 ^ 32 - 2 * half)

-- what a load gives, of the aligned word that it saw
abbrev pub load_result : LoadOp → ℕ → ℕ → ℕ
load_result Lb address seen = sign_extended 128 (byte_of address seen)
load_result Lh address seen = sign_extended 32768 (half_of address seen)
load_result Lw address seen = seen
load_result Lbu address seen = byte_of address seen
load_result Lhu address seen = half_of address seen
