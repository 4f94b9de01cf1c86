-- The operation of a code, and the code of an operation.
use Rattle.std.proofs.Common.{◌≡◌, ℕ, ◌<◌, ◌^◌, Bool, true, false, List, [], ◌∷◌, Option, Some, arith, refl, cond}
use Rattle.std.specs.Prelude.{find, IfSome, nat_eq}
use Rattle.sn_base.specs.declared.block.Width.{Width}
use Rattle.sn_base.specs.declared.block.Width.TheVariants.{Byte, Half, Word}
use Rattle.rv_decode.specs.declared.operations.BranchOp.{BranchOp}
use Rattle.rv_decode.specs.declared.operations.BranchOp.TheVariants.{Beq, Bne, Blt, Bge, Bltu, Bgeu}
use Rattle.rv_decode.specs.declared.operations.LoadOp.{LoadOp}
use Rattle.rv_decode.specs.declared.operations.LoadOp.TheVariants.{Lb, Lh, Lw, Lbu, Lhu}
use Rattle.rv_decode.specs.declared.operations.ImmOp.{ImmOp}
use Rattle.rv_decode.specs.declared.operations.ImmOp.TheVariants.{Addi, Slti, Sltiu, Xori, Ori, Andi, Slli, Srli, Srai}
use Rattle.rv_decode.specs.declared.operations.RegOp.{RegOp}
use Rattle.rv_decode.specs.declared.operations.RegOp.TheVariants.{Add, Sll, Slt, Sltu, Xor, Srl, Or, And, Sub, Sra}
use Rattle.rv_decode.specs.declared.operations.AmoOp.{AmoOp}
use Rattle.rv_decode.specs.declared.operations.AmoOp.TheVariants.{Amoswap, Amoadd, Amoxor, Amoand, Amoor, Amomin, Amomax, Amominu, Amomaxu}
use Rattle.rv_decode.specs.Codes.{branch_code, branch_op, load_code, load_op, store_code, store_op, imm_code, is_shift, shift_top, imm_op}
use Rattle.rv_decode.specs.Codes.{reg_code, reg_top, reg_op, amo_code, amo_op}

found-here : {X : Type 0} (test : X → Bool) (x : X) (b : Bool) (rest : Option X) → test x ≡ b → IfSome rest (λ y. test y ≡ true) →
    IfSome (cond b (Some x) rest) (λ y. test y ≡ true)
found-here test x true rest e h = e
found-here test x false rest e h = h

-- what a search finds passes the test
pub found-passes : {X : Type 0} (test : X → Bool) (xs : List X) → IfSome (find test xs) (λ x. test x ≡ true)
found-passes test [] = tt
found-passes test (x ∷ xs) = found-here test x (test x) (find test xs) refl (found-passes test xs)

pub branch-found : (o : BranchOp) → branch_op (branch_code o) ≡ Some o
branch-found Beq = refl
branch-found Bne = refl
branch-found Blt = refl
branch-found Bge = refl
branch-found Bltu = refl
branch-found Bgeu = refl

pub load-found : (o : LoadOp) → load_op (load_code o) ≡ Some o
load-found Lb = refl
load-found Lh = refl
load-found Lw = refl
load-found Lbu = refl
load-found Lhu = refl

pub store-found : (o : Width) → store_op (store_code o) ≡ Some o
store-found Byte = refl
store-found Half = refl
store-found Word = refl

pub shift-found : (o : ImmOp) → is_shift o ≡ true → imm_op (imm_code o) (shift_top o) ≡ Some o
shift-found Addi h = refl
shift-found Slti h = refl
shift-found Sltiu h = refl
shift-found Xori h = refl
shift-found Ori h = refl
shift-found Andi h = refl
shift-found Slli h = refl
shift-found Srli h = refl
shift-found Srai h = refl

pub imm-found : (o : ImmOp) (top : ℕ) → is_shift o ≡ false → imm_op (imm_code o) top ≡ Some o
imm-found Addi top h = refl
imm-found Slti top h = refl
imm-found Sltiu top h = refl
imm-found Xori top h = refl
imm-found Ori top h = refl
imm-found Andi top h = refl
imm-found Slli top h = cc
imm-found Srli top h = cc
imm-found Srai top h = cc

pub reg-found : (o : RegOp) → reg_op (reg_code o) (reg_top o) ≡ Some o
reg-found Add = refl
reg-found Sll = refl
reg-found Slt = refl
reg-found Sltu = refl
reg-found Xor = refl
reg-found Srl = refl
reg-found Or = refl
reg-found And = refl
reg-found Sub = refl
reg-found Sra = refl

pub amo-found : (o : AmoOp) → amo_op (amo_code o) ≡ Some o
amo-found Amoswap = refl
amo-found Amoadd = refl
amo-found Amoxor = refl
amo-found Amoand = refl
amo-found Amoor = refl
amo-found Amomin = refl
amo-found Amomax = refl
amo-found Amominu = refl
amo-found Amomaxu = refl

-- no atomic operation has the code of LR or of SC
pub amo-codes : (o : AmoOp) → (nat_eq (amo_code o) 0b00010 ≡ false) × (nat_eq (amo_code o) 0b00011 ≡ false)
amo-codes Amoswap = (refl, refl)
amo-codes Amoadd = (refl, refl)
amo-codes Amoxor = (refl, refl)
amo-codes Amoand = (refl, refl)
amo-codes Amoor = (refl, refl)
amo-codes Amomin = (refl, refl)
amo-codes Amomax = (refl, refl)
amo-codes Amominu = (refl, refl)
amo-codes Amomaxu = (refl, refl)

-- each code has room in its field

pub branch_code-lt : (o : BranchOp) → branch_code o < 2 ^ 3
branch_code-lt o = search arith

pub load_code-lt : (o : LoadOp) → load_code o < 2 ^ 3
load_code-lt o = search arith

pub store_code-lt : (o : Width) → store_code o < 2 ^ 3
store_code-lt o = search arith

pub imm_code-lt : (o : ImmOp) → imm_code o < 2 ^ 3
imm_code-lt o = search arith

pub shift_top-lt : (o : ImmOp) → shift_top o < 2 ^ 7
shift_top-lt o = search arith

pub reg_code-lt : (o : RegOp) → reg_code o < 2 ^ 3
reg_code-lt o = search arith

pub reg_top-lt : (o : RegOp) → reg_top o < 2 ^ 7
reg_top-lt o = search arith

pub amo_code-lt : (o : AmoOp) → amo_code o < 2 ^ 5
amo_code-lt o = search arith
