-- What a word is decoded as has that word.
use Rattle.std.proofs.Common.{◌≡◌, ℕ, ◌<◌, ℤ, pos, Bool, true, false, Option, Some, None, arith, refl, sym, ap}
use Rattle.std.specs.Prelude.{option_map, nat_eq, if◌then◌else◌, IfSome, List, find, ◌&&◌, ◌||◌, not}
use Rattle.std.proofs.lemmas.Bool.{eqb-true}
use Rattle.std.proofs.lemmas.Bool.Decides.{nat_tests}
use Rattle.rv_decode.specs.declared.operations.ImmOp.{ImmOp}
use Rattle.rv_decode.specs.declared.instr.Instr.{Instr}
use Rattle.rv_decode.specs.declared.instr.Instr.TheVariants.{Lui, Auipc, Jal, Branch, Load, Store, OpImm, Op, Amo}
use Rattle.rv_decode.specs.Parts.{part, opcode, rd_of, funct3, rs1_of, rs2_of, funct7, funct5, twos, i_imm, s_imm, b_imm, u_imm, j_imm}
use Rattle.rv_decode.specs.Codes.{lui, auipc, jal, jalr, branch, load, store, op_imm, op, misc_mem, system, amo, branch_code, load_code}
use Rattle.rv_decode.specs.Codes.{store_code, imm_code, is_shift, shift_top, reg_code, reg_top, amo_code, branch_ops, load_ops, store_ops}
use Rattle.rv_decode.specs.Codes.{imm_ops, reg_ops, amo_ops}
use Rattle.rv_decode.specs.Table.{IsWordOf, Reads, is_signed, is_operand, is_register, r_form, i_form}
use Rattle.rv_decode.specs.Decoded.{instruction_at, operand_of, jalr_of, branch_of, load_of, store_of, op_imm_of, op_of, fence_of, system_of}
use Rattle.rv_decode.specs.Decoded.{atomic_of, lr_of, amo_of}
use Rattle.rv_decode.proofs.Cells.{part-lt}
use Rattle.rv_decode.proofs.Numbers.{i-reads, s-reads, b-reads, j-reads, u-reads, i-fits, s-fits, b-fits, j-fits, u-fits}
use Rattle.rv_decode.proofs.Found.{found-passes}

-- the instruction, where there is one, has the word
abbrev IsRight : ℕ → Option Instr → Type 0
IsRight word found = IfSome found (λ instr. IsWordOf instr word)

either : (word : ℕ) (b : Bool) (x y : Option Instr) → (b ≡ true → IsRight word x) → (b ≡ false → IsRight word y) →
    IsRight word (if b then x else y)
either word true x y f g = f refl
either word false x y f g = g refl

-- of a number that is tested
when : (word a b : ℕ) (x y : Option Instr) → (a ≡ b → IsRight word x) → IsRight word y → IsRight word (if nat_eq a b then x else y)
when word a b x y f g = either word (nat_eq a b) x y (λ e. f (eqb-true a b e)) (λ e. g)

-- of an operation that is found
made-of : {X : Type 0} (word : ℕ) (make : X → Instr) (test : X → Bool) (found : Option X) → IfSome found (λ x. test x ≡ true) →
    ((x : X) → test x ≡ true → IsWordOf (make x) word) → IsRight word (option_map make found)
made-of word make test None h f = tt
made-of word make test (Some x) h f = f x h

made : {X : Type 0} (word : ℕ) (make : X → Instr) (test : X → Bool) (xs : List X) → ((x : X) → test x ≡ true → IsWordOf (make x) word) →
    IsRight word (option_map make (find test xs))
made word make test xs f = made-of word make test (find test xs) (found-passes test xs) f

-- ---- registers and operands of a word fit

registers : (word : ℕ) → (is_register (rd_of word) ≡ true) × (is_register (rs1_of word) ≡ true) × (is_register (rs2_of word) ≡ true)
registers word =
    (grind (arith, nat_tests, part-lt 7 5 word), grind (arith, nat_tests, part-lt 15 5 word), grind (arith, nat_tests, part-lt 20 5 word))

both : (a b : Bool) → a ≡ true → b ≡ true → (a && b) ≡ true
both a b e f = rw (e, f) refl

three : (a b c : Bool) → a ≡ true → b ≡ true → c ≡ true → (a && b && c) ≡ true
three a b c e f g = rw (e, f, g) refl

-- ---- each instruction

lui-right : (word : ℕ) → opcode word ≡ lui → IsWordOf (Lui (rd_of word) (u_imm word)) word
lui-right word e = record { fits = both _ _ (registers word).0 (u-fits word); reads = (u-reads word, (refl, (e, tt))) }

auipc-right : (word : ℕ) → opcode word ≡ auipc → IsWordOf (Auipc (rd_of word) (u_imm word)) word
auipc-right word e = record { fits = both _ _ (registers word).0 (u-fits word); reads = (u-reads word, (refl, (e, tt))) }

jal-right : (word : ℕ) → opcode word ≡ jal → IsWordOf (Jal (rd_of word) (j_imm word)) word
jal-right word e =
    let p : _ = j-reads word in
    record {
      fits = both _ _ (registers word).0 (j-fits word);
      reads = (sym p.top, (sym p.lower, (sym p.next, (sym p.upper, (refl, (e, tt))))));
    }

i-right : (word code top : ℕ) → funct3 word ≡ code → opcode word ≡ top →
    Reads (i_form (i_imm word) (rs1_of word) code (rd_of word) top) word
i-right word code top e f = (i-reads word, (refl, (e, (refl, (f, tt)))))

i-operands : (word : ℕ) → (is_register (rd_of word) && is_register (rs1_of word) && is_signed 2048 (i_imm word)) ≡ true
i-operands word = three _ _ _ (registers word).0 (registers word).1 (i-fits word)

jalr-right : (word : ℕ) → opcode word ≡ jalr → IsRight word (jalr_of word)
jalr-right word e = when word (funct3 word) 0 _ _ (λ c. record { fits = i-operands word; reads = i-right word 0 jalr c e }) tt

branch-right : (word : ℕ) → opcode word ≡ branch → IsRight word (branch_of word)
branch-right word e =
    made word (λ o. Branch o (rs1_of word) (rs2_of word) (b_imm word)) (λ o. nat_eq (funct3 word) (branch_code o)) branch_ops (λ o t.
    let p : _ = b-reads word in
    record {
      fits = three _ _ _ (registers word).1 (registers word).2 (b-fits word);
      reads = (sym p.top, (sym p.upper, (refl, (refl, (eqb-true (funct3 word) (branch_code o) t, (sym p.lower, (sym p.next, (e, tt))))))));
    })

load-right : (word : ℕ) → opcode word ≡ load → IsRight word (load_of word)
load-right word e =
    made word (λ o. Load o (rd_of word) (rs1_of word) (i_imm word)) (λ o. nat_eq (funct3 word) (load_code o)) load_ops (λ o t.
    record { fits = i-operands word; reads = i-right word (load_code o) load (eqb-true (funct3 word) (load_code o) t) e })

store-right : (word : ℕ) → opcode word ≡ store → IsRight word (store_of word)
store-right word e =
    made word (λ o. Store o (rs1_of word) (rs2_of word) (s_imm word)) (λ o. nat_eq (funct3 word) (store_code o)) store_ops (λ o t.
    record {
      fits = three _ _ _ (registers word).1 (registers word).2 (s-fits word);
      reads = ((s-reads word).0, (refl, (refl, (eqb-true (funct3 word) (store_code o) t, ((s-reads word).1, (e, tt))))));
    })

-- the test of an operation with an immediate, taken apart
imm-test : (code top c t : ℕ) (shift : Bool) → (nat_eq code c && (not shift || nat_eq top t)) ≡ true → (code ≡ c) × (shift ≡ true → top ≡ t)
imm-test code top c t true h = (grind (arith, nat_tests), λ e. grind (arith, nat_tests))
imm-test code top c t false h = (grind (arith, nat_tests), λ e. cc)

amount-fits : (n : ℕ) → n < 32 → is_operand true (pos n) ≡ true
amount-fits n l = grind (arith, nat_tests)

op_imm-word : (shift : Bool) (o : ImmOp) (word : ℕ) → opcode word ≡ op_imm → funct3 word ≡ imm_code o →
    (shift ≡ true → funct7 word ≡ shift_top o)
    → let imm : ℤ = if shift then pos (rs2_of word) else i_imm word in
    (is_operand shift imm ≡ true)
    × Reads (if shift then r_form (shift_top o) (twos imm) (rs1_of word) (imm_code o) (rd_of word) op_imm
    else i_form imm (rs1_of word) (imm_code o) (rd_of word) op_imm) word
op_imm-word true o word e c t = (amount-fits (rs2_of word) (part-lt 20 5 word), (t refl, (refl, (refl, (c, (refl, (e, tt)))))))
op_imm-word false o word e c t = (i-fits word, i-right word (imm_code o) op_imm c e)

op_imm-right : (word : ℕ) → opcode word ≡ op_imm → IsRight word (op_imm_of word)
op_imm-right word e =
    made word (λ o. OpImm o (rd_of word) (rs1_of word) (operand_of o word))
    (λ o. nat_eq (funct3 word) (imm_code o) && (not (is_shift o) || nat_eq (funct7 word) (shift_top o))) imm_ops (λ o t.
    let s : _ = imm-test (funct3 word) (funct7 word) (imm_code o) (shift_top o) (is_shift o) t in
    let r : _ = op_imm-word (is_shift o) o word e s.0 s.1 in
    record { fits = three _ _ _ (registers word).0 (registers word).1 r.0; reads = r.1 })

two-tests : (a b c d : ℕ) → (nat_eq a b && nat_eq c d) ≡ true → (a ≡ b) × (c ≡ d)
two-tests a b c d h = (grind (arith, nat_tests), grind (arith, nat_tests))

all-registers : (word : ℕ) → (is_register (rd_of word) && is_register (rs1_of word) && is_register (rs2_of word)) ≡ true
all-registers word = three _ _ _ (registers word).0 (registers word).1 (registers word).2

op-right : (word : ℕ) → opcode word ≡ op → IsRight word (op_of word)
op-right word e =
    made word (λ o. Op o (rd_of word) (rs1_of word) (rs2_of word))
    (λ o. nat_eq (funct3 word) (reg_code o) && nat_eq (funct7 word) (reg_top o)) reg_ops (λ o t.
    let s : _ = two-tests (funct3 word) (reg_code o) (funct7 word) (reg_top o) t in
    record { fits = all-registers word; reads = (s.1, (refl, (refl, (s.0, (refl, (e, tt)))))) })

fence-right : (word : ℕ) → opcode word ≡ misc_mem → IsRight word (fence_of word)
fence-right word e = when word (funct3 word) 0 _ _ (λ c. record { fits = refl; reads = (c, (e, tt)) }) tt

system-right : (word : ℕ) → IsRight word (system_of word)
system-right word =
    when word word 0x00000073 _ _
    (λ e. record {
      fits = refl;
      reads = (ap (part 20 12) e, (ap (part 15 5) e, (ap (part 12 3) e, (ap (part 7 5) e, (ap (part 0 7) e, tt)))));
    })
    (when word word 0x00100073 _ _
    (λ e. record {
      fits = refl;
      reads = (ap (part 20 12) e, (ap (part 15 5) e, (ap (part 12 3) e, (ap (part 7 5) e, (ap (part 0 7) e, tt)))));
    }) tt)

lr-right : (word : ℕ) → opcode word ≡ amo → funct3 word ≡ 0b010 → funct5 word ≡ 0b00010 → IsRight word (lr_of word)
lr-right word e c f =
    when word (rs2_of word) 0 _ _
    (λ s. record { fits = both _ _ (registers word).0 (registers word).1; reads = (f, (s, (refl, (c, (refl, (e, tt)))))) }) tt

amo-right : (word : ℕ) → opcode word ≡ amo → funct3 word ≡ 0b010 → IsRight word (amo_of word)
amo-right word e c =
    made word (λ o. Amo o (rd_of word) (rs1_of word) (rs2_of word)) (λ o. nat_eq (funct5 word) (amo_code o)) amo_ops (λ o t.
    record { fits = all-registers word; reads = (eqb-true (funct5 word) (amo_code o) t, (refl, (refl, (c, (refl, (e, tt)))))) })

atomic-right : (word : ℕ) → opcode word ≡ amo → IsRight word (atomic_of word)
atomic-right word e = when word (funct3 word) 0b010 _ _ (λ c.
    when word (funct5 word) 0b00010 _ _ (λ f. lr-right word e c f)
    (when word (funct5 word) 0b00011 _ _ (λ f. record { fits = all-registers word; reads = (f, (refl, (refl, (c, (refl, (e, tt)))))) })
    (amo-right word e c))) tt

-- what a word is decoded as has that word
pub decoded-sound : (word : ℕ) → IfSome (instruction_at word) (λ instr. IsWordOf instr word)
unfolding instruction_at
decoded-sound word =
    when word (opcode word) lui _ _ (lui-right word) (
    when word (opcode word) auipc _ _ (auipc-right word) (
    when word (opcode word) jal _ _ (jal-right word) (
    when word (opcode word) jalr _ _ (jalr-right word) (
    when word (opcode word) branch _ _ (branch-right word) (
    when word (opcode word) load _ _ (load-right word) (
    when word (opcode word) store _ _ (store-right word) (
    when word (opcode word) op_imm _ _ (op_imm-right word) (
    when word (opcode word) op _ _ (op-right word) (
    when word (opcode word) misc_mem _ _ (fence-right word) (
    when word (opcode word) system _ _ (λ e. system-right word) (
    when word (opcode word) amo _ _ (atomic-right word) tt)))))))))))
