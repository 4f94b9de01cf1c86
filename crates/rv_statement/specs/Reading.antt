-- What a line says.
use Rattle.std.specs.Prelude.{ℕ, ◌-◌, ◌*◌, ◌^◌, Bool, ◌&&◌, nat_eq, if◌then◌else◌, ℤ, pos, int_le, int_lt, unsigned_abs, List, [], ◌∷◌}
use Rattle.std.specs.Prelude.{length, take, codes, Option, Some, None, option_map, find, slice_index}
use Rattle.std.specs.Str.{bytes_eq}
use Rattle.sn_base.specs.declared.block.Width.TheVariants.{Byte, Half, Word}
use Rattle.rv_decode.specs.declared.operations.BranchOp.TheVariants.{Beq, Bne, Blt, Bge, Bltu, Bgeu}
use Rattle.rv_decode.specs.declared.operations.LoadOp.TheVariants.{Lb, Lh, Lw, Lbu, Lhu}
use Rattle.rv_decode.specs.declared.operations.ImmOp.TheVariants.{Addi, Slti, Sltiu, Xori, Ori, Andi, Slli, Srli, Srai}
use Rattle.rv_decode.specs.declared.operations.RegOp.TheVariants.{Add, Sll, Slt, Sltu, Xor, Srl, Or, And, Sub, Sra}
use Rattle.rv_decode.specs.declared.operations.AmoOp.TheVariants.{Amoswap, Amoadd, Amoxor, Amoand, Amoor, Amomin, Amomax, Amominu, Amomaxu}
use Rattle.rv_decode.specs.declared.instr.Instr.{Instr}
use Rattle.rv_decode.specs.declared.instr.Instr.TheVariants.{Lui, Auipc, Jal, Jalr, Branch, Load, Store, OpImm, Op, Fence, Ecall, Ebreak}
use Rattle.rv_decode.specs.declared.instr.Instr.TheVariants.{Lr, Sc, Amo}
use Rattle.rv_decode.specs.Table.{word_of, instr_fits}
use Rattle.rv_statement.specs.Names.{mnemonic}
use Rattle.rv_statement.specs.Lines.{is_blank, without_outer_blanks, cut}
use Rattle.rv_statement.specs.Operands.{number_of, is_name}
use Rattle.rv_statement.specs.Forms.{and_then, register_then, registers_of, numbered_of, upper_of, placed_of, reserved_of, atomic_of}
use Rattle.rv_statement.specs.Forms.{compared_of}

-- the rows of the table: each instruction, with its operands 0
abbrev pub rows : List Instr
rows =
    Lui 0 0 ∷ Auipc 0 0 ∷ Jal 0 (pos 0) ∷ Jalr 0 0 (pos 0)
    ∷ Branch Beq 0 0 (pos 0) ∷ Branch Bne 0 0 (pos 0) ∷ Branch Blt 0 0 (pos 0) ∷ Branch Bge 0 0 (pos 0) ∷ Branch Bltu 0 0 (pos 0)
    ∷ Branch Bgeu 0 0 (pos 0)
    ∷ Load Lb 0 0 (pos 0) ∷ Load Lh 0 0 (pos 0) ∷ Load Lw 0 0 (pos 0) ∷ Load Lbu 0 0 (pos 0) ∷ Load Lhu 0 0 (pos 0)
    ∷ Store Byte 0 0 (pos 0) ∷ Store Half 0 0 (pos 0) ∷ Store Word 0 0 (pos 0)
    ∷ OpImm Addi 0 0 (pos 0) ∷ OpImm Slti 0 0 (pos 0) ∷ OpImm Sltiu 0 0 (pos 0) ∷ OpImm Xori 0 0 (pos 0) ∷ OpImm Ori 0 0 (pos 0)
    ∷ OpImm Andi 0 0 (pos 0)
    ∷ OpImm Slli 0 0 (pos 0) ∷ OpImm Srli 0 0 (pos 0) ∷ OpImm Srai 0 0 (pos 0)
    ∷ Op Add 0 0 0 ∷ Op Sll 0 0 0 ∷ Op Slt 0 0 0 ∷ Op Sltu 0 0 0 ∷ Op Xor 0 0 0 ∷ Op Srl 0 0 0 ∷ Op Or 0 0 0 ∷ Op And 0 0 0 ∷ Op Sub 0 0 0
    ∷ Op Sra 0 0 0
    ∷ Fence ∷ Ecall ∷ Ebreak ∷ Lr 0 0 ∷ Sc 0 0 0
    ∷ Amo Amoswap 0 0 0 ∷ Amo Amoadd 0 0 0 ∷ Amo Amoxor 0 0 0 ∷ Amo Amoand 0 0 0 ∷ Amo Amoor 0 0 0
    ∷ Amo Amomin 0 0 0 ∷ Amo Amomax 0 0 0 ∷ Amo Amominu 0 0 0 ∷ Amo Amomaxu 0 0 0 ∷ []

abbrev pub is_row : List ℕ → Instr → Bool
is_row text row = bytes_eq text (mnemonic row)

-- the row with this mnemonic
unfoldable pub row_of : List ℕ → Option Instr
row_of text = find (is_row text) rows

-- the word of an instruction, and None where a number of it is out of its range
unfoldable pub word_of_instruction : Instr → Option ℕ
word_of_instruction instr = if instr_fits instr then Some (word_of instr) else None

-- an instruction that leads to an offset, with another one
abbrev pub with_offset : Instr → ℤ → Instr
with_offset (Jal rd _) offset = Jal rd offset
with_offset (Branch o rs1 rs2 _) offset = Branch o rs1 rs2 offset
with_offset instr offset = instr

-- what a mnemonic and its operands name: an instruction, whose numbers may be out of their ranges; an upper immediate out of
-- its range; or an instruction that leads to a label, with its offset 0
pub data Named : Type 0 where
  whole : Instr → Named
  outside : Named
  leads : Instr → List ℕ → Named

-- the upper 20 bits of a word
abbrev pub upper : (ℕ → Instr) → ℤ → Named
upper make number = if int_le (pos 0) number && int_lt number (pos 1048576) then whole (make (unsigned_abs number * 4096)) else outside

abbrev pub at_label : (ℤ → Instr) → List ℕ → Option Named
at_label make text = if is_name text then Some (leads (make (pos 0)) text) else None

abbrev pub at_number : (ℤ → Instr) → List ℕ → Option ℤ → Option Named
at_number make text None = at_label make text
at_number make text (Some offset) = Some (whole (make offset))

-- a target: an offset, or a label
abbrev pub target : (ℤ → Instr) → List ℕ → Option Named
target make text = at_number make text (number_of text)

abbrev pub alone : Instr → List ℕ → Option Named
alone instr text = if nat_eq (length text) 0 then Some (whole instr) else None

-- an instruction of this row, with its operands as its form reads them
unfoldable pub named_as : Instr → List ℕ → Option Named
named_as (Lui _ _) text = option_map (λ a. upper (Lui a.0) a.1) (upper_of text)
named_as (Auipc _ _) text = option_map (λ a. upper (Auipc a.0) a.1) (upper_of text)
named_as (Jal _ _) text = and_then (register_then text) (λ a. target (Jal a.0) a.1)
named_as (Jalr _ _ _) text = option_map (λ a. whole (Jalr a.0 a.2 a.1)) (placed_of text)
named_as (Branch o _ _ _) text = and_then (compared_of text) (λ a. target (Branch o a.0 a.1) a.2)
named_as (Load o _ _ _) text = option_map (λ a. whole (Load o a.0 a.2 a.1)) (placed_of text)
named_as (Store o _ _ _) text = option_map (λ a. whole (Store o a.2 a.0 a.1)) (placed_of text)
named_as (OpImm o _ _ _) text = option_map (λ a. whole (OpImm o a.0 a.1 a.2)) (numbered_of text)
named_as (Op o _ _ _) text = option_map (λ a. whole (Op o a.0 a.1 a.2)) (registers_of text)
named_as Fence text = alone Fence text
named_as Ecall text = alone Ecall text
named_as Ebreak text = alone Ebreak text
named_as (Lr _ _) text = option_map (λ a. whole (Lr a.0 a.1)) (reserved_of text)
named_as (Sc _ _ _) text = option_map (λ a. whole (Sc a.0 a.2 a.1)) (atomic_of text)
named_as (Amo o _ _ _) text = option_map (λ a. whole (Amo o a.0 a.2 a.1)) (atomic_of text)

-- the instruction of a mnemonic and its operands
abbrev pub named_by : List ℕ → List ℕ → Option Named
named_by name operands = and_then (row_of name) (λ row. named_as row operands)

-- what a line gives: a word, or None where a number is out of its range; or an instruction that leads to a label, and its
-- offset isn't known yet
pub data Read : Type 0 where
  fixed : Option ℕ → Read
  aimed : Instr → List ℕ → Read

-- the word of what is named
abbrev pub read_of : Named → Read
read_of (whole instr) = fixed (word_of_instruction instr)
read_of outside = fixed None
read_of (leads instr name) = aimed instr name

-- the number of a `.word`
abbrev pub word_in : ℤ → Option ℕ
word_in number = if int_le (pos 0) number && int_lt number (pos (2 ^ 32)) then Some (unsigned_abs number) else None

-- a mnemonic and its operands
unfoldable pub operation_of : List ℕ → List ℕ → Option Read
operation_of name operands =
    if bytes_eq name (codes ".word") then option_map (λ number. fixed (word_in number)) (number_of operands)
    else option_map read_of (named_by name operands)

-- what is said of a mnemonic and its operands, where these are told apart
abbrev pub on_parts : {A : Type 0} → (List ℕ → List ℕ → Option A) → List ℕ → Option (List ℕ × List ℕ) → Option A
on_parts say text None = say text []
on_parts say text (Some parts) = say parts.0 (without_outer_blanks parts.1)

-- the instruction that a text names: its mnemonic, and its operands after the first blank
unfoldable pub named_in : List ℕ → Option Named
named_in text = on_parts named_by text (cut is_blank text)

-- the same with its word, and `.word`
unfoldable pub instruction_of : List ℕ → Option Read
instruction_of text = on_parts operation_of text (cut is_blank text)

-- a line says nothing, a label or an instruction, or has another form
pub data Statement : Type 0 where
  nothing : Statement
  label : List ℕ → Statement
  said : Read → Statement
  formless : Statement

abbrev pub said_or : Option Read → Statement
said_or None = formless
said_or (Some read) = said read

abbrev pub label_or : List ℕ → Statement
label_or name = if is_name name then label name else formless

-- what a line says, without its comment and the blanks at its ends; a colon ends a label
unfoldable pub statement_of : List ℕ → Statement
statement_of text =
    if nat_eq (length text) 0 then nothing
    else if nat_eq (slice_index text (length text - 1)) 58 then label_or (take (length text - 1) text)
    else said_or (instruction_of text)
