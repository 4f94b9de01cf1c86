-- The text of words: one line a word, with registers as xN, numbers in decimal and targets as offsets.
use Rattle.std.specs.Prelude.{ℕ, ◌+◌, ◌/◌, ◌%◌, nat_eq, nat_lt, if◌then◌else◌, ℤ, Option, Some, None, List, [], ◌∷◌, ◌++◌, codes, decimal}
use Rattle.std.specs.Fmt.{signed_decimal}
use Rattle.text_lines.specs.Hex.{hex_word}
use Rattle.rv_decode.specs.declared.instr.Instr.{Instr}
use Rattle.rv_decode.specs.declared.instr.Instr.TheVariants.{Lui, Auipc, Jal, Jalr, Branch, Load, Store, OpImm, Op, Fence, Ecall, Ebreak}
use Rattle.rv_decode.specs.declared.instr.Instr.TheVariants.{Lr, Sc, Amo}
use Rattle.rv_decode.specs.Table.{word_of}
use Rattle.rv_decode.specs.Decoded.{instruction_at}
use Rattle.rv_statement.specs.Names.{mnemonic}

-- xN
abbrev pub register_text : ℕ → List ℕ
register_text number = codes "x" ++ decimal number

-- two operands with `, ` between them
abbrev pub with_comma : List ℕ → List ℕ → List ℕ
with_comma one other = one ++ codes ", " ++ other

-- (xN)
abbrev pub address_text : ℕ → List ℕ
address_text base = codes "(" ++ register_text base ++ codes ")"

-- NUMBER(xN)
abbrev pub place_text : ℤ → ℕ → List ℕ
place_text number base = signed_decimal number ++ address_text base

-- the operands, in order, after one blank
abbrev pub operands_text : Instr → List ℕ
operands_text (Lui rd imm) = codes " " ++ with_comma (register_text rd) (decimal (imm / 4096))
operands_text (Auipc rd imm) = codes " " ++ with_comma (register_text rd) (decimal (imm / 4096))
operands_text (Jal rd offset) = codes " " ++ with_comma (register_text rd) (signed_decimal offset)
operands_text (Jalr rd rs1 imm) = codes " " ++ with_comma (register_text rd) (place_text imm rs1)
operands_text (Branch o rs1 rs2 offset) = codes " " ++ with_comma (register_text rs1) (with_comma (register_text rs2) (signed_decimal offset))
operands_text (Load o rd rs1 imm) = codes " " ++ with_comma (register_text rd) (place_text imm rs1)
operands_text (Store o rs1 rs2 imm) = codes " " ++ with_comma (register_text rs2) (place_text imm rs1)
operands_text (OpImm o rd rs1 imm) = codes " " ++ with_comma (register_text rd) (with_comma (register_text rs1) (signed_decimal imm))
operands_text (Op o rd rs1 rs2) = codes " " ++ with_comma (register_text rd) (with_comma (register_text rs1) (register_text rs2))
operands_text Fence = []
operands_text Ecall = []
operands_text Ebreak = []
operands_text (Lr rd rs1) = codes " " ++ with_comma (register_text rd) (address_text rs1)
operands_text (Sc rd rs1 rs2) = codes " " ++ with_comma (register_text rd) (with_comma (register_text rs2) (address_text rs1))
operands_text (Amo o rd rs1 rs2) = codes " " ++ with_comma (register_text rd) (with_comma (register_text rs2) (address_text rs1))

-- an instruction's line, without its end
unfoldable pub instr_text : Instr → List ℕ
instr_text instr = mnemonic instr ++ operands_text instr

-- an instruction whose own word this is, and nothing where the word is another of its words
abbrev pub if_written : ℕ → Option Instr → Option Instr
if_written word None = None
if_written word (Some instr) = if nat_eq (word_of instr) word then Some instr else None

-- the instruction that is written as this word, where there is one
unfoldable pub instruction_of_word : ℕ → Option Instr
instruction_of_word word = if_written word (instruction_at word)

abbrev pub line_of : ℕ → Option Instr → List ℕ
line_of word None = codes ".word 0x" ++ hex_word word
line_of word (Some instr) = instr_text instr

-- a word's line, without its end
unfoldable pub word_text : ℕ → List ℕ
word_text word = line_of word (instruction_of_word word)

-- one line a word, each ended by LF
unfoldable pub dis_of : List ℕ → List ℕ
dis_of [] = []
dis_of (word ∷ words) = word_text word ++ codes "\n" ++ dis_of words
