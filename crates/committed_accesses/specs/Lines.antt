-- Rows as lines of CSV, and the pieces that a report gets of them.
use Rattle.std.specs.Prelude.{ℕ, if◌then◌else◌, List, [], ◌∷◌, ◌++◌, codes, decimal, Option, Some, None}
use Rattle.sn_base.specs.Blocks.{bytes_of}
use Rattle.sn_base.specs.declared.block.Width.{Width}
use Rattle.text_lines.specs.Hex.{hex_word}
use Rattle.rv_asm.specs.Text.{word_text}
use Rattle.sink_pieces.specs.Pieces.{Piece, Report}
use Rattle.access_check.specs.declared.access.Access.{Access}
use Rattle.access_check.specs.declared.access.Operation.{Operation}
use Rattle.access_check.specs.Accesses.{seen_by, written_by, is_sc, is_done}
use Rattle.access_texts.specs.Verdicts.{value_text}
use Rattle.committed_accesses.specs.Rows.{AccessRow}

-- the names of the fields
unfoldable pub header_line : List ℕ
header_line = codes "core,pc,instruction,address,size,read,written,done\n"

-- a field after the one before it
abbrev pub next_field : List ℕ → List ℕ
next_field text = codes "," ++ text

-- the instruction between double quotes, since commas stand in it; nothing between them where there is none to fetch
abbrev pub instruction_text : Option ℕ → List ℕ
instruction_text None = []
instruction_text (Some word) = word_text word

abbrev pub quoted_instruction : Option ℕ → List ℕ
quoted_instruction word = codes "\"" ++ instruction_text word ++ codes "\""

-- a value of so many bytes, empty where there is none
abbrev pub value_field : Width → Option ℕ → List ℕ
value_field width None = []
value_field width (Some value) = value_text width value

-- whether a store-conditional was done; empty at every other access
abbrev pub done_field : Operation → List ℕ
done_field operation = if is_sc operation then (if is_done operation then codes "1" else codes "0") else []

-- the address, the size, the value read, the value written, and whether it was done; empty where the instruction is no access
abbrev pub access_fields : Option Access → List ℕ
access_fields None = codes ",,,,,"
access_fields (Some a) =
    next_field (hex_word a.address) ++ next_field (decimal (bytes_of a.width)) ++ next_field (value_field a.width (seen_by a.operation))
    ++ next_field (value_field a.width (written_by a.operation)) ++ next_field (done_field a.operation)

-- `core,pc,"instruction",address,size,read,written,done`
unfoldable pub row_line : AccessRow → List ℕ
row_line row =
    decimal row.core ++ next_field (hex_word row.pc) ++ next_field (quoted_instruction row.word) ++ access_fields row.access ++ codes "\n"

-- the lines of rows, one piece each
unfoldable pub row_pieces : List AccessRow → List Piece
row_pieces [] = []
row_pieces (row ∷ rows) = Report (row_line row) ∷ row_pieces rows

-- all: the header, and the rows
abbrev pub access_pieces : List AccessRow → List Piece
access_pieces rows = Report header_line ∷ row_pieces rows
