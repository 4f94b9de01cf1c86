-- Why a program's file is refused.
use Rattle.std.specs.Prelude.{ℕ, Bool, true, false, not, nat_eq, nat_lt, if◌then◌else◌, List, [], ◌∷◌, ◌++◌, codes, decimal, Option, Some, None}
use Rattle.text_lines.specs.Hex.{hex_word}
use Rattle.sn_base.specs.Blocks.{ram_start}
use Rattle.rv_statement.specs.Lines.{bare}
use Rattle.rv_statement.specs.Reading.{Statement, nothing, label, said, formless, statement_of}
use Rattle.elf_load.specs.declared.fault.Field.{Field}
use Rattle.elf_load.specs.declared.fault.Field.TheVariants.{Magic, Class, Order, IdentVersion, FileKind, Machine, Version, PhEntSize}
use Rattle.elf_load.specs.declared.fault.LoadCause.{LoadCause}
use Rattle.elf_load.specs.declared.fault.LoadCause.TheVariants.{Empty, BadHexLine, TooManyWords, Truncated, WrongField, Compressed, TooManySegments}
use Rattle.elf_load.specs.declared.fault.LoadCause.TheVariants.{FileLargerThanMemory, Outside, Overlap, WritableCode, BadEntry}
use Rattle.reasons.specs.declared.header.Header.{Header}
use Rattle.reasons.specs.Reason.{place, quotation_of}
use Rattle.reasons.specs.Places.{line_at}
use Rattle.reasons.specs.Headers.{header_of}

abbrev pub field_name : Field → List ℕ
field_name Magic = codes "magic number"
field_name Class = codes "class"
field_name Order = codes "byte order"
field_name IdentVersion = codes "version of the identification"
field_name FileKind = codes "kind of file"
field_name Machine = codes "machine"
field_name Version = codes "version"
field_name PhEntSize = codes "size of a program header"

-- the value that the field of a program has
abbrev pub field_value : Field → ℕ
field_value Magic = 0x464c_457f
field_value Class = 1
field_value Order = 1
field_value IdentVersion = 1
field_value FileKind = 2
field_value Machine = 243
field_value Version = 1
field_value PhEntSize = 32

unfoldable pub field_reason : List ℕ → Field → ℕ → List ℕ
field_reason text field value = text ++ codes "the " ++ field_name field ++ codes " is " ++ hex_word value
    ++ codes ", and a program for this machine has " ++ hex_word (field_value field)

unfoldable pub header_reason : List ℕ → ℕ → List ℕ
header_reason text number = text ++ codes "program header " ++ decimal number ++ codes ": "

unfoldable pub larger : List ℕ → Option Header → List ℕ
larger text None = text ++ codes "it has more bytes in the file than in memory"
larger text (Some h) =
    text ++ decimal h.file_size ++ codes " bytes in the file are more than its " ++ decimal h.memory_size ++ codes " in memory"

-- the end of memory that a segment passes
abbrev pub bound_text : Header → List ℕ
bound_text h =
    if nat_lt h.address ram_start then codes " don't fit memory, which begins at 80000000"
    else codes " don't fit memory, which ends at 803fffff"

unfoldable pub outside : List ℕ → Option Header → List ℕ
outside text None = text ++ codes "it doesn't fit memory, from 80000000 to 803fffff"
outside text (Some h) = text ++ decimal h.memory_size ++ codes " bytes from " ++ hex_word h.address ++ bound_text h

-- whether a line says an instruction or a label
abbrev pub says : Statement → Bool
says nothing = false
says (label name) = true
says (said operation) = true
says formless = false

abbrev pub is_assembly : List ℕ → Bool
is_assembly line = says (statement_of (bare line))

-- a line that should be a word
unfoldable pub word_line : List ℕ → Option (List ℕ) → List ℕ
word_line text None = text ++ codes "this line isn't eight hexadecimal digits"
word_line text (Some line) =
    if is_assembly line then text ++ codes "this is assembler; safetynet asm turns it into words"
    else text ++ quotation_of line ++ codes " isn't eight hexadecimal digits"

-- whether the file is a text of hexadecimal words, and no ELF file
abbrev pub is_text : List ℕ → Bool
is_text [] = false
is_text (first ∷ bytes) = not (nat_eq first 127)

unfoldable pub entry_reason : List ℕ → List ℕ → ℕ → List ℕ
entry_reason text bytes entry =
    if is_text bytes then text ++ codes "no line has a word"
    else text ++ codes "the entry " ++ hex_word entry ++ codes " isn't the address of an instruction"

unfoldable pub overlapping : List ℕ → ℕ → ℕ → List ℕ
overlapping text earlier later =
    text ++ codes "program headers " ++ decimal earlier ++ codes " and " ++ decimal later ++ codes " share a byte of memory"

unfoldable pub truncation_reason : List ℕ → ℕ → ℕ → List ℕ
truncation_reason text needed found =
    text ++ codes "the file ends after " ++ decimal found ++ codes " bytes, and " ++ decimal needed ++ codes " are needed"

-- what is wrong
abbrev pub what_of : List ℕ → List ℕ → LoadCause → List ℕ
what_of text bytes Empty = text ++ codes "the file is empty"
what_of text bytes (BadHexLine number) = word_line text (line_at bytes number)
what_of text bytes TooManyWords = text ++ codes "more than 1048576 words don't fit memory"
what_of text bytes (Truncated needed found) = truncation_reason text needed found
what_of text bytes (WrongField field value) = field_reason text field value
what_of text bytes Compressed = text ++ codes "it has compressed instructions, which this machine leaves out"
what_of text bytes (TooManySegments count) = text ++ decimal count ++ codes " program headers are more than 64"
what_of text bytes (FileLargerThanMemory number) = larger (header_reason text number) (header_of bytes number)
what_of text bytes (Outside number) = outside (header_reason text number) (header_of bytes number)
what_of text bytes (Overlap earlier later) = overlapping text earlier later
what_of text bytes (WritableCode number) = header_reason text number ++ codes "what is executed must not be writable"
what_of text bytes (BadEntry entry) = entry_reason text bytes entry

-- the line that is blamed
abbrev pub line_of : LoadCause → Option ℕ
line_of (BadHexLine number) = Some number
line_of cause = None

-- a text, and then why the loader refuses a program's file
unfoldable pub program_reason : List ℕ → List ℕ → List ℕ → LoadCause → List ℕ
program_reason text name bytes cause = what_of (place text name (line_of cause)) bytes cause
