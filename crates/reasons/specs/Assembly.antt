-- Why an assembly text is refused.
use Rattle.std.specs.Prelude.{ℕ, Bool, not, ◌&&◌, ◌||◌, nat_eq, bytes_eq, if◌then◌else◌, List, [], ◌∷◌, ◌++◌, map, drop, codes, flat_map}
use Rattle.std.specs.Prelude.{Option, Some, None}
use Rattle.std.specs.List.{position}
use Rattle.rv_asm.specs.declared.fault.AsmCause.{AsmCause}
use Rattle.rv_asm.specs.declared.fault.AsmCause.TheVariants.{TooLong, BadLine, OutOfRange, LabelTwice, TooManyWords, NoLabel}
use Rattle.reasons.specs.declared.assembly.TheConstants.{PSEUDOS}
use Rattle.reasons.specs.Reason.{escaped_text, place, colon_and, too_long}
use Rattle.reasons.specs.Places.{line_at}
use Rattle.reasons.specs.Hints.{front_to, back_from}

abbrev pub is_mark : ℕ → Bool
is_mark byte = not (nat_eq byte 32) && not (nat_eq byte 9)

-- a blank, a comma or a comment ends a word
abbrev pub ends_word : ℕ → Bool
ends_word byte = nat_eq byte 32 || nat_eq byte 9 || nat_eq byte 44 || nat_eq byte 35

abbrev pub from_place : Option ℕ → List ℕ → List ℕ
from_place None text = []
from_place (Some place) text = drop place text

abbrev pub behind_blanks : List ℕ → List ℕ
behind_blanks text = from_place (position is_mark text) text

-- the first word: a mnemonic or an operand
abbrev pub word_in : List ℕ → List ℕ
word_in text = front_to (position ends_word (behind_blanks text)) (behind_blanks text)

-- the operands: what stands behind the mnemonic
abbrev pub behind_word : List ℕ → List ℕ
behind_word text = from_place (position ends_word (behind_blanks text)) (behind_blanks text)

abbrev pub behind_comma : List ℕ → List ℕ
behind_comma text = back_from (position (λ byte. nat_eq byte 44) text) text

-- a byte of what stands for a pseudoinstruction: A, B and C are its operands
abbrev pub operand_or_byte : List ℕ → ℕ → List ℕ
operand_or_byte operands byte =
    if nat_eq byte 65 then escaped_text (word_in operands)
    else if nat_eq byte 66 then escaped_text (word_in (behind_comma operands))
    else if nat_eq byte 67 then escaped_text (word_in (behind_comma (behind_comma operands)))
    else byte ∷ []

-- what stands for a mnemonic, by a table
abbrev pub instead_of : List (List ℕ × List ℕ) → List ℕ → Option (List ℕ)
instead_of [] mnemonic = None
instead_of (row ∷ rows) mnemonic = if bytes_eq mnemonic row.0 then Some row.1 else instead_of rows mnemonic

abbrev pub pseudos : List (List ℕ × List ℕ)
pseudos = map (λ row. (row.0.now, row.1.now)) PSEUDOS.now

-- a text, and then what to write in place of a pseudoinstruction
unfoldable pub pseudo : List ℕ → List ℕ → List ℕ → List ℕ
pseudo text line template = text ++ escaped_text (word_in line) ++ codes " is a pseudoinstruction, which this assembler leaves out; write "
    ++ flat_map (operand_or_byte (behind_word line)) template

abbrev pub formless_by : List ℕ → List ℕ → Option (List ℕ) → List ℕ
formless_by text line None = text ++ codes "this line is no instruction" ++ colon_and (Some line)
formless_by text line (Some template) = pseudo text line template

abbrev pub formless_text : List ℕ → Option (List ℕ) → List ℕ
formless_text text None = text ++ codes "this line is no instruction"
formless_text text (Some line) = formless_by text line (instead_of pseudos (word_in line))

-- the line that is blamed
abbrev pub line_of : AsmCause → Option ℕ
line_of TooLong = None
line_of (BadLine number) = Some number
line_of (OutOfRange number) = Some number
line_of (LabelTwice number) = Some number
line_of (TooManyWords number) = Some number
line_of (NoLabel number) = Some number

-- what is wrong there
abbrev pub what_of : List ℕ → List ℕ → AsmCause → List ℕ
what_of text bytes TooLong = too_long text 16777216
what_of text bytes (BadLine number) = formless_text text (line_at bytes number)
what_of text bytes (OutOfRange number) = text ++ codes "a number or an offset doesn't fit" ++ colon_and (line_at bytes number)
what_of text bytes (LabelTwice number) = text ++ codes "this label stands on an earlier line too" ++ colon_and (line_at bytes number)
what_of text bytes (TooManyWords number) = text ++ codes "more than 1048576 words don't fit memory"
what_of text bytes (NoLabel number) = text ++ codes "no line has the label that this one names" ++ colon_and (line_at bytes number)

-- a text, and then why the assembly text is refused
unfoldable pub asm_reason : List ℕ → List ℕ → List ℕ → AsmCause → List ℕ
asm_reason text name bytes cause = what_of (place text name (line_of cause)) bytes cause
