-- Hexadecimal images: a text whose lines are words of eight digits.
use Rattle.std.specs.Prelude.{ℕ, ◌+◌, ◌*◌, ◌-◌, true, false, ◌&&◌, nat_eq, nat_le, if◌then◌else◌, List, [], ◌∷◌, ◌++◌, length, Option, Some}
use Rattle.std.specs.Prelude.{None, Result, Ok, Err}
use Rattle.byteorder.specs.Endian.{little_bytes}
use Rattle.text_lines.specs.Lines.{lines_of}
use Rattle.sn_base.specs.Blocks.{ram_start, ram_size}
use Rattle.sn_base.specs.Image.{ImageData}
use Rattle.elf_load.specs.declared.fault.LoadCause.{LoadCause}
use Rattle.elf_load.specs.declared.fault.LoadCause.TheVariants.{BadHexLine, TooManyWords, BadEntry}
use Rattle.elf_load.specs.declared.hexadecimal.Line.{Line}
use Rattle.elf_load.specs.declared.hexadecimal.Line.TheVariants.{Skipped, Word, Malformed}

-- the value of a hexadecimal digit in either case
abbrev pub digit_of : ℕ → Option ℕ
digit_of byte =
    if nat_le 48 byte && nat_le byte 57 then Some (byte - 48) else
    if nat_le 97 byte && nat_le byte 102 then Some (byte - 97 + 10) else
    if nat_le 65 byte && nat_le byte 70 then Some (byte - 65 + 10) else None

-- the number that digits are after those of a number so far
abbrev pub number_from : ℕ → List ℕ → Option ℕ
number_from number [] = Some number
number_from number (byte ∷ bytes) = elim (digit_of byte) [ None ↦ None | Some digit ↦ number_from (number * 16 + digit) bytes ]

-- the word that eight digits are
abbrev pub word_of : List ℕ → Option ℕ
word_of text = if nat_eq (length text) 8 then number_from 0 text else None

-- a line that is a word, where there is one
abbrev pub word_line : Option ℕ → Line
word_line None = Malformed
word_line (Some word) = Word word

-- what a line, without its end, is: an empty line and one that begins with # are skipped
abbrev pub line_of : List ℕ → Line
line_of [] = Skipped
line_of (byte ∷ text) = if nat_eq byte 35 then Skipped else word_line (word_of (byte ∷ text))

-- the code that lines add to the code before them, or the refusal of the first line that is refused
unfoldable pub code_from : ℕ → List ℕ → List (List ℕ) → Result (List ℕ) LoadCause
code_from number code [] = Ok code
code_from number code (text ∷ lines) = elim (line_of text) [
  | Skipped ↦ code_from (number + 1) code lines
  | Malformed ↦ Err (BadHexLine number)
  | Word word ↦ if nat_le ram_size (length code) then Err TooManyWords else code_from (number + 1) (code ++ little_bytes 4 word) lines
]

-- one executable segment from the first address of memory
abbrev pub code_image : List ℕ → ImageData
code_image code = record {
  segments = record { start = ram_start; size = length code; bytes = code; write = false; exec = true } ∷ [];
  entry = ram_start;
}

-- the image with this code, if there is any
abbrev pub begun_with : Result (List ℕ) LoadCause → Result ImageData LoadCause
begun_with (Err cause) = Err cause
begun_with (Ok []) = Err (BadEntry ram_start)
begun_with (Ok (byte ∷ code)) = Ok (code_image (byte ∷ code))

-- the image that a text is
abbrev pub hexadecimal_image : List ℕ → Result ImageData LoadCause
hexadecimal_image text = begun_with (code_from 1 [] (lines_of text))
