-- Where in a text a cause stands. Lines and records are counted from 1.
use Rattle.std.specs.Prelude.{ℕ, ◌+◌, ◌-◌, Bool, true, nat_eq, nat_le, if◌then◌else◌, List, [], ◌∷◌, Option, Some, None}
use Rattle.std.specs.List.{slice_split}
use Rattle.text_lines.specs.Lines.{is_line_feed, lines_of}

-- the line of a number in lines
abbrev pub line_in : ℕ → List (List ℕ) → Option (List ℕ)
line_in number [] = None
line_in number (line ∷ lines) = if nat_le number 1 then Some line else line_in (number - 1) lines

-- the line of a number; no text has none
unfoldable pub line_at : List ℕ → ℕ → Option (List ℕ)
line_at [] number = None
line_at (byte ∷ text) number = line_in number (lines_of (byte ∷ text))

-- the line of a number in the parts between a text's LFs; what stands behind the last LF is no line
abbrev pub ended_in : ℕ → List (List ℕ) → Option (List ℕ)
ended_in number [] = None
ended_in number (rest ∷ []) = None
ended_in number (line ∷ next ∷ lines) = if nat_le number 1 then Some line else ended_in (number - 1) (next ∷ lines)

-- the line of a number that an LF ends, as it stands before that
unfoldable pub ended_line : List ℕ → ℕ → Option (List ℕ)
ended_line text number = ended_in number (slice_split is_line_feed text)

-- empty lines and comments say no record
abbrev pub is_skipped : List ℕ → Bool
is_skipped [] = true
is_skipped (byte ∷ bytes) = nat_eq byte 35

-- the number of the line with the record of a place, in lines of which the first has this number
abbrev pub record_in : ℕ → ℕ → List (List ℕ) → Option ℕ
record_in number place [] = None
record_in number place (line ∷ lines) =
    if is_skipped line then record_in (number + 1) place lines
    else if nat_le place 1 then Some number
    else record_in (number + 1) (place - 1) lines

unfoldable pub record_line : List ℕ → ℕ → Option ℕ
record_line text place = record_in 1 place (lines_of text)
