-- The first line of the bytes that a reader has left.
use Rattle.std.specs.Prelude.{◌≡◌, ℕ, false, List, [], ◌∷◌, ◌++◌, take, All, if◌then◌else◌, Option, Some}
use Rattle.text_lines.specs.Lines.{is_line_feed, without_return}
use Rattle.line_source.specs.Lines.{LineRead, as_read}
use Rattle.line_source.specs.declared.reader_lines.Piece.{Piece}
use Rattle.line_source.specs.declared.reader_lines.Piece.TheVariants.{Ended, Open, Over}
use Rattle.line_source.specs.declared.room.TheConstants.{ROOM}

-- the line without its end, and the bytes after it, where the line has begun
unfoldable pub first_from : List ℕ → List ℕ → List ℕ × List ℕ
first_from begun [] = (begun, [])
first_from begun (byte ∷ bytes) =
    if is_line_feed byte then (without_return begun, bytes) else first_from (begun ++ byte ∷ []) bytes

-- where there are no bytes there is no line
abbrev pub line_in : List ℕ → List LineRead
line_in [] = []
line_in (byte ∷ bytes) = as_read (first_from [] (byte ∷ bytes)).0 ∷ []

-- what the room keeps of a line
abbrev pub kept_of : List ℕ → List ℕ
kept_of begun = take ROOM begun

-- no end of a line is among these bytes
abbrev pub HasNoEnd : List ℕ → Type 0
HasNoEnd bytes = All (λ byte. is_line_feed byte ≡ false) bytes

-- what a piece that is taken makes of the bytes that are left, and of the room
abbrev pub TakesPiece : List ℕ → Option (List ℕ) → List ℕ → List ℕ → Piece → Type 0
TakesPiece bytes left room filled Ended = (part : List ℕ) × (rest : List ℕ)
    × HasNoEnd part × (bytes ≡ part ++ 10 ∷ rest) × (left ≡ Some rest) × (filled ≡ kept_of (room ++ part))
TakesPiece bytes left room filled Open = (part : List ℕ) × (rest : List ℕ)
    × HasNoEnd part × (bytes ≡ part ++ rest) × (left ≡ Some rest) × (filled ≡ kept_of (room ++ part))
TakesPiece bytes left room filled Over = (bytes ≡ []) × (left ≡ Some []) × (filled ≡ room)
