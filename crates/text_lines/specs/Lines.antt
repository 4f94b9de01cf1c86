-- The lines of a text. Each is ended by LF, or by CR and LF; the last may lack its end.
use Rattle.std.specs.Prelude.{ℕ, ◌-◌, Bool, nat_eq, if◌then◌else◌, List, [], ◌∷◌, ◌++◌, length, take, slice_index}

-- a line that an LF ended, without the CR before the LF
abbrev pub without_return : List ℕ → List ℕ
without_return line = if nat_eq (slice_index line (length line - 1)) 13 then take (length line - 1) line else line

-- whether a byte is LF
abbrev pub is_line_feed : ℕ → Bool
is_line_feed byte = nat_eq byte 10

-- the lines of a text, without their ends, where the first of them has begun
unfoldable pub lines_from : List ℕ → List ℕ → List (List ℕ)
lines_from begun [] = begun ∷ []
lines_from begun (byte ∷ bytes) =
    if is_line_feed byte then without_return begun ∷ lines_from [] bytes else lines_from (begun ++ byte ∷ []) bytes

abbrev pub lines_of : List ℕ → List (List ℕ)
lines_of text = lines_from [] text

-- what is left of a text from which lines were taken: nothing after its last
abbrev pub left_of : Bool → List ℕ → List (List ℕ)
left_of is_over text = if is_over then [] else lines_of text
