-- The smallest parts of a reason.
use Rattle.std.specs.Prelude.{ℕ, Bool, ◌&&◌, not, nat_eq, nat_le, nat_lt, if◌then◌else◌, List, [], ◌∷◌, ◌++◌, length, take, codes, decimal}
use Rattle.std.specs.Prelude.{Option, Some, None}
use Rattle.std.specs.List.{flat_map}
use Rattle.text_lines.specs.Hex.{hex_byte}

-- whether a byte can be printed, and is neither a quotation mark nor a backslash
abbrev pub is_plain : ℕ → Bool
is_plain byte = nat_le 32 byte && nat_le byte 126 && not (nat_eq byte 34) && not (nat_eq byte 92)

-- a byte as one can see it: as it is, or as its number
abbrev pub escape_of : ℕ → List ℕ
escape_of byte = if is_plain byte then byte ∷ [] else codes "\\x" ++ hex_byte byte

-- bytes as one can see them
abbrev pub escaped_text : List ℕ → List ℕ
escaped_text found = flat_map escape_of found

-- the first 60 bytes that were found, between quotation marks; two dots stand behind them where there are more
unfoldable pub quotation_of : List ℕ → List ℕ
quotation_of found =
    if nat_lt 60 (length found) then codes "\"" ++ escaped_text (take 60 found) ++ codes "\".."
    else codes "\"" ++ escaped_text found ++ codes "\""

-- `NAME: `
unfoldable pub of_file : List ℕ → List ℕ
of_file name = escaped_text name ++ codes ": "

-- `NAME:LINE: `
unfoldable pub at_line : List ℕ → ℕ → List ℕ
at_line name number = escaped_text name ++ codes ":" ++ decimal number ++ codes ": "

-- a text, and then the file that is blamed, and the line in it, where there is one
abbrev pub place : List ℕ → List ℕ → Option ℕ → List ℕ
place text name None = text ++ of_file name
place text name (Some number) = text ++ at_line name number

-- what was found, behind a colon
unfoldable pub colon_and : Option (List ℕ) → List ℕ
colon_and None = []
colon_and (Some found) = codes ": " ++ quotation_of found

-- a text, and then that the file has more bytes than may be
unfoldable pub too_long : List ℕ → ℕ → List ℕ
too_long text limit = text ++ codes "more than " ++ decimal limit ++ codes " bytes"

-- a text, and then how the line begins
unfoldable pub begun : List ℕ → List ℕ
begun text = text ++ codes "# why: "

unfoldable pub line_of_reason : List ℕ → List ℕ
line_of_reason text = text ++ codes "\n"
