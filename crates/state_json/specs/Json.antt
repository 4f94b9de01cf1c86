-- JSON as text. All strings are plain ASCII, without a mark that would need an escape. Each definition reads from left to right.
use Rattle.std.specs.Prelude.{◌≡◌, ℕ, Bool, true, false, ◌||◌, if◌then◌else◌, List, [], ◌∷◌, ◌++◌, codes, decimal, slice_index, zero, suc}
use Rattle.std.specs.Prelude.{Option, Some, None}
use Rattle.std.specs.List.{flat_map}
use Rattle.text_lines.specs.Hex.{hex_byte, hex_word}

-- "TEXT"
abbrev pub quotation_of : List ℕ → List ℕ
quotation_of text = codes "\"" ++ text ++ codes "\""

-- the first member of an object, and a further one: its name, and then its value
abbrev pub opens : List ℕ → List ℕ → List ℕ
opens name value = codes "{\"" ++ name ++ codes "\":" ++ value

abbrev pub member : List ℕ → List ℕ → List ℕ
member name value = codes ",\"" ++ name ++ codes "\":" ++ value

-- where an object ends
abbrev pub closes : List ℕ
closes = codes "}"

-- a comma, where others stand before
abbrev pub comma_after : Bool → List ℕ
comma_after others = if others then codes "," else []

-- texts with commas between them, after others or as the first
abbrev pub with_commas : Bool → List (List ℕ) → List ℕ
with_commas others [] = []
with_commas others (text ∷ texts) = comma_after others ++ text ++ with_commas true texts

-- a text is added, with a comma after others, or none is; and then some stand there, or the same as before
pub record IsAddedIf (added : Bool) (text old new : List ℕ) (others some : Bool) : Type 0 where
  pub written : new ≡ old ++ (if added then comma_after others ++ text else [])
  pub known : some ≡ (others || added)

abbrev pub array : List (List ℕ) → List ℕ
array texts = codes "[" ++ with_commas false texts ++ codes "]"

-- what is there as text, or null
abbrev pub or_null : {A : Type 0} → (A → List ℕ) → Option A → List ℕ
or_null text_of None = codes "null"
or_null text_of (Some x) = text_of x

abbrev pub flag : Bool → List ℕ
flag true = codes "true"
flag false = codes "false"

-- a number that may exceed 2^53 stands in quotes
abbrev pub large : ℕ → List ℕ
large number = quotation_of (decimal number)

-- a word, a byte, bytes in order
abbrev pub word : ℕ → List ℕ
word number = quotation_of (hex_word number)

abbrev pub byte : ℕ → List ℕ
byte number = quotation_of (hex_byte number)

abbrev pub bytes : List ℕ → List ℕ
bytes numbers = quotation_of (flat_map hex_byte numbers)

-- a block's content: its 64 bytes, of which these are the first so many
unfoldable pub digits_below : ℕ → List ℕ → List ℕ
digits_below zero content = []
digits_below (suc n) content = digits_below n content ++ hex_byte (slice_index content n)

abbrev pub content_text : List ℕ → List ℕ
content_text content = quotation_of (digits_below 64 content)
