-- The words of a text, or the first cause why there are none.
use Rattle.std.specs.Prelude.{◌≡◌, ℕ, ◌+◌, ◌*◌, nat_le, if◌then◌else◌, pos, ◌-ℤ◌, List, [], ◌∷◌, ◌++◌, length, Option, Some, None, Result}
use Rattle.std.specs.Prelude.{Ok, Err}
use Rattle.std.specs.Str.{bytes_eq}
use Rattle.rv_decode.specs.declared.instr.Instr.{Instr}
use Rattle.rv_asm.specs.declared.fault.AsmCause.{AsmCause}
use Rattle.rv_asm.specs.declared.fault.AsmCause.TheVariants.{BadLine, OutOfRange, LabelTwice, TooManyWords, NoLabel}
use Rattle.rv_asm.specs.declared.fault.AsmFault.{AsmFault}
use Rattle.rv_asm.specs.declared.fault.AsmFault.TheVariants.{Refused, Memory}
use Rattle.text_lines.specs.Lines.{lines_of}
use Rattle.rv_statement.specs.Lines.{bare}
use Rattle.rv_statement.specs.Reading.{Read, fixed, aimed, Statement, nothing, label, said, formless, word_of_instruction, with_offset, statement_of}

-- a word of the output: it is known, or it is an instruction of that line that leads to a label
pub data Item : Type 0 where
  known : ℕ → Item
  led : Instr → List ℕ → ℕ → Item

-- what the lines so far have given: the words, and the place of each label
pub record Listing : Type 0 where
  pub items : List Item
  pub places : List ℕ → Option ℕ

-- one more word, where there is room for it
abbrev pub with_item : ℕ → Listing → Item → Result Listing AsmCause
with_item number listing item =
    if nat_le 1048576 (length listing.items) then Err (TooManyWords number)
    else Ok (record { items = listing.items ++ item ∷ []; places = listing.places })

abbrev pub with_operation : ℕ → Listing → Read → Result Listing AsmCause
with_operation number listing (fixed None) = Err (OutOfRange number)
with_operation number listing (fixed (Some word)) = with_item number listing (known word)
with_operation number listing (aimed instr name) = with_item number listing (led instr name number)

-- the places of labels, with one more
abbrev pub with_place : (List ℕ → Option ℕ) → List ℕ → ℕ → List ℕ → Option ℕ
with_place places name place other = if bytes_eq name other then Some place else places other

-- one more label, unless it stands already; a word's place is four times its number
abbrev pub with_label : ℕ → Listing → List ℕ → Option ℕ → Result Listing AsmCause
with_label number listing name (Some place) = Err (LabelTwice number)
with_label number listing name None =
    Ok (record { items = listing.items; places = with_place listing.places name (4 * length listing.items) })

-- one more line, by its number
abbrev pub with_line : ℕ → Listing → Statement → Result Listing AsmCause
with_line number listing nothing = Ok listing
with_line number listing (label name) = with_label number listing name (listing.places name)
with_line number listing (said operation) = with_operation number listing operation
with_line number listing formless = Err (BadLine number)

-- what lines add to the lines so far, where the first of them has this number
unfoldable pub listed_from : ℕ → Listing → List (List ℕ) → Result Listing AsmCause
listed_from number listing [] = Ok listing
listed_from number listing (line ∷ lines) = elim (with_line number listing (statement_of (bare line))) [
  | Err cause ↦ Err cause
  | Ok longer ↦ listed_from (number + 1) longer lines
]

abbrev pub in_range : ℕ → Option ℕ → Result ℕ AsmCause
in_range line None = Err (OutOfRange line)
in_range line (Some word) = Ok word

-- the word of an instruction that leads from a place to a label's
abbrev pub led_word : ℕ → Instr → ℕ → Option ℕ → Result ℕ AsmCause
led_word line instr here None = Err (NoLabel line)
led_word line instr here (Some place) = in_range line (word_of_instruction (with_offset instr (pos place -ℤ pos here)))

abbrev pub item_word : (List ℕ → Option ℕ) → ℕ → Item → Result ℕ AsmCause
item_word places here (known word) = Ok word
item_word places here (led instr name line) = led_word line instr here (places name)

-- the words so far and those of the items
unfoldable pub words_from : (List ℕ → Option ℕ) → List ℕ → List Item → Result (List ℕ) AsmCause
words_from places words [] = Ok words
words_from places words (item ∷ items) = elim (item_word places (4 * length words) item) [
  | Err cause ↦ Err cause
  | Ok word ↦ words_from places (words ++ word ∷ []) items
]

abbrev pub words_of : Result Listing AsmCause → Result (List ℕ) AsmCause
words_of (Err cause) = Err cause
words_of (Ok listing) = words_from listing.places [] listing.items

abbrev pub nothing_listed : Listing
nothing_listed = record { items = []; places = λ name. None }

-- the words of a text: its lines in order first, and then the offsets to labels in order
unfoldable pub asm_of : List ℕ → Result (List ℕ) AsmCause
asm_of text = words_of (listed_from 1 nothing_listed (lines_of text))

-- a refusal has the text's first cause; want of memory says nothing of the text
abbrev pub IsRefusedAs : {A : Type 0} → Result A AsmCause → AsmFault → Type 0
IsRefusedAs meaning (Refused cause) = meaning ≡ Err cause
IsRefusedAs meaning Memory = Unit {0}
