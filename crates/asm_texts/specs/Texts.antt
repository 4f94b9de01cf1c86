-- The texts of the commands that assemble and disassemble.
use Rattle.std.specs.Prelude.{ℕ, ◌+◌, ◌-◌, ◌*◌, Bool, true, false, List, [], ◌++◌, codes, Option, Some, None}
use Rattle.std.specs.List.{flat_map, range_with_len}
use Rattle.std.specs.Option.{is_some}
use Rattle.sn_base.specs.Blocks.{ram_start}
use Rattle.sn_base.specs.Image.{SegmentData, word_fetched}
use Rattle.text_lines.specs.Hex.{hex_word}
use Rattle.rv_asm.specs.Text.{word_text}

-- a word as eight lower-case digits, ended by LF
abbrev pub digits_line : ℕ → List ℕ
digits_line word = hex_word word ++ codes "\n"

-- one line a word
abbrev pub words_text : List ℕ → List ℕ
words_text words = flat_map digits_line words

-- `# ADDRESS`, unless there is a word right before this one
abbrev pub heading : Bool → ℕ → List ℕ
heading true address = []
heading false address = codes "# " ++ digits_line address

-- the lines of a word at an address, where there is one
abbrev pub lines_at : Bool → ℕ → Option ℕ → List ℕ
lines_at is_next address None = []
lines_at is_next address (Some word) = heading is_next address ++ word_text word ++ codes "\n"

-- the lines of a place of memory, counted in words: its four bytes are a word where all of them are executable
abbrev pub place_lines : List SegmentData → ℕ → List ℕ
place_lines segments place =
    lines_at (is_some (word_fetched segments (ram_start + 4 * place - 4))) (ram_start + 4 * place) (word_fetched segments (ram_start + 4 * place))

-- the lines of the first places of memory, in order
unfoldable pub first_lines : List SegmentData → ℕ → List ℕ
first_lines segments places = flat_map (place_lines segments) (range_with_len 0 places)

-- the lines of a program's words, in order of address: those of all of memory
unfoldable pub listing : List SegmentData → List ℕ
listing segments = first_lines segments 1048576
