-- Lines of a text in memory.
use Rattle.std.specs.Prelude.{ℕ, Bool, false, nat_eq, List, [], map, take, Option, Some, None}
use Rattle.sn_io.specs.Outside.{count_plus_one}
use Rattle.text_lines.specs.Lines.{lines_of}
use Rattle.line_source.specs.Lines.{LineRead, as_read}

-- the text, how many of its lines were taken, the others, how many calls were made, and the one that is to fail
pub record MemLinesData : Type 0 where
  pub text : List ℕ
  pub taken : ℕ
  pub left : List (List ℕ)
  pub made : ℕ
  pub failing : Option ℕ
  pub faults : ℕ

-- the others, where there may be some
abbrev pub others_in : Option (List (List ℕ)) → List (List ℕ)
others_in None = []
others_in (Some lines) = lines

-- the lines of a text as they are read
abbrev pub lines_read : List ℕ → List LineRead
lines_read text = map as_read (lines_of text)

abbrev pub read_of : MemLinesData → List LineRead
read_of s = map as_read (take s.taken (lines_of s.text))

abbrev pub left_of : MemLinesData → List LineRead
left_of s = map as_read s.left

-- whether the next call is to fail; the first is 1
abbrev pub is_failing : Option ℕ → ℕ → Bool
is_failing None made = false
is_failing (Some call) made = nat_eq call (count_plus_one made)
