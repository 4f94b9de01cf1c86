-- Lines that are read one after another.
use Rattle.std.specs.Prelude.{ℕ, nat_le, if◌then◌else◌, List, [], ◌∷◌, ◌++◌, length, Option, Some, None, Result, Ok, Err}
use Rattle.line_source.specs.declared.source.Taken.{Taken}
use Rattle.line_source.specs.declared.source.Taken.TheVariants.{Whole, Longer, End}
use Rattle.line_source.specs.declared.source.ReadFailed.{ReadFailed}
use Rattle.line_source.specs.declared.room.TheConstants.{LINE_MOST}

-- a line as it was read: its bytes, or that it is longer than may be
pub data LineRead : Type 0 where
  Line : (bytes : List ℕ) → LineRead
  TooLong : LineRead

abbrev pub as_read : List ℕ → LineRead
as_read line = if nat_le (length line) LINE_MOST then Line line else TooLong

-- the line that was read, by the answer and by what is then in the room; or none
abbrev pub taken_by : Result Taken ReadFailed → List ℕ → List LineRead
taken_by (Ok Whole) room = Line room ∷ []
taken_by (Ok Longer) room = TooLong ∷ []
taken_by (Ok End) room = []
taken_by (Err failed) room = []

-- the lines that were read, and then these, where they are told
abbrev pub lines_and : Option (List LineRead) → List LineRead → Option (List LineRead)
lines_and None more = None
lines_and (Some lines) more = Some (lines ++ more)

-- these lines, and then those that are still to come, where they are told
abbrev pub first_of_lines : List LineRead → Option (List LineRead) → Option (List LineRead)
first_of_lines first None = None
first_of_lines first (Some lines) = Some (first ++ lines)
