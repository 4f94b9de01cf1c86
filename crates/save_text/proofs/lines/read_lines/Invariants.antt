use Rattle.std.proofs.Common.{◌≡◌, ◌+◌, ◌≤◌, length}
use Rattle.std.specs.Prelude.{Ok}
use Rattle.std.specs.List.{slice_split}
use Rattle.text_lines.specs.Lines.{is_line_feed}
use Rattle.save_text.specs.Reading.{lines_read, said_by}
use Rattle.save_text.proofs.lines.read_lines.Given as goal

abbrev pub invariant-lines : goal.invariant-lines
invariant-lines l = record {
  same : lines_read l.number (Ok l.reading) (slice_split is_line_feed l.rest) ≡ said_by l.bytes;
  numbers : l.number + length l.rest ≤ length l.bytes + 1;
}

abbrev pub decreases-lines : goal.decreases-lines
decreases-lines l = length l.rest
