use Rattle.std.proofs.Common.{◌≡◌, ◌≤◌, length}
use Rattle.std.specs.List.{slice_split}
use Rattle.text_lines.specs.Lines.{is_line_feed}
use Rattle.reasons.specs.Places.{ended_in}
use Rattle.reasons.proofs.place.ended_line.Given as goal

abbrev pub invariant-lines : goal.invariant-lines
invariant-lines l = record {
  same : ended_in l.left (slice_split is_line_feed l.rest) ≡ ended_in l.number (slice_split is_line_feed l.text);
  within : length l.rest ≤ length l.text;
}

abbrev pub decreases-lines : goal.decreases-lines
decreases-lines l = length l.rest
