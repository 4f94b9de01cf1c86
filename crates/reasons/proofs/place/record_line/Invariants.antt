use Rattle.std.proofs.Common.{◌≡◌, ◌+◌, ◌≤◌, length}
use Rattle.text_lines.specs.Lines.{lines_of}
use Rattle.reasons.specs.Places.{record_in}
use Rattle.reasons.proofs.place.record_line.Given as goal

abbrev pub invariant-lines : goal.invariant-lines
invariant-lines l = record {
  same : record_in l.number l.left l.lines ≡ record_in 1 l.place (lines_of l.text);
  few : l.number + length l.lines ≤ length l.text + 2;
}

abbrev pub decreases-lines : goal.decreases-lines
decreases-lines l = length l.lines
