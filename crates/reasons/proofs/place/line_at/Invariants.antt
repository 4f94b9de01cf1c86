use Rattle.std.proofs.Common.{◌≡◌, length}
use Rattle.text_lines.specs.Lines.{lines_of}
use Rattle.reasons.specs.Places.{line_in}
use Rattle.reasons.proofs.place.line_at.Given as goal

abbrev pub invariant-lines : goal.invariant-lines
invariant-lines l = line_in l.left l.lines ≡ line_in l.number (lines_of l.text)

abbrev pub decreases-lines : goal.decreases-lines
decreases-lines l = length l.lines
