use Rattle.std.proofs.Common.{length}
use Rattle.replays_tests.proofs.tests.made_to_size.event_lines.Given as goal

abbrev pub decreases-lines : goal.decreases-lines
decreases-lines l = length l.lines
