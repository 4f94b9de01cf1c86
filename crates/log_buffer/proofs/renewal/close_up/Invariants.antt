use Rattle.log_buffer.proofs.ClosedUp.{IsClosedUp}
use Rattle.log_buffer.proofs.renewal.close_up.Given as goal

abbrev pub invariant-places : goal.invariant-places
invariant-places l = IsClosedUp l.k l.initial.stored l.initial.newest l.stored l.newest l.place l.kept
