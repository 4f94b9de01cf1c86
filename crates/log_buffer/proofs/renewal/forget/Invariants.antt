use Rattle.log_buffer.proofs.ClosedUp.{IsForgotten}
use Rattle.log_buffer.proofs.renewal.forget.Given as goal

abbrev pub invariant-entries : goal.invariant-entries
invariant-entries l = IsForgotten l.stored l.initial.newest l.newest l.x-index
