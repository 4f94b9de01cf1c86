use Rattle.consistent_cuts.proofs.Run.{holds_consistent, holds_next}
use Rattle.consistent_cuts.proofs.kept.joined_is_consistent.Goals as goal

pub returns-clause-now : goal.returns-clause-now
returns-clause-now c = holds_consistent

pub returns-clause-next : goal.returns-clause-next
returns-clause-next c = holds_next
