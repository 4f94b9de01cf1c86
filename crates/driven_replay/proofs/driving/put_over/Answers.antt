use Rattle.driven_replay.proofs.SoFar.{over-none}
use Rattle.driven_replay.proofs.driving.put_over.Goals as goal

pub returns-in-Whole-clause-ok : goal.returns-in-Whole-clause-ok
returns-in-Whole-clause-ok g c = λ r. over-none _ _ c.in-Whole.is
