use Rattle.consistent_cuts.proofs.Run.{from_next}
use Rattle.consistent_cuts.proofs.runs.every_event_is_consistent.Goals as goal

pub returns : goal.returns
returns c = λ image config origin events event may run fits. from_next image config origin events may run event fits
