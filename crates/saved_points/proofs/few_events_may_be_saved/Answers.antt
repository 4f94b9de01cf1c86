use Rattle.saved_points.proofs.Accepted.{few_saved}
use Rattle.saved_points.proofs.few_events_may_be_saved.Goals as goal

pub returns : goal.returns
returns c = few_saved
