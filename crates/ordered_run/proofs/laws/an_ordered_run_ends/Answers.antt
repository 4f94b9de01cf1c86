use Rattle.ordered_run.proofs.OrderLaws.{ordered-ends}
use Rattle.ordered_run.proofs.laws.an_ordered_run_ends.Goals as goal

pub returns : goal.returns
returns c = ordered-ends
