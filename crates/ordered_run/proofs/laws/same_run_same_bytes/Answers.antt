use Rattle.ordered_run.proofs.OrderLaws.{done-same}
use Rattle.ordered_run.proofs.laws.same_run_same_bytes.Goals as goal

pub returns : goal.returns
returns c = done-same
