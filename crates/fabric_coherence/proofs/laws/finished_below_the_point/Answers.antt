use Rattle.fabric_coherence.proofs.Finished.{point_finished}
use Rattle.fabric_coherence.proofs.laws.finished_below_the_point.Goals as goal

pub returns : goal.returns
returns c = λ s k. (point_finished s k.0 k.1).none
