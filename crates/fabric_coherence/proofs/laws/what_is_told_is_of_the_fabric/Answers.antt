use Rattle.fabric_coherence.proofs.ToldOf.{told_of_fabric}
use Rattle.fabric_coherence.proofs.laws.what_is_told_is_of_the_fabric.Goals as goal

pub returns : goal.returns
returns c = told_of_fabric
