use Rattle.fabric_coherence.proofs.NodesStay.{nodes_same}
use Rattle.fabric_coherence.proofs.laws.nodes_stay.Goals as goal

pub returns : goal.returns
returns c = nodes_same
