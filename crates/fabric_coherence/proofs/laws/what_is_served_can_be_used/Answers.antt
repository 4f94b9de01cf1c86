use Rattle.fabric_coherence.proofs.Served.{served}
use Rattle.fabric_coherence.proofs.laws.what_is_served_can_be_used.Goals as goal

pub returns : goal.returns
returns c = served
