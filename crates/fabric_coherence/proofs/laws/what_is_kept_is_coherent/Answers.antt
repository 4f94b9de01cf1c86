use Rattle.fabric_coherence.proofs.Holders.{coherent}
use Rattle.fabric_coherence.proofs.laws.what_is_kept_is_coherent.Goals as goal

pub returns : goal.returns
returns c = λ s k b l. coherent s k.0 k.1 b l
