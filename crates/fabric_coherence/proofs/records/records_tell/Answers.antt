use Rattle.fabric_coherence.proofs.Told.{tells}
use Rattle.fabric_coherence.proofs.records.records_tell.Goals as goal

pub returns : goal.returns
returns c = λ s r k b l. tells s k.0 k.1 b l (r b) (k.2 b l)
