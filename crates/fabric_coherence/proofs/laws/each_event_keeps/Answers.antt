use Rattle.fabric_coherence.proofs.KeptEvents.{each_keeps}
use Rattle.fabric_coherence.proofs.laws.each_event_keeps.Goals as goal

pub returns : goal.returns
returns c = λ config s event k m. each_keeps config s event k m
