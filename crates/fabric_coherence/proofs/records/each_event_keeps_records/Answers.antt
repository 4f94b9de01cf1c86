use Rattle.fabric_coherence.proofs.KeptEvents.{each_keeps_records}
use Rattle.fabric_coherence.proofs.records.each_event_keeps_records.Goals as goal

pub returns : goal.returns
returns c = λ config s r event k m. each_keeps_records config s r event k m
