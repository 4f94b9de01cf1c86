use Rattle.fabric_coherence.proofs.KeptEvents.{each_keeps_frames}
use Rattle.fabric_coherence.proofs.laws.each_event_keeps_frames.Goals as goal

pub returns : goal.returns
returns c = λ config s t event k m. each_keeps_frames config s t event k m
