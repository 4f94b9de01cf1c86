use Rattle.fabric_coherence.specs.Start.{first_ghost}
use Rattle.fabric_coherence.proofs.KeptStart.{start-kept, start-recorded}
use Rattle.fabric_coherence.proofs.records.start_is_recorded.Goals as goal

pub returns : goal.returns
returns c = λ image nodes some few. (first_ghost, start-kept image nodes some few, start-recorded image nodes some few)
