use Rattle.fabric_coherence.proofs.KeptStart.{start-kept}
use Rattle.fabric_coherence.specs.Start.{first_ghost}
use Rattle.fabric_coherence.proofs.laws.start_is_kept.Goals as goal

pub returns : goal.returns
returns c = λ image nodes some few. (first_ghost, start-kept image nodes some few)
