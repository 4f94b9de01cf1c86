use Rattle.fabric_coherence.specs.Start.{first_ghost}
use Rattle.fabric_coherence.proofs.KeptStart.{start-kept}
use Rattle.fabric_bounds.proofs.Runs.{start_bounded}
use Rattle.fabric_bounds.proofs.laws.start_is_bounded.Goals as goal

pub returns : goal.returns
returns c = λ image config nodes some few. (first_ghost, start-kept image nodes some few, start_bounded image config nodes)
