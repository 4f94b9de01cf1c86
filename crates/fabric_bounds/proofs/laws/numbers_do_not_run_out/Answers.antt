use Rattle.sn_model.specs.Fabric.{first_fabric}
use Rattle.fabric_coherence.specs.Start.{first_ghost}
use Rattle.fabric_coherence.proofs.KeptStart.{start-kept}
use Rattle.fabric_bounds.proofs.Numbers.{start_counts, counts_from_the_start, far_from_the_end}
use Rattle.fabric_bounds.proofs.laws.numbers_do_not_run_out.Goals as goal

pub returns-clause-counts : goal.returns-clause-counts
returns-clause-counts c =
    λ image config nodes events some few run. counts_from_the_start config (first_fabric image nodes) events
    (first_ghost, start-kept image nodes some few) (start_counts image nodes) run

pub returns-clause-next : goal.returns-clause-next
returns-clause-next c = λ s events counts few. far_from_the_end s events counts few
