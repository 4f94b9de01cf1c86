use Rattle.sn_model.specs.Fabric.{first_fabric}
use Rattle.fabric_coherence.specs.Start.{first_ghost}
use Rattle.fabric_coherence.proofs.KeptStart.{start-kept}
use Rattle.fabric_bounds.proofs.Runs.{start_bounded, run_keeps_bounds}
use Rattle.fabric_bounds.proofs.laws.every_run_is_bounded.Goals as goal

pub returns : goal.returns
returns c =
    λ image config nodes events some few run. run_keeps_bounds config (first_fabric image nodes) events
    (first_ghost, start-kept image nodes some few, start_bounded image config nodes) run
