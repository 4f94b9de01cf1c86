use Rattle.sn_model.specs.Fabric.{first_fabric}
use Rattle.fabric_coherence.specs.Runs.{fabric_after}
use Rattle.fabric_coherence.specs.Start.{first_ghost}
use Rattle.fabric_coherence.proofs.Holders.{coherent}
use Rattle.fabric_coherence.proofs.KeptEvents.{run_keeps}
use Rattle.fabric_coherence.proofs.KeptStart.{start-kept}
use Rattle.fabric_coherence.proofs.laws.every_run_is_coherent.Goals as goal

pub returns-clause-kept : goal.returns-clause-kept
returns-clause-kept c =
    λ image config nodes events some few run. run_keeps config (first_fabric image nodes) events
    (first_ghost, start-kept image nodes some few) run

pub returns-clause-coherent : goal.returns-clause-coherent
returns-clause-coherent c = λ image config nodes events some few run b l.
    let kept = run_keeps config (first_fabric image nodes) events (first_ghost, start-kept image nodes some few) run in
    coherent (fabric_after config (first_fabric image nodes) events) kept.0 kept.1 b l
