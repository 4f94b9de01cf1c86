use Rattle.rv_core.specs.Flat.{flat_start}
use Rattle.sn_consistency.specs.Shows.{places_of}
use Rattle.sn_consistency.proofs.CommittedPart.{committed_out}
use Rattle.sn_consistency.proofs.Start.{start_shows}
use Rattle.sn_consistency.proofs.committed.output_is_released.Goals as goal

pub returns-clause-output : goal.returns-clause-output
returns-clause-output c = committed_out

pub returns-clause-from_start : goal.returns-clause-from_start
returns-clause-from_start c =
    λ image nodes. committed_out image nodes (flat_start image nodes) (places_of (flat_start image nodes)) (start_shows image nodes)
