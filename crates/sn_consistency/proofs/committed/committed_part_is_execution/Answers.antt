use Rattle.rv_core.specs.Flat.{flat_start}
use Rattle.sn_consistency.specs.Shows.{places_of}
use Rattle.sn_consistency.proofs.CommittedPart.{committed_execution, committed_end}
use Rattle.sn_consistency.proofs.Start.{start_shows}
use Rattle.sn_consistency.proofs.committed.committed_part_is_execution.Goals as goal

pub returns-clause-executes : goal.returns-clause-executes
returns-clause-executes c = committed_execution

pub returns-clause-last_state : goal.returns-clause-last_state
returns-clause-last_state c = committed_end

pub returns-clause-from_start : goal.returns-clause-from_start
returns-clause-from_start c =
    λ image nodes. committed_execution image nodes (flat_start image nodes) (places_of (flat_start image nodes)) (start_shows image nodes)

pub returns-clause-end_from_start : goal.returns-clause-end_from_start
returns-clause-end_from_start c =
    λ image nodes. committed_end image nodes (flat_start image nodes) (places_of (flat_start image nodes)) (start_shows image nodes)
