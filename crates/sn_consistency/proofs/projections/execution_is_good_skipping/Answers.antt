use Rattle.rv_core.specs.Flat.{flat_start}
use Rattle.sn_consistency.proofs.Start.{start_shows}
use Rattle.sn_consistency.proofs.ProjectionLaw.{law_to, law_from}
use Rattle.sn_consistency.proofs.projections.execution_is_good_skipping.Goals as goal

pub returns-clause-from_state : goal.returns-clause-from_state
returns-clause-from_state c = λ image nodes s h rs. (law_to image nodes s h rs, law_from image nodes s h rs)

pub returns-clause-from_start : goal.returns-clause-from_start
returns-clause-from_start c =
    λ image nodes rs. (
      law_to image nodes (flat_start image nodes) (start_shows image nodes) rs,
      law_from image nodes (flat_start image nodes) (start_shows image nodes) rs,
    )
