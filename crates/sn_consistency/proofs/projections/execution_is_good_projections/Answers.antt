use Rattle.rv_core.specs.Flat.{flat_start}
use Rattle.sn_consistency.proofs.Start.{start_shows}
use Rattle.sn_consistency.proofs.ProjectionLaw.{law_to, law_from}
use Rattle.sn_consistency.proofs.Filters.{filtered, skipping}
use Rattle.sn_consistency.proofs.projections.execution_is_good_projections.Goals as goal

pub returns-clause-from_state : goal.returns-clause-from_state
returns-clause-from_state c =
    λ image nodes s h rs. (
      (λ g. filtered image nodes s rs (law_to image nodes s h rs g)),
      (λ g. law_from image nodes s h rs (skipping image nodes s rs g)),
    )

pub returns-clause-from_start : goal.returns-clause-from_start
returns-clause-from_start c =
    λ image nodes rs. let s = flat_start image nodes in let h = start_shows image nodes in
    ((λ g. filtered image nodes s rs (law_to image nodes s h rs g)), (λ g. law_from image nodes s h rs (skipping image nodes s rs g)))
