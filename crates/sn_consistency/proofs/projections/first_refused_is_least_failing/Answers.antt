use Rattle.rv_core.specs.Flat.{flat_start}
use Rattle.sn_consistency.proofs.Start.{start_shows}
use Rattle.sn_consistency.proofs.Places.{least_to, least_from}
use Rattle.sn_consistency.proofs.projections.first_refused_is_least_failing.Goals as goal

pub returns-clause-from_state : goal.returns-clause-from_state
returns-clause-from_state c = λ image nodes s h rs p. (least_to image nodes s h rs p, least_from image nodes s h rs p)

pub returns-clause-from_start : goal.returns-clause-from_start
returns-clause-from_start c =
    λ image nodes rs p. let s = flat_start image nodes in let h = start_shows image nodes in
    (least_to image nodes s h rs p, least_from image nodes s h rs p)
