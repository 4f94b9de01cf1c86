use Rattle.rv_core.specs.Flat.{flat_start}
use Rattle.sn_consistency.proofs.Start.{start_shows}
use Rattle.projection_places.proofs.Least.{all_done, first_refused}
use Rattle.projection_places.proofs.places.least_place_is_first_refused.Goals as goal

pub returns-clause-all : goal.returns-clause-all
returns-clause-all c = λ image nodes s h rs q p a b e. all_done image nodes s h rs q p a b e

pub returns-clause-some : goal.returns-clause-some
returns-clause-some c = λ image nodes s h rs q p a b l. first_refused image nodes s h rs q p a b l

pub returns-clause-start_all : goal.returns-clause-start_all
returns-clause-start_all c =
    λ image nodes rs q p a b e. all_done image nodes (flat_start image nodes) (start_shows image nodes) rs q p a b e

pub returns-clause-start_some : goal.returns-clause-start_some
returns-clause-start_some c =
    λ image nodes rs q p a b l. first_refused image nodes (flat_start image nodes) (start_shows image nodes) rs q p a b l
