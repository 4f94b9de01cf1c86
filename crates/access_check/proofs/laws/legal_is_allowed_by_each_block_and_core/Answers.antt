use Rattle.access_check.proofs.Projected.{projected, from_projected}
use Rattle.access_check.proofs.laws.legal_is_allowed_by_each_block_and_core.Goals as goal

pub returns : goal.returns
returns c = λ m accesses. (projected m accesses, from_projected m accesses)
