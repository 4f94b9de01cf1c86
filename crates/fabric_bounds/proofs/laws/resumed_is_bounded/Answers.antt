use Rattle.fabric_bounds.proofs.Resumed.{resumed_bounded, resumed_counts}
use Rattle.fabric_bounds.proofs.laws.resumed_is_bounded.Goals as goal

pub returns-clause-bounds : goal.returns-clause-bounds
returns-clause-bounds c = resumed_bounded

pub returns-clause-counts : goal.returns-clause-counts
returns-clause-counts c = resumed_counts
