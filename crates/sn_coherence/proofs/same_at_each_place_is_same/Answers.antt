use Rattle.sn_coherence.proofs.same_at_each_place_is_same.Goals as goal
use Rattle.sn_coherence.proofs.Same.{same_kept, same_kept_records}

pub returns-clause-block : goal.returns-clause-block
returns-clause-block c = same_kept

pub returns-clause-records : goal.returns-clause-records
returns-clause-records c = same_kept_records
