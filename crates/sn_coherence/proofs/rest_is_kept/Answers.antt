use Rattle.sn_coherence.proofs.AtRest.{rest_kept, rest_recorded}
use Rattle.sn_coherence.proofs.rest_is_kept.Goals as goal

pub returns-clause-block : goal.returns-clause-block
returns-clause-block c = rest_kept

pub returns-clause-records : goal.returns-clause-records
returns-clause-records c = rest_recorded
