use Rattle.sn_consistency.proofs.CommittedPart.{committed_next, released_next, committed_begins, records-below}
use Rattle.sn_consistency.proofs.committed.committed_part_grows.Goals as goal

pub returns-clause-next : goal.returns-clause-next
returns-clause-next c = committed_next

pub returns-clause-released : goal.returns-clause-released
returns-clause-released c = released_next

pub returns-clause-later : goal.returns-clause-later
returns-clause-later c = committed_begins

pub returns-clause-by_interval : goal.returns-clause-by_interval
returns-clause-by_interval c = records-below
