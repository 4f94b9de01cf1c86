use Rattle.sn_consistency.proofs.CommittedPart.{by_interval-push, by_interval-kept}
use Rattle.sn_consistency.proofs.committed.retirements_by_interval.Goals as goal

pub returns-clause-push : goal.returns-clause-push
returns-clause-push c = by_interval-push

pub returns-clause-kept : goal.returns-clause-kept
returns-clause-kept c = by_interval-kept
