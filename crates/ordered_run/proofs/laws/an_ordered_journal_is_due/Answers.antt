use Rattle.ordered_run.proofs.OrderLaws.{due-ordered, workers-ordered}
use Rattle.ordered_run.proofs.laws.an_ordered_journal_is_due.Goals as goal

pub returns-clause-due : goal.returns-clause-due
returns-clause-due c = due-ordered

pub returns-clause-ordered : goal.returns-clause-ordered
returns-clause-ordered c = workers-ordered
