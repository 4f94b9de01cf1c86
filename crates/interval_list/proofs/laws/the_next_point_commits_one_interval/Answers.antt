use Rattle.interval_list.proofs.Intervals.{below-next, from-next, below-none}
use Rattle.interval_list.proofs.laws.the_next_point_commits_one_interval.Goals as goal

pub returns-clause-committed : goal.returns-clause-committed
returns-clause-committed g c = below-next

pub returns-clause-left : goal.returns-clause-left
returns-clause-left g c = from-next

pub returns-clause-dropped : goal.returns-clause-dropped
returns-clause-dropped g c = below-none
