use Rattle.run_statistics.proofs.CountedSoFar.{counted-first}
use Rattle.run_statistics.proofs.count.Count.new.Goals as goal

pub returns-clause-counts : goal.returns-clause-counts
returns-clause-counts c = λ image config room fits on.
    counted-first image config room c.new-statistics.result c.new-owned.result fits c.new-statistics.ensures c.new-owned.ensures
