use Rattle.consistent_cuts.proofs.FabricRuns.{reached_goes, reached_bounded, reached_counts}
use Rattle.consistent_cuts.proofs.bounds.every_run_is_one_of_the_fabric.Goals as goal

pub returns-clause-goes : goal.returns-clause-goes
returns-clause-goes c = reached_goes

pub returns-clause-bounded : goal.returns-clause-bounded
returns-clause-bounded c = reached_bounded

pub returns-clause-counts : goal.returns-clause-counts
returns-clause-counts c = reached_counts
