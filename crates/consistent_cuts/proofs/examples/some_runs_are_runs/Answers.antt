use Rattle.consistent_cuts.proofs.examples.some_runs_are_runs.Goals as goal
use Rattle.consistent_cuts.proofs.LostTransfer.{recovering_is_run, recovering_ends}
use Rattle.consistent_cuts.proofs.ByIntervals.{validating_is_run, validating_ends}

pub returns-clause-recovered : goal.returns-clause-recovered
returns-clause-recovered c = (recovering_is_run, recovering_ends)

pub returns-clause-ordered : goal.returns-clause-ordered
returns-clause-ordered c = (validating_is_run, validating_ends)
