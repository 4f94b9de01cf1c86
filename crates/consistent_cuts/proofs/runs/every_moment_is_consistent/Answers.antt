use Rattle.consistent_cuts.proofs.Run.{from_consistent}
use Rattle.consistent_cuts.proofs.runs.every_moment_is_consistent.Goals as goal

pub returns : goal.returns
returns c = from_consistent
