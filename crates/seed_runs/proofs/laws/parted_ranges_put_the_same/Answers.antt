use Rattle.seed_runs.proofs.Ranges.{ranges-parted}
use Rattle.seed_runs.proofs.laws.parted_ranges_put_the_same.Goals as goal

pub returns : goal.returns
returns c = ranges-parted
