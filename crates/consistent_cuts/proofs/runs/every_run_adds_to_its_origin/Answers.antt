use Rattle.consistent_cuts.proofs.Adds.{origin_adds}
use Rattle.consistent_cuts.proofs.runs.every_run_adds_to_its_origin.Goals as goal

pub returns : goal.returns
returns c = origin_adds
