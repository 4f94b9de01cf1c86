use Rattle.seed_runs.proofs.Ranges.{none-put}
use Rattle.seed_runs.proofs.group.run_side_by_side.Goals as goal

pub returns-in_default-clause-ok : goal.returns-in_default-clause-ok
returns-in_default-clause-ok g c = none-put c.args.job.now c.args.first_seed _
