use Rattle.home_directory.proofs.Agrees.{outcome_agrees}
use Rattle.home_directory.proofs.laws.outcome_is_the_machines.Goals as goal

pub returns : goal.returns
returns c = outcome_agrees
