use Rattle.home_directory.proofs.Restored.{restored-is, unwound-can}
use Rattle.home_directory.proofs.laws.restore_is_the_machines.Goals as goal

pub returns-clause-entries : goal.returns-clause-entries
returns-clause-entries c = restored-is

pub returns-clause-fits : goal.returns-clause-fits
returns-clause-fits c = unwound-can
