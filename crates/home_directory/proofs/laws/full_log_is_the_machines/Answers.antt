use Rattle.home_directory.proofs.FullLogs.{home_full}
use Rattle.home_directory.proofs.laws.full_log_is_the_machines.Goals as goal

pub returns : goal.returns
returns c = home_full
