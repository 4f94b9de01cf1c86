use Rattle.mosi_cache.proofs.Restored.{unwound-restored, fits-unwound}
use Rattle.mosi_cache.proofs.laws.restore_is_the_machines.Goals as goal

pub returns-clause-cache : goal.returns-clause-cache
returns-clause-cache c = unwound-restored

pub returns-clause-fits : goal.returns-clause-fits
returns-clause-fits c = fits-unwound
