use Rattle.mosi_cache.proofs.FullLogs.{cache_full}
use Rattle.mosi_cache.proofs.laws.full_log_is_the_machines.Goals as goal

pub returns : goal.returns
returns c = cache_full
