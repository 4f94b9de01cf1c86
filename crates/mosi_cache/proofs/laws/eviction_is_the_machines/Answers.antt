use Rattle.mosi_cache.proofs.Agrees.{eviction-agrees}
use Rattle.mosi_cache.proofs.laws.eviction_is_the_machines.Goals as goal

pub returns : goal.returns
returns c = eviction-agrees
