use Rattle.mosi_cache.proofs.Agrees.{probe-agrees}
use Rattle.mosi_cache.proofs.laws.probe_is_the_machines.Goals as goal

pub returns : goal.returns
returns c = probe-agrees
