use Rattle.mosi_cache.proofs.Agrees.{row-agrees}
use Rattle.mosi_cache.proofs.laws.row_is_the_machines.Goals as goal

pub returns : goal.returns
returns c config s m r = row-agrees s m m.body r
