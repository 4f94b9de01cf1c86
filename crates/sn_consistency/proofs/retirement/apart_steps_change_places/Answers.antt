use Rattle.sn_consistency.proofs.Swap.{swap}
use Rattle.sn_consistency.proofs.retirement.apart_steps_change_places.Goals as goal

pub returns : goal.returns
returns c = swap
