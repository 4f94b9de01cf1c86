use Rattle.sn_consistency.proofs.Reserved.{held_to, held_from}
use Rattle.sn_consistency.proofs.retirement.reservation_stands_since_its_lr.Goals as goal

pub returns : goal.returns
returns c = λ image F f core b cut none. (held_to image core b F none f cut, held_from image core b F none f cut)
