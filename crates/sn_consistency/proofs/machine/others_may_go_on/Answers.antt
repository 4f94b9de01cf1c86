use Rattle.sn_consistency.proofs.Others.{others_keep}
use Rattle.sn_consistency.proofs.machine.others_may_go_on.Goals as goal

pub returns : goal.returns
returns c = others_keep
