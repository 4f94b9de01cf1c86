use Rattle.sn_consistency.proofs.Saved.{saved_keeps}
use Rattle.sn_consistency.proofs.machine.saved_point_keeps.Goals as goal

pub returns : goal.returns
returns c = saved_keeps
