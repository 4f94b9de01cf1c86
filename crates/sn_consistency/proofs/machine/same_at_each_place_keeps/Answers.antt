use Rattle.sn_consistency.proofs.Outline.{same_keeps}
use Rattle.sn_consistency.proofs.machine.same_at_each_place_keeps.Goals as goal

pub returns : goal.returns
returns c = same_keeps
