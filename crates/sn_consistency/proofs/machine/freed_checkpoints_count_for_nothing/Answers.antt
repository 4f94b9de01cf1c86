use Rattle.sn_consistency.proofs.Others.{exchanged_keeps}
use Rattle.sn_consistency.proofs.machine.freed_checkpoints_count_for_nothing.Goals as goal

pub returns : goal.returns
returns c = exchanged_keeps
