use Rattle.sn_consistency.proofs.CoreLaws.{next_reservation}
use Rattle.sn_consistency.proofs.step.only_lr_and_sc_change_reservation.Goals as goal

pub returns : goal.returns
returns c = next_reservation
