use Rattle.saved_points.proofs.Accepted.{saved_accepted, same_cut_off}
use Rattle.saved_points.proofs.saved_is_accepted.Goals as goal

pub returns-clause-accepted : goal.returns-clause-accepted
returns-clause-accepted c = saved_accepted

pub returns-clause-cut_off : goal.returns-clause-cut_off
returns-clause-cut_off c = same_cut_off
