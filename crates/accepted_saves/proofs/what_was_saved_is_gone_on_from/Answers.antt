use Rattle.accepted_saves.proofs.GoneOnFrom.{gone_on_from, refused_for}
use Rattle.accepted_saves.proofs.what_was_saved_is_gone_on_from.Goals as goal

pub returns-clause-joined : goal.returns-clause-joined
returns-clause-joined c = gone_on_from

pub returns-clause-cut_off : goal.returns-clause-cut_off
returns-clause-cut_off c = refused_for
