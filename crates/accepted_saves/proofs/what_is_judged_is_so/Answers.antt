use Rattle.accepted_saves.proofs.Relations.{good, same, accepted, cut_off, set_full, not_legal, numbered, unread_by, no_other}
use Rattle.accepted_saves.proofs.what_is_judged_is_so.Goals as goal

pub returns-clause-good : goal.returns-clause-good
returns-clause-good c = good

pub returns-clause-same : goal.returns-clause-same
returns-clause-same c = same

pub returns-clause-accepted : goal.returns-clause-accepted
returns-clause-accepted c = accepted

pub returns-clause-cut_off : goal.returns-clause-cut_off
returns-clause-cut_off c = cut_off

pub returns-clause-set_full : goal.returns-clause-set_full
returns-clause-set_full c = set_full

pub returns-clause-not_legal : goal.returns-clause-not_legal
returns-clause-not_legal c = not_legal

pub returns-clause-numbered : goal.returns-clause-numbered
returns-clause-numbered c = numbered

pub returns-clause-unread : goal.returns-clause-unread
returns-clause-unread c = unread_by

pub returns-clause-no_other : goal.returns-clause-no_other
returns-clause-no_other c = no_other
