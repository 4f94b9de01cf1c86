use Rattle.sn_consistency.proofs.CoreLaws.{want_bare, next_bare, effect_bare}
use Rattle.sn_consistency.proofs.step.reservation_plays_no_part.Goals as goal

pub returns-clause-want : goal.returns-clause-want
returns-clause-want c = want_bare

pub returns-clause-core : goal.returns-clause-core
returns-clause-core c = next_bare

pub returns-clause-effect : goal.returns-clause-effect
returns-clause-effect c = effect_bare
