use Rattle.sn_consistency.proofs.Sorted.{all_apart, retire_low, retire_high}
use Rattle.sn_consistency.proofs.retirement.retirement_steps_later_cuts.Goals as goal

pub returns-clause-earlier : goal.returns-clause-earlier
returns-clause-earlier c = retire_low

pub returns-clause-later : goal.returns-clause-later
returns-clause-later c = λ image F f x e a. retire_high image F f x e (λ j l. all_apart image e (f j) (a j l))
