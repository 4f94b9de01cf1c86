use Rattle.sn_consistency.proofs.Sorted.{all_apart, retire_good}
use Rattle.sn_consistency.proofs.retirement.list_stays_good.Goals as goal

pub returns : goal.returns
returns c = λ image nodes F f x e g m. retire_good image F f x e (λ j l. all_apart image e (f j) (m.above j l)) nodes g m.legal
