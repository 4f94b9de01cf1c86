use Rattle.fabric_bounds.proofs.Cuts.{cut_fits, takes_held}
use Rattle.fabric_bounds.proofs.laws.cuts_fit_the_sets.Goals as goal

pub returns-clause-fits : goal.returns-clause-fits
returns-clause-fits c = λ config s n k b l from. cut_fits config s b.0 b.1 b.2 n k l from

pub returns-clause-held : goal.returns-clause-held
returns-clause-held c = λ s n b k kept l low. takes_held s kept.0 n b k kept.1 l low
