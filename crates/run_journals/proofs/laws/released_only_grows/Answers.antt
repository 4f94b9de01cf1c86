use Rattle.run_journals.proofs.Released.{released-grows}
use Rattle.run_journals.proofs.laws.released_only_grows.Goals as goal

pub returns : goal.returns
returns c = released-grows
