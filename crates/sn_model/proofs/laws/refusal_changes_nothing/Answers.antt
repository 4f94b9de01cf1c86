use Rattle.sn_model.proofs.Refusals.{refusal-changes_nothing}
use Rattle.sn_model.proofs.laws.refusal_changes_nothing.Goals as goal

pub returns : goal.returns
returns c = λ image config s event. (refusal-changes_nothing image config s event).unchanged
