use Rattle.state_parts.proofs.Others.{others-stay}
use Rattle.state_parts.proofs.other_parts_are_as_they_were.Goals as goal

pub returns : goal.returns
returns c = λ image config s event. others-stay image config s event
