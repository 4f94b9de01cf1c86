use Rattle.state_parts.proofs.Others.{others-stay}
use Rattle.state_json.proofs.Untold.{texts-stay}
use Rattle.state_json.proofs.untold_texts_are_as_they_were.Goals as goal

pub returns : goal.returns
returns c = λ image config s event. texts-stay image _ s _ (others-stay image config s event)
