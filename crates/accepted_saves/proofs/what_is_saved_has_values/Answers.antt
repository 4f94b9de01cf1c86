use Rattle.accepted_saves.proofs.Values.{values}
use Rattle.accepted_saves.proofs.what_is_saved_has_values.Goals as goal

pub returns : goal.returns
returns c = values
