use Rattle.accepted_saves.proofs.Short.{short_enough}
use Rattle.accepted_saves.proofs.what_is_saved_is_short_enough.Goals as goal

pub returns : goal.returns
returns c = short_enough
