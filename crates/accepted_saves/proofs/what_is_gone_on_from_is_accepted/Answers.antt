use Rattle.accepted_saves.proofs.Relations.{accepted_text}
use Rattle.accepted_saves.proofs.what_is_gone_on_from_is_accepted.Goals as goal

pub returns : goal.returns
returns c = accepted_text
