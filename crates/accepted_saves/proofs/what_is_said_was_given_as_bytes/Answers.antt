use Rattle.accepted_saves.proofs.SaidBytes.{said_bytes}
use Rattle.accepted_saves.proofs.what_is_said_was_given_as_bytes.Goals as goal

pub returns : goal.returns
returns c = said_bytes
