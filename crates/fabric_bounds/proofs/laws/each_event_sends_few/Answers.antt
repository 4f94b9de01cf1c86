use Rattle.fabric_bounds.proofs.Numbers.{event_sends}
use Rattle.fabric_bounds.proofs.laws.each_event_sends_few.Goals as goal

pub returns : goal.returns
returns c = λ config s event k may. event_sends config s k.0 event k.1 may
