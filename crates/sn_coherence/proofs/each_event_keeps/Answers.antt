use Rattle.sn_coherence.proofs.each_event_keeps.Goals as goal
use Rattle.sn_coherence.proofs.Whole.{event_kept}

pub returns : goal.returns
returns c = event_kept
