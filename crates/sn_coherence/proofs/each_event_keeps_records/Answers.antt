use Rattle.sn_coherence.proofs.each_event_keeps_records.Goals as goal
use Rattle.sn_coherence.proofs.WholeRecords.{event_recorded}

pub returns-clause-kept : goal.returns-clause-kept
returns-clause-kept c = event_recorded
