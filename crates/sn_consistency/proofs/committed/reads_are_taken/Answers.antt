use Rattle.sn_consistency.proofs.CommittedPart.{committed_reads, reads_begin}
use Rattle.sn_consistency.proofs.committed.reads_are_taken.Goals as goal

pub returns-clause-taken : goal.returns-clause-taken
returns-clause-taken c = committed_reads

pub returns-clause-first : goal.returns-clause-first
returns-clause-first c = reads_begin
