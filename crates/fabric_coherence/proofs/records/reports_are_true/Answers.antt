use Rattle.std.proofs.Common.{subst}
use Rattle.sn_coherence.specs.Events.{IsReady}
use Rattle.fabric_coherence.specs.View.{block_seen}
use Rattle.fabric_coherence.proofs.Finished.{reported_finished}
use Rattle.fabric_coherence.proofs.Reports.{ready_above}
use Rattle.fabric_coherence.proofs.records.reports_are_true.Goals as goal

pub returns-clause-ready : goal.returns-clause-ready
returns-clause-ready c =
    λ s r n k kept l same. ready_above s kept.0 n k kept.1
    (λ b w. subst (IsReady (block_seen s kept.0 b) n) (same b w) ((kept.2 b w).reports.reported n))

pub returns-clause-finished : goal.returns-clause-finished
returns-clause-finished c = λ s r kept above. reported_finished s kept.0 kept.1 r kept.2 above
