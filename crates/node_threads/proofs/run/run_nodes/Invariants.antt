use Rattle.std.proofs.Common.{◌∙◌}
use base.Stored.{Coded-set, coded_ℕ}
use denote.RawPtr.{coded_ptr}
use Rattle.sn_console.specs.Ends.{SameOutbox}
use Rattle.shared_machine.specs.Shared.{begins_with}
use Rattle.node_threads.proofs.run.run_nodes.Given as goal

abbrev pub ghosts-run_named-L-Ledger : goal.ghosts-run_named-L-Ledger
ghosts-run_named-L-Ledger g a = record { name = a.blank.name; parts = a.blank.parts }

abbrev pub ghosts-run_named-L-RunName : goal.ghosts-run_named-L-RunName
ghosts-run_named-L-RunName g a = record {
  began = begins_with a.shared;
  of_ring = λ p. SameOutbox a.outbox p;
  keeps = λ p q h s. ((s.0.0 ∙ h.0.0, s.0.1 ∙ h.0.1, s.0.2 ∙ h.0.2, s.0.3 ∙ h.0.3), s.1 ∙ h.1);
}
