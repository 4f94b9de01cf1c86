use Rattle.std.proofs.Common.{◌∙◌}
use Rattle.sn_console.specs.Ends.{SameOutbox}
use Rattle.shared_machine.specs.Shared.{begins_with}
use Rattle.runs_tests.proofs.tests.turns.a_run_ends_once_its_program_is_over_or_its_budget_is_spent.Given as goal

abbrev pub ghosts-turns-L-Ledger : goal.ghosts-turns-L-Ledger
ghosts-turns-L-Ledger g a = record { name = a.blank.name; parts = a.blank.parts }

abbrev pub ghosts-turns-L-RunName : goal.ghosts-turns-L-RunName
ghosts-turns-L-RunName g a = record {
  began = begins_with a.shared;
  of_ring = λ p. SameOutbox a.outbox p;
  keeps = λ p q h s. ((s.0.0 ∙ h.0.0, s.0.1 ∙ h.0.1, s.0.2 ∙ h.0.2, s.0.3 ∙ h.0.3), s.1 ∙ h.1);
}
