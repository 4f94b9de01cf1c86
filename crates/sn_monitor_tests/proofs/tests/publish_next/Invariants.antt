use Rattle.std.proofs.Common.{◌≡◌}
use Rattle.sn_monitor_tests.proofs.tests.publish_next.Given as goal

abbrev pub invariant-turns : goal.invariant-turns
invariant-turns g l = (l.monitored.machine.config ≡ l.initial.monitored.machine.config) × (l.monitored.board ≡ l.initial.monitored.board)
