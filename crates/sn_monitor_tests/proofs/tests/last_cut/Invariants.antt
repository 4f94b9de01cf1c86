use Rattle.std.proofs.Common.{◌≡◌}
use Rattle.sn_monitor_tests.proofs.tests.last_cut.Given as goal

abbrev pub invariant-points : goal.invariant-points
invariant-points g l = l.monitored.machine.config ≡ l.initial.monitored.machine.config
