use Rattle.std.proofs.Common.{◌≡◌}
use Rattle.run_statistics.specs.Logs.{logs_with}
use Rattle.run_statistics.proofs.logs.LogStatistics.add_all.Given as goal

abbrev pub invariant-nodes : goal.invariant-nodes
invariant-nodes l = l.self ≡ logs_with l.initial.self l.number l.machine.state.fabric
