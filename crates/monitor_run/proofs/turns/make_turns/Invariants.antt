use Rattle.monitor_run.specs.Stands.{Stands, IsReady, IsSameRun}
use Rattle.monitor_run.proofs.turns.make_turns.Given as goal

abbrev pub invariant-turns : goal.invariant-turns
invariant-turns g l = record {
  stands : Stands l.monitored l.turns;
  ready : IsReady l.monitored l.turns;
  same : IsSameRun l.initial.monitored l.initial.turns l.monitored l.turns;
}
