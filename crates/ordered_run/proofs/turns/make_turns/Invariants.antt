use Rattle.std.proofs.Common.{◌-◌, ◌≤◌, length}
use Rattle.sn_console.specs.Handed.{IsHandedOn}
use Rattle.run_journals.specs.Journal.{events_of}
use Rattle.run_statistics.specs.Counted.{Counts}
use Rattle.ordered_run.specs.Stands.{Stands, IsReady, IsSameRun}
use Rattle.ordered_run.proofs.turns.make_turns.Given as goal

abbrev pub invariant-turns : goal.invariant-turns
invariant-turns g l = record {
  stands : Stands l.course;
  ready : IsReady l.course;
  counts : Counts l.count l.course.machine (events_of l.course.journal.items);
  same : IsSameRun l.initial.course l.course;
  put : IsHandedOn l.initial.course.machine.state.released l.course.machine.state.released (g.C.Sink.written l.initial.console)
      (g.C.Sink.written l.console);
  later : g.C.Sink.faults l.initial.console ≤ g.C.Sink.faults l.console;
}

abbrev pub decreases-turns : goal.decreases-turns
decreases-turns g l = l.course.budget - length l.course.journal.items
