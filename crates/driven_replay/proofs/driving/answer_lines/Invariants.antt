use Rattle.std.proofs.Common.{◌≤◌, ◌≡◌}
use Rattle.sn_probe.specs.Probes.{meters_of}
use Rattle.sink_pieces.specs.Pieces.{ends}
use Rattle.driven_replay.specs.Driven.{source}
use Rattle.driven_replay.proofs.SoFar.{IsDriving}
use Rattle.driven_replay.proofs.driving.answer_lines.Given as goal

abbrev pub invariant-driving : goal.invariant-driving
invariant-driving g l =
    let before = meters_of (λ b. (goal.Probe-dyn g (b.vtable, b.value)).first b.value)
    (λ b. (goal.Probe-dyn g (b.vtable, b.value)).tally b.value)
    (λ b. (goal.Probe-dyn g (b.vtable, b.value)).step b.value) l.initial.probes.probes.items in
    let meters = meters_of (λ b. (goal.Probe-dyn g (b.vtable, b.value)).first b.value)
    (λ b. (goal.Probe-dyn g (b.vtable, b.value)).tally b.value)
    (λ b. (goal.Probe-dyn g (b.vtable, b.value)).step b.value) l.probes.probes.items in
    record {
      driving : IsDriving l.initial.machine l.showing before
          (ends (g.C.Sink.written l.initial.console) (g.R.Sink.written l.initial.report))
          (source (g.L.Lines.read l.initial.lines) (g.L.Lines.left l.initial.lines)) l.count
          l.machine l.driver l.kept meters
          (ends (g.C.Sink.written l.console) (g.R.Sink.written l.report))
          (source (g.L.Lines.read l.lines) (g.L.Lines.left l.lines));
      nodes : l.nodes ≡ l.initial.machine.config.nodes;
      source_later : g.L.Lines.faults l.initial.lines ≤ g.L.Lines.faults l.lines;
      console_later : g.C.Sink.faults l.initial.console ≤ g.C.Sink.faults l.console;
      report_later : g.R.Sink.faults l.initial.report ≤ g.R.Sink.faults l.report;
    }
