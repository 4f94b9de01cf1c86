use Rattle.std.proofs.Common.{◌≤◌, length}
use Rattle.sn_probe.specs.Probes.{meters_of}
use Rattle.sink_pieces.specs.Pieces.{ends}
use Rattle.script_replay.specs.Scheduled.{left_on}
use Rattle.script_replay.proofs.Playing.{IsPlaying}
use Rattle.script_replay.proofs.play.play.Given as goal

abbrev pub invariant-events : goal.invariant-events
invariant-events g l =
    let before = meters_of (λ b. (goal.Probe-dyn g (b.vtable, b.value)).first b.value)
    (λ b. (goal.Probe-dyn g (b.vtable, b.value)).tally b.value)
    (λ b. (goal.Probe-dyn g (b.vtable, b.value)).step b.value) l.initial.probes.probes.items in
    let meters = meters_of (λ b. (goal.Probe-dyn g (b.vtable, b.value)).first b.value)
    (λ b. (goal.Probe-dyn g (b.vtable, b.value)).tally b.value)
    (λ b. (goal.Probe-dyn g (b.vtable, b.value)).step b.value) l.probes.probes.items in
    record {
      playing : IsPlaying l.initial.machine l.showing (left_on (g.S.Schedule.left l.initial.schedule) l.initial.machine) before
          (ends (g.C.Sink.written l.initial.console) (g.R.Sink.written l.initial.report))
          l.machine (left_on (g.S.Schedule.left l.schedule) l.machine) meters
          (ends (g.C.Sink.written l.console) (g.R.Sink.written l.report));
      serves : g.S.Schedule.serves l.schedule l.initial.machine.config.nodes;
      console_later : g.C.Sink.faults l.initial.console ≤ g.C.Sink.faults l.console;
      report_later : g.R.Sink.faults l.initial.report ≤ g.R.Sink.faults l.report;
    }

-- each turn leaves one event less
abbrev pub decreases-events : goal.decreases-events
decreases-events g l = length (left_on (g.S.Schedule.left l.schedule) l.machine)
