use Rattle.std.proofs.Common.{◌≡◌, ◌≤◌, drop}
use Rattle.sn_probe.specs.Probes.{meters_of}
use Rattle.sink_pieces.specs.Pieces.{ends}
use Rattle.script_replay.specs.Played.{after_events, since}
use Rattle.script_replay.proofs.Playing.{IsPlaying}
use Rattle.script_replay.proofs.turns.put_turns.Given as goal

abbrev pub invariant-events : goal.invariant-events
invariant-events g l =
    let before = meters_of (λ b. (goal.Probe-dyn g (b.vtable, b.value)).first b.value)
    (λ b. (goal.Probe-dyn g (b.vtable, b.value)).tally b.value)
    (λ b. (goal.Probe-dyn g (b.vtable, b.value)).step b.value) l.initial.probes.probes.items in
    let meters = meters_of (λ b. (goal.Probe-dyn g (b.vtable, b.value)).first b.value)
    (λ b. (goal.Probe-dyn g (b.vtable, b.value)).tally b.value)
    (λ b. (goal.Probe-dyn g (b.vtable, b.value)).step b.value) l.probes.probes.items in
    record {
      playing : IsPlaying (since l.before l.initial.machine) l.showing l.events before
          (ends (g.C.Sink.written l.initial.console) (g.R.Sink.written l.initial.report))
          (since l.before l.machine) (drop l.event-index l.events) meters
          (ends (g.C.Sink.written l.console) (g.R.Sink.written l.report));
      machine : after_events l.machine (drop l.event-index l.events) ≡ after_events l.initial.machine l.events;
      counted : l.before ≤ l.machine.applied;
      console_later : g.C.Sink.faults l.initial.console ≤ g.C.Sink.faults l.console;
      report_later : g.R.Sink.faults l.initial.report ≤ g.R.Sink.faults l.report;
    }
