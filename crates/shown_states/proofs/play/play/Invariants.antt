use Rattle.std.proofs.Common.{◌≡◌, ◌≤◌}
use Rattle.sn_probe.specs.Probes.{meters_of}
use Rattle.sink_pieces.specs.Pieces.{Ends, ends, after}
use Rattle.shown_states.specs.Pieces.{report_piece, opening_text}
use Rattle.shown_states.specs.Played.{states_of}
use Rattle.shown_states.proofs.Played.{IsPlayed}
use Rattle.shown_states.proofs.play.play.Given as goal

abbrev pub invariant-events : goal.invariant-events
invariant-events g l =
    let before = meters_of (λ b. (goal.Probe-dyn g (b.vtable, b.value)).first b.value)
    (λ b. (goal.Probe-dyn g (b.vtable, b.value)).tally b.value)
    (λ b. (goal.Probe-dyn g (b.vtable, b.value)).step b.value) l.initial.probes.probes.items in
    let meters = meters_of (λ b. (goal.Probe-dyn g (b.vtable, b.value)).first b.value)
    (λ b. (goal.Probe-dyn g (b.vtable, b.value)).tally b.value)
    (λ b. (goal.Probe-dyn g (b.vtable, b.value)).step b.value) l.probes.probes.items in
    record {
      played : (start : Ends) → ends (g.C.Sink.written l.initial.console) (g.R.Sink.written l.initial.report)
          ≡ after start (report_piece (opening_text l.initial.machine.image l.initial.machine.config l.only l.initial.machine.applied
          l.initial.machine.state)) →
          IsPlayed (states_of l.initial.machine l.watch l.only l.events) before start l.event-index l.machine meters
          (ends (g.C.Sink.written l.console) (g.R.Sink.written l.report));
      console_later : g.C.Sink.faults l.initial.console ≤ g.C.Sink.faults l.console;
      report_later : g.R.Sink.faults l.initial.report ≤ g.R.Sink.faults l.report;
    }
