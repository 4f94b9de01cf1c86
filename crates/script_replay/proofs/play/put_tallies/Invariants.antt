use Rattle.std.proofs.Common.{ℕ, ◌≤◌, List, drop}
use Rattle.std.specs.Prelude.{Option}
use Rattle.sn_probe.specs.Probes.{meters_of, tallies_of}
use Rattle.sink_pieces.specs.Pieces.{ends}
use Rattle.sink_pieces.proofs.SoFar.{SoFar}
use Rattle.script_replay.specs.Pieces.{tally_pieces}
use Rattle.script_replay.proofs.play.put_tallies.Given as goal

abbrev pub invariant-probes : goal.invariant-probes
invariant-probes g l =
    let meters = meters_of (λ b. (goal.Probe-dyn g (b.vtable, b.value)).first b.value)
    (λ b. (goal.Probe-dyn g (b.vtable, b.value)).tally b.value)
    (λ b. (goal.Probe-dyn g (b.vtable, b.value)).step b.value) l.probes.probes.items in
    record {
      put : (c : Option (List ℕ)) →
          SoFar (tally_pieces l.before 0 (tallies_of meters)) (tally_pieces l.before l.probe (drop l.probe (tallies_of meters)))
          (ends c (g.R.Sink.written l.initial.report)) (ends c (g.R.Sink.written l.report));
      later : g.R.Sink.faults l.initial.report ≤ g.R.Sink.faults l.report;
    }
