use Rattle.std.proofs.Common.{ℕ, ◌≤◌, List, drop}
use Rattle.std.specs.Prelude.{Option}
use Rattle.sink_pieces.specs.Pieces.{ends}
use Rattle.sink_pieces.proofs.SoFar.{SoFar}
use Rattle.monitor_run.specs.Seen.{seen_pieces}
use Rattle.monitor_run.proofs.reporting.put_seen.Given as goal

abbrev pub invariant-marks : goal.invariant-marks
invariant-marks g l = record {
  put : (c : Option (List ℕ)) →
      SoFar (seen_pieces l.seen) (seen_pieces (drop l.mark-index l.seen)) (ends c (g.R.Sink.written l.initial.report))
      (ends c (g.R.Sink.written l.report));
  later : g.R.Sink.faults l.initial.report ≤ g.R.Sink.faults l.report;
}
