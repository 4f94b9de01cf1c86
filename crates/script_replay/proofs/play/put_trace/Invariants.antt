use Rattle.std.proofs.Common.{ℕ, ◌≤◌, List, take, drop, All}
use Rattle.std.specs.Prelude.{Option}
use Rattle.sn_text.specs.Written.{HasValues}
use Rattle.sink_pieces.specs.Pieces.{ends}
use Rattle.sink_pieces.proofs.SoFar.{SoFar}
use Rattle.script_replay.specs.Pieces.{trace_pieces}
use Rattle.script_replay.proofs.play.put_trace.Given as goal

abbrev pub invariant-records : goal.invariant-records
invariant-records g l = record {
  put : (c : Option (List ℕ)) →
      SoFar (trace_pieces l.records) (trace_pieces (drop l.taken-index l.records)) (ends c (g.R.Sink.written l.initial.report))
      (ends c (g.R.Sink.written l.report));
  values : All HasValues (take l.taken-index l.records);
  later : g.R.Sink.faults l.initial.report ≤ g.R.Sink.faults l.report;
}
