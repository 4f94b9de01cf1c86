use Rattle.std.proofs.Common.{ℕ, ◌≤◌, List, drop}
use Rattle.std.specs.Prelude.{Option}
use Rattle.sink_pieces.specs.Pieces.{ends}
use Rattle.sink_pieces.proofs.SoFar.{SoFar}
use Rattle.committed_accesses.specs.Cores.{AreGood}
use Rattle.committed_accesses.proofs.RowPieces.{pieces_from}
use Rattle.committed_accesses.proofs.rows.AccessRows.put_rows.Given as goal

abbrev pub invariant-records : goal.invariant-records
invariant-records g l = record {
  put : (c : Option (List ℕ)) →
      SoFar (pieces_from l.image l.initial.self.cores l.records) (pieces_from l.image l.self.cores (drop l.taken-index l.records))
      (ends c (g.R.Sink.written l.initial.report)) (ends c (g.R.Sink.written l.report));
  good : AreGood l.image l.self.cores (drop l.taken-index l.records);
  later : g.R.Sink.faults l.initial.report ≤ g.R.Sink.faults l.report;
}
