use Rattle.std.proofs.Common.{ℕ, ◌≤◌, List, take, drop}
use Rattle.std.specs.Prelude.{Option}
use Rattle.sink_pieces.specs.Pieces.{ends}
use Rattle.sink_pieces.proofs.SoFar.{SoFar}
use Rattle.node_run.specs.Pieces.{journal_pieces}
use Rattle.node_run.specs.Reported.{HaveNumbers}
use Rattle.node_run.proofs.reporting.put_journal.Given as goal

abbrev pub invariant-turns : goal.invariant-turns
invariant-turns g l = record {
  put : (c : Option (List ℕ)) →
      SoFar (journal_pieces l.journal) (journal_pieces (drop l.entry-index l.journal)) (ends c (g.R.Sink.written l.initial.report))
      (ends c (g.R.Sink.written l.report));
  numbers : HaveNumbers (take l.entry-index l.journal);
  later : g.R.Sink.faults l.initial.report ≤ g.R.Sink.faults l.report;
}
