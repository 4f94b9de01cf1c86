use Rattle.std.proofs.Common.{◌≡◌, ◌≤◌, length}
use Rattle.sink_pieces.specs.Pieces.{ends, after}
use Rattle.seed_runs.specs.Pieces.{seeds_pieces}
use Rattle.seed_runs.specs.Played.{AreOfSeeds}
use Rattle.seed_runs.proofs.group.put_slots.Given as goal

abbrev pub invariant-slots : goal.invariant-slots
invariant-slots g l = record {
  put : ends (g.C.Sink.written l.console) (g.R.Sink.written l.report)
      ≡ after (ends (g.C.Sink.written l.initial.console) (g.R.Sink.written l.initial.report)) (seeds_pieces l.job l.first_seed l.place);
  played : AreOfSeeds l.job l.first_seed l.slots;
  count : length l.slots ≡ length l.initial.slots;
  console_later : g.C.Sink.faults l.initial.console ≤ g.C.Sink.faults l.console;
  report_later : g.R.Sink.faults l.initial.report ≤ g.R.Sink.faults l.report;
}
