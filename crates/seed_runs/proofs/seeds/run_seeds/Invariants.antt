use Rattle.std.proofs.Common.{◌≡◌, ◌-◌, ◌≤◌}
use Rattle.sink_pieces.specs.Pieces.{ends, after}
use Rattle.seed_runs.specs.Pieces.{seeds_pieces}
use Rattle.seed_runs.proofs.seeds.run_seeds.Given as goal

abbrev pub invariant-groups : goal.invariant-groups
invariant-groups g l = record {
  put : ends (g.C.Sink.written l.console) (g.R.Sink.written l.report)
      ≡ after (ends (g.C.Sink.written l.initial.console) (g.R.Sink.written l.initial.report)) (seeds_pieces l.job l.job.first l.place);
  within : l.place ≤ l.seeds;
  console_later : g.C.Sink.faults l.initial.console ≤ g.C.Sink.faults l.console;
  report_later : g.R.Sink.faults l.initial.report ≤ g.R.Sink.faults l.report;
}

abbrev pub decreases-groups : goal.decreases-groups
decreases-groups g l = l.seeds - l.place
