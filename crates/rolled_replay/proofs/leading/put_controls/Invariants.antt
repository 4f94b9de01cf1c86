use Rattle.std.proofs.Common.{◌≡◌, ℕ, ◌+◌, ◌≤◌, List, drop}
use Rattle.std.specs.Prelude.{Option}
use Rattle.sink_pieces.specs.Pieces.{ends}
use Rattle.sink_pieces.proofs.SoFar.{SoFar}
use Rattle.rolled_replay.specs.Pieces.{control_pieces}
use Rattle.rolled_replay.specs.Stages.{IsNumbered, machine_of, stage_after}
use Rattle.rolled_replay.proofs.leading.put_controls.Given as goal

abbrev pub invariant-controls : goal.invariant-controls
invariant-controls g l = record {
  place : l.place ≡ l.control-index;
  numbers : IsNumbered l.stage (l.control-index + 1);
  sizes : (machine_of l.stage).config ≡ (machine_of l.initial.stage).config;
  last : stage_after l.stage (drop l.control-index l.controls) ≡ stage_after l.initial.stage l.controls;
  put : (c : Option (List ℕ)) →
      SoFar (control_pieces 0 l.initial.stage l.controls) (control_pieces l.control-index l.stage (drop l.control-index l.controls))
      (ends c (g.R.Sink.written l.initial.report)) (ends c (g.R.Sink.written l.report));
  later : g.R.Sink.faults l.initial.report ≤ g.R.Sink.faults l.report;
}
