use Rattle.std.proofs.Common.{◌<◌, ◌≤◌, take, length, All, vec_capacity}
use Rattle.std.specs.List.{Contains}
use Rattle.monitor_run.specs.declared.marks.Mark.{Mark}
use Rattle.monitor_run.specs.Seen.{IsSomeOf}
use Rattle.monitor_run.proofs.Looked.{IsPassed, AreTakenUpTo}
use Rattle.monitor_run.proofs.marks.take_looked.Given as goal

abbrev pub invariant-marks : goal.invariant-marks
invariant-marks l = record {
  some : IsSomeOf l.seen.items (take l.mark-index l.published);
  above : All (λ (m : Mark). 0 < m.point) l.seen.items;
  looked : All (λ (m : Mark). Contains l.looks m) l.seen.items;
  passed : IsPassed l.published l.looks l.mark-index l.place;
  all : AreTakenUpTo l.published l.looks l.mark-index l.seen.items;
  few : length l.seen.items ≤ l.mark-index;
  room : vec_capacity l.initial.seen ≤ vec_capacity l.seen;
}
