use Rattle.std.proofs.Common.{◌≤◌, ◌<◌, ◌-◌, length}
use Rattle.std.specs.List.{AllWithin}
use Rattle.monitor_run.specs.declared.marks.Mark.{Mark}
use Rattle.monitor_run.proofs.marks.first_from.Given as goal

abbrev pub invariant-looks : goal.invariant-looks
invariant-looks l = record {
  onward : l.initial.place ≤ l.place;
  below : AllWithin (λ (m : Mark). m.point < l.point) l.looks l.initial.place l.place;
}

abbrev pub decreases-looks : goal.decreases-looks
decreases-looks l = length l.looks - l.place
