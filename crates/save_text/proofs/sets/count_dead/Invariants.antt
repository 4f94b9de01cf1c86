use Rattle.std.proofs.Common.{◌≡◌, ◌≤◌, length}
use Rattle.std.specs.Prelude.{filter}
use Rattle.std.specs.List.{range_with_len}
use Rattle.route_plan.specs.Distances.{is_dead}
use Rattle.save_text.proofs.sets.count_dead.Given as goal

abbrev pub invariant-switches : goal.invariant-switches
invariant-switches l = record {
  count : l.count ≡ length (filter (is_dead l.dead) (range_with_len 0 l.number));
  few : l.count ≤ l.number;
}
