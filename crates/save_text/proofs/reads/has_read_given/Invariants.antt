use Rattle.std.proofs.Common.{◌≡◌, ◌≤◌, drop, length}
use Rattle.rv_core.specs.Execution.{in_of}
use Rattle.sn_saved.specs.Saved.{given_to, begins_with}
use Rattle.save_text.proofs.reads.has_read_given.Given as goal

abbrev pub invariant-records : goal.invariant-records
invariant-records l = record {
  same : begins_with (given_to (drop l.from l.given) l.node) (in_of l.node (drop l.place l.records))
      ≡ begins_with (given_to l.given l.node) (in_of l.node l.records);
  within : l.from ≤ length l.given;
}
