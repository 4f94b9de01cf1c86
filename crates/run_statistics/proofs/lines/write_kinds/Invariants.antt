use Rattle.std.proofs.Common.{◌≡◌, ◌≤◌, ◌+◌, ◌*◌, ◌++◌, length}
use Rattle.run_statistics.specs.Lines.{kind_names, named_lines}
use Rattle.run_statistics.proofs.lines.write_kinds.Given as goal

abbrev pub invariant-places : goal.invariant-places
invariant-places l = record {
  text : l.line ≡ l.initial.line ++ named_lines kind_names l.x.sent l.place;
  short : length l.line ≤ length l.initial.line + 64 * l.place;
}
