use Rattle.std.proofs.Common.{◌≡◌, ◌≤◌, ◌+◌, ◌*◌, ◌++◌, drop, length}
use Rattle.sn_text.specs.Text.{registers_text}
use Rattle.sn_text.proofs.line.Line.registers.Given as goal

abbrev pub invariant-registers : goal.invariant-registers
invariant-registers l = record {
  same : l.self ++ registers_text (l.i + 1) (drop l.i l.values) ≡ l.initial.self ++ registers_text 1 l.values;
  short : length l.self ≤ length l.initial.self + 14 * l.i;
}
