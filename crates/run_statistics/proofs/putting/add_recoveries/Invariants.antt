use Rattle.std.proofs.Common.{◌≡◌, ◌+◌, ◌++◌, drop}
use Rattle.run_statistics.specs.Lines.{recovery_lines}
use Rattle.run_statistics.proofs.putting.add_recoveries.Given as goal

abbrev pub invariant-recoveries : goal.invariant-recoveries
invariant-recoveries l = record {
  text : l.text.items ++ recovery_lines l.number (drop l.recovery-index l.recoveries) ≡ l.initial.text.items ++ recovery_lines 1 l.recoveries;
  counted : l.number ≡ l.recovery-index + 1;
}
