use Rattle.std.proofs.Common.{◌≡◌, ◌≤◌, length, take, reverse}
use Rattle.rv_statement.specs.Lines.{without_blanks}
use Rattle.rv_statement.proofs.line.trimmed_end.Given as goal

abbrev pub invariant-bytes : goal.invariant-bytes
invariant-bytes l = record {
  within : l.end ≤ length l.text;
  same : without_blanks (reverse (take l.end l.text)) ≡ without_blanks (reverse l.text);
}

abbrev pub decreases-bytes : goal.decreases-bytes
decreases-bytes l = l.end
