use Rattle.std.proofs.Common.{◌≡◌, drop}
use Rattle.rv_statement.specs.Lines.{without_blanks}
use Rattle.rv_statement.proofs.line.skipped.Given as goal

abbrev pub invariant-bytes : goal.invariant-bytes
invariant-bytes l = without_blanks (drop l.i l.text) ≡ without_blanks l.text
