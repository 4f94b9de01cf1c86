use Rattle.std.proofs.Common.{◌≡◌, drop, find}
use Rattle.rv_statement.specs.Reading.{rows, is_row}
use Rattle.rv_statement.proofs.rows.row_of.Given as goal

abbrev pub invariant-rows : goal.invariant-rows
invariant-rows l = find (is_row l.text) (drop l.place rows) ≡ find (is_row l.text) rows
