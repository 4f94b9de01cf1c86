use Rattle.std.proofs.Common.{◌≡◌, drop}
use Rattle.rv_statement.specs.Operands.{all_in_name}
use Rattle.rv_statement.proofs.operands.all_in_name.Given as goal

abbrev pub invariant-bytes : goal.invariant-bytes
invariant-bytes l = all_in_name (drop l.byte-index l.text) ≡ all_in_name l.text
