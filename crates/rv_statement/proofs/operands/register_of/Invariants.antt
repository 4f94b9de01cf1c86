use Rattle.std.proofs.Common.{◌≡◌, drop}
use Rattle.rv_statement.specs.Operands.{register_names, register_from}
use Rattle.rv_statement.proofs.operands.register_of.Given as goal

abbrev pub invariant-numbers : goal.invariant-numbers
invariant-numbers l = register_from l.number (drop l.number register_names) l.text ≡ register_from 0 register_names l.text
