use Rattle.std.proofs.Common.{◌≡◌, ◌<◌, ◌^◌, drop}
use Rattle.rv_statement.specs.Operands.{digits_from}
use Rattle.rv_statement.proofs.operands.digits_of.Given as goal

abbrev pub invariant-digits : goal.invariant-digits
invariant-digits l = record {
  same : digits_from l.base l.number (drop l.byte-index l.text) ≡ digits_from l.base 0 l.text;
  small : l.number < 16 ^ l.byte-index;
}
