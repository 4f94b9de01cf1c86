use Rattle.std.proofs.Common.{◌≡◌, ◌<◌, ◌^◌, drop}
use Rattle.sn_text.specs.Digits.{number_from, if_below}
use Rattle.sn_text.proofs.numbers.digits_in.Given as goal

abbrev pub invariant-digits : goal.invariant-digits
invariant-digits l = record {
  same : if_below (2 ^ 64) (number_from l.number (drop l.byte-index l.text)) ≡ if_below (2 ^ 64) (number_from 0 l.text);
  fits : l.number < 2 ^ 64;
}
