use Rattle.std.proofs.Common.{sym, ◌∙◌, arith}
use Rattle.std.proofs.lemmas.Bool.Decides.{nat_tests}
use Rattle.sn_text.proofs.Digits.{number_of-tested}
use Rattle.sn_text.proofs.numbers.number_in.Goals as goal

pub returns : goal.returns
returns c = c.digits_in.ensures ∙ sym (number_of-tested c.args.text.now (grind (arith, nat_tests)) c.else-text-eq48.either)
