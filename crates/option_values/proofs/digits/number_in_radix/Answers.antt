use Rattle.std.proofs.Common.{◌∙◌, sym}
use Rattle.option_values.proofs.Numerals.{read_as}
use Rattle.option_values.proofs.digits.number_in_radix.Goals as goal

pub returns : goal.returns
returns c =
    c.ok.ensures.value ∙ read_as c.args.radix c.args.text.now c.from_str_radix.result
    (sym c.if-has_plus.false ∙ c.has_plus.ensures) c.from_str_radix.ensures.value
