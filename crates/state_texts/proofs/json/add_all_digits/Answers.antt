use Rattle.std.proofs.Common.{◌∙◌, sym, ap, ◌++◌, drop, ◌+◌}
use Rattle.std.specs.List.{flat_map}
use Rattle.text_lines.specs.Hex.{hex_byte}
use Rattle.state_texts.proofs.Lists.{flat-more, flat-end}
use Rattle.state_texts.proofs.json.add_all_digits.Goals as goal

pub bytes-preserved : goal.bytes-preserved
bytes-preserved c =
    ap (λ t. t ++ flat_map hex_byte (drop (c.bytes.number-index + 1) c.args.numbers.now)) c.in_ok-add_digits.ensures
    ∙ sym (flat-more hex_byte c.bytes.text.items c.args.numbers.now c.bytes.number-index 0 c.bytes-test.true)
    ∙ c.bytes.invariant

pub returns : goal.returns
returns c = sym (flat-end hex_byte c.bytes.text.items c.args.numbers.now c.bytes.number-index c.bytes-test.false) ∙ c.bytes.invariant
