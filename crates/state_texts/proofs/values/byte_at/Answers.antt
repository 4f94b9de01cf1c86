use Rattle.std.proofs.Common.{◌∙◌, ap, get_or}
use Rattle.text_lines.specs.Hex.{hex_byte}
use Rattle.state_texts.proofs.Registers.{byte-there}
use Rattle.state_texts.proofs.values.byte_at.Goals as goal

pub returns : goal.returns
returns c =
    ap (λ t. hex_byte (get_or t 0 0)) c.to_le_bytes.ensures ∙ byte-there c.args.content.now c.args.place c.load.result c.load.ensures
