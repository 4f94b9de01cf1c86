use Rattle.std.proofs.Common.{◌≡◌, ◌++◌, drop}
use Rattle.std.specs.List.{flat_map}
use Rattle.text_lines.specs.Hex.{hex_byte}
use Rattle.state_texts.proofs.json.add_all_digits.Given as goal

abbrev pub invariant-bytes : goal.invariant-bytes
invariant-bytes l =
    l.text.items ++ flat_map hex_byte (drop l.number-index l.numbers) ≡ l.initial.text.items ++ flat_map hex_byte l.numbers
