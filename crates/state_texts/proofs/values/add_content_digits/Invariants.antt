use Rattle.std.proofs.Common.{◌≡◌, ◌++◌}
use Rattle.state_json.specs.Json.{digits_below}
use Rattle.state_texts.proofs.values.add_content_digits.Given as goal

abbrev pub invariant-bytes : goal.invariant-bytes
invariant-bytes l = l.text.items ≡ l.initial.text.items ++ digits_below l.place l.content
