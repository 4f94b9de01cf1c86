use Rattle.std.proofs.Common.{◌≡◌, ◌+◌, ◌++◌, drop, false}
use Rattle.state_json.specs.Json.{with_commas}
use Rattle.state_json.specs.Values.{register_texts}
use Rattle.state_texts.proofs.values.add_registers.Given as goal

abbrev pub invariant-registers : goal.invariant-registers
invariant-registers l =
    l.text.items ++ with_commas l.others (register_texts (l.i + 1) (drop l.i l.values))
    ≡ l.initial.text.items ++ with_commas false (register_texts 1 l.values)
