use Rattle.std.proofs.Common.{◌≡◌, ◌++◌, drop, false}
use Rattle.std.specs.Prelude.{map}
use Rattle.state_json.specs.Json.{with_commas}
use Rattle.state_json.specs.Values.{entry_text}
use Rattle.state_texts.proofs.values.add_entries.Given as goal

abbrev pub invariant-entries : goal.invariant-entries
invariant-entries g l =
    l.text.items ++ with_commas l.others (map entry_text (drop l.place (g.E.Entries.entries l.log)))
    ≡ l.initial.text.items ++ with_commas false (map entry_text (g.E.Entries.entries l.log))
