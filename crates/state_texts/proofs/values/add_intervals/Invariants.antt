use Rattle.std.proofs.Common.{◌≡◌, ◌++◌, drop, false}
use Rattle.std.specs.Prelude.{map, decimal}
use Rattle.state_json.specs.Json.{with_commas}
use Rattle.state_texts.proofs.values.add_intervals.Given as goal

abbrev pub invariant-nodes : goal.invariant-nodes
invariant-nodes l =
    l.text.items ++ with_commas l.others (map decimal (drop l.interval-index l.intervals))
    ≡ l.initial.text.items ++ with_commas false (map decimal l.intervals)
