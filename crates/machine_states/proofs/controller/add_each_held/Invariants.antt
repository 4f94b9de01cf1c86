use Rattle.std.proofs.Common.{◌≡◌, ◌++◌, drop, false}
use Rattle.std.specs.Prelude.{map}
use Rattle.sn_machine.specs.Parts.{held_as}
use Rattle.state_json.specs.Json.{with_commas}
use Rattle.state_json.specs.Values.{held_text}
use Rattle.machine_states.proofs.controller.add_each_held.Given as goal

abbrev pub invariant-bytes : goal.invariant-bytes
invariant-bytes l =
    l.text.items ++ with_commas l.others (map held_text (map held_as (drop l.one-index l.held)))
    ≡ l.initial.text.items ++ with_commas false (map held_text (map held_as l.held))
