use Rattle.std.proofs.Common.{◌≡◌, ◌++◌, drop, false}
use Rattle.std.specs.Prelude.{map}
use Rattle.sn_machine.specs.Parts.{retirement_as}
use Rattle.state_parts.specs.Parts.{waiting_of}
use Rattle.state_json.specs.Json.{with_commas}
use Rattle.state_json.specs.Values.{record_text}
use Rattle.machine_states.proofs.node.add_each_waiting.Given as goal

abbrev pub invariant-records : goal.invariant-records
invariant-records l =
    l.text.items ++ with_commas l.others (map record_text (waiting_of l.node (map retirement_as (drop l.one-index l.records))))
    ≡ l.initial.text.items ++ with_commas false (map record_text (waiting_of l.node (map retirement_as l.records)))
