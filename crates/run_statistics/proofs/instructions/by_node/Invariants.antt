use Rattle.std.proofs.Common.{◌≡◌, drop}
use Rattle.std.specs.Prelude.{map}
use Rattle.sn_model.specs.Instructions.{records_of}
use Rattle.sn_machine.specs.Parts.{retirement_as}
use Rattle.run_statistics.specs.Numbers.{with_one_each}
use Rattle.run_statistics.specs.Records.{nodes_of}
use Rattle.run_statistics.specs.Instructions.{waiting_by_node}
use Rattle.run_statistics.proofs.instructions.by_node.Given as goal

abbrev pub invariant-records : goal.invariant-records
invariant-records l =
    with_one_each l.numbers (nodes_of (records_of (map retirement_as (drop l.one-index l.pending))))
    ≡ waiting_by_node (map retirement_as l.pending)
