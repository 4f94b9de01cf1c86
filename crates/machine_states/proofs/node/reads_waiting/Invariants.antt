use Rattle.std.proofs.Common.{◌≡◌, ◌+◌, ◌≤◌, drop, length}
use Rattle.std.specs.Prelude.{map}
use Rattle.rv_core.specs.Execution.{in_of}
use Rattle.sn_model.specs.Instructions.{records_of}
use Rattle.sn_machine.specs.Parts.{retirement_as}
use Rattle.machine_states.proofs.node.reads_waiting.Given as goal

abbrev pub invariant-records : goal.invariant-records
invariant-records l = record {
  same :
      l.count + length (in_of l.node (records_of (map retirement_as (drop l.one-index l.records))))
      ≡ length (in_of l.node (records_of (map retirement_as l.records)));
  few : l.count ≤ l.one-index;
}
