use Rattle.std.proofs.Common.{◌≡◌, ◌+◌, ◌≤◌, drop, length}
use Rattle.std.specs.Prelude.{map}
use Rattle.machine_states.specs.Parts.{retirement_as}
use Rattle.state_parts.specs.Parts.{waiting_of}
use Rattle.state_lines.proofs.recovery.count_of.Given as goal

abbrev pub invariant-records : goal.invariant-records
invariant-records l = record {
  same :
      l.count + length (waiting_of l.node (map retirement_as (drop l.one-index l.records)))
      ≡ length (waiting_of l.node (map retirement_as l.records));
  few : l.count ≤ l.one-index;
}
