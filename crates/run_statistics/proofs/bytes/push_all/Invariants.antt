use Rattle.std.proofs.Common.{◌≡◌, ◌++◌, drop}
use Rattle.std.specs.Prelude.{map}
use Rattle.sn_machine.specs.Parts.{held_as}
use Rattle.run_statistics.specs.Bytes.{puts_at}
use Rattle.run_statistics.proofs.bytes.push_all.Given as goal

abbrev pub invariant-bytes : goal.invariant-bytes
invariant-bytes l =
    l.held ++ puts_at l.number l.node (map held_as (drop l.byte-index l.bytes))
    ≡ l.initial.held ++ puts_at l.number l.node (map held_as l.bytes)
