use Rattle.std.proofs.Common.{◌≡◌, ◌≤◌}
use Rattle.rolling_recovery.specs.Parts.{blocks_below}
use Rattle.rolling_recovery.proofs.parts.part_size.Given as goal

abbrev pub invariant-numbers : goal.invariant-numbers
invariant-numbers l = record { count : l.count ≡ blocks_below l.number l.machine l.node; few : l.count ≤ l.number }
