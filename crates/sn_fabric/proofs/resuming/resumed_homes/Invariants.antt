use Rattle.std.proofs.Common.{◌≡◌, ℕ, ◌<◌, length}
use Rattle.sn_fabric.specs.Parts.{home_at}
use Rattle.sn_fabric.specs.Resumed.{IsHomeWith}
use Rattle.sn_fabric.proofs.resuming.resumed_homes.Given as goal

abbrev pub invariant-nodes : goal.invariant-nodes
invariant-nodes l = record {
  count : length l.homes.items ≡ l.number;
  homes : (n : ℕ) → n < l.number → IsHomeWith n l.nodes l.contents l.owners (home_at l.homes.items n);
}
