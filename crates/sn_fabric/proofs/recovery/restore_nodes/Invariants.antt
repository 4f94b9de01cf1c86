use Rattle.std.proofs.Common.{◌≡◌, ℕ, ◌*◌, ◌^◌, ◌<◌, ◌≤◌, ◌++◌, map, take, drop}
use Rattle.std.specs.List.{sum_by}
use Rattle.sn_fabric.specs.Parts.{unit_at, home_at}
use Rattle.sn_fabric.specs.Recovery.{restored_unit, IsRestoredHome, undone_of}
use Rattle.sn_fabric.proofs.recovery.restore_nodes.Given as goal

-- the first nodes and homes are put back, and the others are as they were
abbrev pub invariant-nodes : goal.invariant-nodes
invariant-nodes l = record {
  units : l.units ≡ map (restored_unit l.k) (take l.place l.initial.units) ++ drop l.place l.initial.units;
  before : (n : ℕ) → n < l.place →
      IsRestoredHome (unit_at l.initial.units n).log.entries l.k (home_at l.initial.homes n) (home_at l.homes n);
  after : (n : ℕ) → l.place ≤ n → home_at l.homes n ≡ home_at l.initial.homes n;
  few : l.undone ≤ l.place * 2 ^ 16;
  undone : l.undone ≡ sum_by (undone_of l.k) (take l.place l.initial.units);
}
