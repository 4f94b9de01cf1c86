use Rattle.std.proofs.Common.{◌≡◌, ◌*◌, ◌^◌, ◌≤◌, take}
use Rattle.std.specs.List.{sum_by}
use Rattle.sn_fabric.specs.Recovery.{undone_of}
use Rattle.sn_fabric.proofs.foresight.count_all_undone.Given as goal

-- so many entries of the first logs are undone
abbrev pub invariant-units : goal.invariant-units
invariant-units l = record {
  few : l.undone ≤ l.unit-index * 2 ^ 16;
  same : l.undone ≡ sum_by (undone_of l.k) (take l.unit-index l.units);
}
