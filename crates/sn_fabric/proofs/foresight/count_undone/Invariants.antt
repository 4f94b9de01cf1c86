use Rattle.std.proofs.Common.{◌≡◌, ◌≤◌, length, take}
use Rattle.log_buffer.specs.Log.{entries_from}
use Rattle.sn_fabric.proofs.foresight.count_undone.Given as goal

-- so many of the first entries are undone
abbrev pub invariant-places : goal.invariant-places
invariant-places l = record {
  few : l.count ≤ l.place;
  same : l.count ≡ length (entries_from l.k (take l.place l.log.entries));
}
