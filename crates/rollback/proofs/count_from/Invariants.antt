use Rattle.std.proofs.Common.{◌≡◌, ◌-◌, ◌^◌, min, length, take}
use Rattle.log_buffer.specs.Log.{entries_from}
use Rattle.rollback.proofs.count_from.Given as goal

abbrev pub invariant-places : goal.invariant-places
invariant-places g l = l.count ≡ min (length (entries_from l.k (take l.place (g.E.Entries.entries l.log)))) (2 ^ 32 - 1)
