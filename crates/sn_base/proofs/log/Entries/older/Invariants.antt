use Rattle.std.proofs.Common.{◌≡◌, take}
use Rattle.sn_base.specs.Entries.{last_place}
use Rattle.sn_base.proofs.log.Entries.older.Given as goal

-- what was found is the last of the entries so far
abbrev pub invariant-places : goal.invariant-places
invariant-places g l = l.found ≡ last_place (take l.before (g.Self.Entries.entries l.self)) l.home_side l.entry.block
