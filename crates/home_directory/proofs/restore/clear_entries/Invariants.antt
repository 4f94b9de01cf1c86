use Rattle.std.proofs.Common.{drop}
use Rattle.home_directory.proofs.Listing.{AreClearing}
use Rattle.home_directory.proofs.restore.clear_entries.Given as goal

-- the entries of the places that are left are still to be cleared
abbrev pub invariant-places : goal.invariant-places
invariant-places l = AreClearing l.initial.entries l.entries (drop l.place-index l.place-items)
