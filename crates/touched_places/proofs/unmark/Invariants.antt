use Rattle.std.proofs.Common.{drop}
use Rattle.touched_places.proofs.Listing.{AreUnmarked}
use Rattle.touched_places.proofs.unmark.Given as goal

-- the marks of the places that are left are still to be taken away
abbrev pub invariant-places : goal.invariant-places
invariant-places l = AreUnmarked l.initial.marks.items l.marks.items (drop l.place-index l.places)
