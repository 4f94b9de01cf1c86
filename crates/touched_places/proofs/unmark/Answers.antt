use Rattle.std.proofs.Common.{arith}
use Rattle.touched_places.proofs.Listing.{unmarked-all}
use Rattle.touched_places.proofs.unmark.Goals as goal

pub returns : goal.returns
returns c = unmarked-all c.args.marks.now.items c.places.marks.items c.args.places.now c.places.place-index (omega arith) c.places.invariant
