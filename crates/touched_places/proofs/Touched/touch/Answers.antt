use Rattle.std.proofs.Common.{◌≡◌, ◌<◌, true, false, length, sym, ◌∙◌, arith, length-set}
use Rattle.std.proofs.lemmas.List.{get_or_read}
use Rattle.touched_places.specs.Touched.{is_marked}
use Rattle.touched_places.proofs.Listing.{room-to_list, listed-more}
use Rattle.touched_places.proofs.Touched.touch.Goals as goal

-- a place that isn't marked has room in the list
pub unwrap-requires : goal.unwrap-requires
unwrap-requires c =
    let l : c.args.place < length c.self.inside.marks.items = rw c.self.view_is c.requires in
    let bare : is_marked c.self.inside.marks.items c.args.place
    ≡ false = sym (get_or_read c.self.inside.marks.items c.args.place c.index.result.now l c.index.ensures false)
    ∙ c.if-not-index.true in
    let r = room-to_list c.self.inside.marks.items c.self.inside.places.items c.args.place c.self.invariant.0 l bare in
    c.push.ensures.succeeds (omega (arith, r, c.self.invariant.1))

-- it is listed once
pub invariant_of-self : goal.invariant_of-self
invariant_of-self c =
    let l : c.args.place < length c.self.inside.marks.items = rw c.self.view_is c.requires in
    let bare : is_marked c.self.inside.marks.items c.args.place
    ≡ false = sym (get_or_read c.self.inside.marks.items c.args.place c.index.result.now l c.index.ensures false)
    ∙ c.if-not-index.true in
    let listed = listed-more c.self.inside.marks.items c.self.inside.places.items c.args.place c.self.invariant.0 l bare in (
      rw (c.push.ensures.items, c.unwrap.ensures) listed,
      omega (arith, length-set c.self.inside.marks.items c.args.place true, c.self.invariant.1, c.push.ensures.capacity),
    )
