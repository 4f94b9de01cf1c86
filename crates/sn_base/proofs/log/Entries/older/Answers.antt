use Rattle.std.proofs.Common.{◌<◌, ◌∙◌, length, sym, arith}
use Rattle.sn_base.proofs.LastPlace.{last_place-found, last_place-passed}
use Rattle.sn_base.proofs.log.Entries.older.Goals as goal
use Rattle.sn_base.proofs.log.Entries.older.Goals.{then-is_about, else-is_about}

pub places-preserved : goal.places-preserved
places-preserved g c =
    let es = g.Self.Entries.entries c.args.self.now in
    let i = c.places.before in
    let e = c.entry.result.now in
    let s = c.is_home_side-home_side.result in
    let b = c.entry-entry.result.now.block in
    let l : i < length es = omega (arith, c.requires) in
    elim c.if-is_about.branch [
      | then-is_about w ↦ last_place-found es i e s b _ l c.entry.ensures (sym c.is_about.ensures ∙ w.if-is_about.true) w.found-is
      | else-is_about w ↦
          last_place-passed es i e s b _ c.places.found l c.entry.ensures (sym c.is_about.ensures ∙ w.if-is_about.false) c.places.invariant w.found-is
    ]
