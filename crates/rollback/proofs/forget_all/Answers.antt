use Rattle.std.proofs.Common.{◌<◌, length, arith}
use Rattle.rollback.proofs.Steps.{forget_more, forget_over, earlier_place}
use Rattle.rollback.proofs.forget_all.Goals as goal
use Rattle.rollback.proofs.forget_all.Goals.{then-entry-k, else-entry-k}

pub places-preserved : goal.places-preserved
places-preserved g c =
    let es = g.E.Entries.entries c.args.log.now in
    let l : c.places.place < length es = omega (arith, c.count-place-end.ensures) in
    elim c.if-entry-k.branch [
      | then-entry-k w ↦ rw w.target-is (record {
        held =
            λ b. forget_more es c.places.place c.args.k c.entry-entry.result.now g.T.Restore.home_side b
            (g.T.Restore.holds c.args.target.now) (g.T.Restore.holds c.places.target) (g.T.Restore.holds w.forget.new.self)
            l c.entry-entry.ensures w.if-entry-k.true (c.places.invariant.held b) (w.forget.ensures.held b);
        fits = λ i d m r. w.forget.ensures.fits;
        room = λ map h. w.forget.ensures.room map (c.places.invariant.room map h);
        stays =
            g.met.T.Restore.stays_trans c.args.target.now c.places.target w.forget.new.self c.places.invariant.stays w.forget.ensures.stays;
      })
      | else-entry-k w ↦ rw w.target-is (record {
        held =
            λ b. forget_over es c.places.place c.args.k c.entry-entry.result.now g.T.Restore.home_side b
            (g.T.Restore.holds c.args.target.now) (g.T.Restore.holds c.places.target)
            l c.entry-entry.ensures w.if-entry-k.false (c.places.invariant.held b);
        fits =
            λ i d m r. c.places.invariant.fits i d
            (earlier_place es c.places.place c.args.k i c.entry-entry.result.now d c.entry-entry.ensures w.if-entry-k.false m r) r;
        room = c.places.invariant.room;
        stays = c.places.invariant.stays;
      })
    ]
