use Rattle.std.proofs.Common.{◌≡◌, ℕ, ◌<◌, ◌∙◌, false, take, length, ap, arith}
use Rattle.std.proofs.Math.Seq.{take-length}
use Rattle.std.proofs.lemmas.Option.{get_or_from_slice_get}
use Rattle.log_buffer.specs.Log.{is_home_side}
use Rattle.rollback.specs.Unwound.{is_changed, content_unwound}
use Rattle.rollback.proofs.Steps.{back_more, back_over, back_between, back_last, was_false, was_true}
use Rattle.std.proofs.lemmas.Bool.Decides.{nat_tests}
use Rattle.rollback.proofs.put_back_oldest.Goals as goal
use Rattle.rollback.proofs.put_back_oldest.Goals.{then-entry-k+then-is_oldest, else-entry-k, else-entry-k-via-then-entry-k+else-is_oldest}
use Rattle.rollback.proofs.put_back_oldest.Goals.{else-entry-k-via-else-entry-k}

pub put_back-requires : goal.put_back-requires
put_back-requires g c =
    let es = g.E.Entries.entries c.args.log.now in
    let s = g.T.Restore.home_side in
    let first = g.T.Restore.holds c.args.target.now in
    let l : c.places.place < length es = omega (arith, c.count-place-end.ensures) in
    let o : is_changed (take c.places.place es) (is_home_side c.entry-entry.result.now.old) c.entry-entry.result.now.block c.args.k
    ≡ false = was_false _ _ (c.is_oldest.ensures c.entry-entry.result.now c.entry-entry.ensures) c.if-is_oldest.true in
    let a = c.places.invariant.room first
    (c.requires.fits c.places.place c.entry-entry.result.now l
    (rw
    (get_or_from_slice_get es c.places.place c.entry-entry.result.now c.entry-entry.result.now c.entry-entry.ensures) c.if-entry-k.true)) in
    let z = c.places.invariant.room (content_unwound es s c.args.k first) c.requires.last in
    g.met.T.Restore.way c.places.target first (content_unwound es s c.args.k first) _ a z
    (back_between es c.places.place c.args.k c.entry-entry.result.now s first
    (g.T.Restore.holds c.places.target) l c.entry-entry.ensures c.requires.growing c.if-entry-k.true o c.requires.gone c.places.invariant.held)

pub places-preserved : goal.places-preserved
places-preserved g c =
    let es = g.E.Entries.entries c.args.log.now in
    let e = c.entry-entry.result.now in
    let s = g.T.Restore.home_side in
    let first = g.T.Restore.holds c.args.target.now in
    let now = g.T.Restore.holds c.places.target in
    let l : c.places.place < length es = omega (arith, c.count-place-end.ensures) in
    elim c.if-entry-k.branch [
      | then-entry-k+then-is_oldest w ↦ rw w.target-is (record {
        held =
            λ b. back_more es c.places.place c.args.k e s b first now
            (g.T.Restore.holds w.put_back.new.self) l c.entry-entry.ensures c.requires.growing w.if-entry-k.true
            (was_false _ _ (w.is_oldest.ensures e c.entry-entry.ensures) w.if-is_oldest.true) (c.places.invariant.held b) (w.put_back.ensures.held b);
        room = λ map h. w.put_back.ensures.room map (c.places.invariant.room map h);
        stays =
            g.met.T.Restore.stays_trans c.args.target.now c.places.target w.put_back.new.self c.places.invariant.stays w.put_back.ensures.stays;
      })
      | else-entry-k w ↦ rw w.target-is (record {
        held = λ b. back_over es c.places.place c.args.k e s b first now l c.entry-entry.ensures
            (elim w.else-entry-k.branch [
              | else-entry-k-via-then-entry-k+else-is_oldest v ↦ λ t. was_true _ _ (v.is_oldest.ensures e c.entry-entry.ensures) v.if-is_oldest.false
              | else-entry-k-via-else-entry-k v ↦ λ t. absurd (let h = v.if-entry-k.false in grind (arith, nat_tests))
            ])
            (c.places.invariant.held b);
        room = c.places.invariant.room;
        stays = c.places.invariant.stays;
      })
    ]

pub returns-clause-held : goal.returns-clause-held
returns-clause-held g c = λ b.
    let es = g.E.Entries.entries c.args.log.now in
    let m : c.places.place ≡ length es = omega (arith, c.count-place-end.ensures) in
    let t : take c.places.place es ≡ es = ap (λ (n : ℕ). take n es) m ∙ take-length es in
    back_last es c.args.k g.T.Restore.home_side b (g.T.Restore.holds c.args.target.now) (g.T.Restore.holds c.places.target)
    (rw t at (c.places.invariant.held b))
