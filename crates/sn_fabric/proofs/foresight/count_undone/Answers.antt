use Rattle.std.proofs.Common.{◌≡◌, ◌+◌, ◌<◌, true, false, cond, length, sym, ◌∙◌, arith}
use Rattle.std.specs.Prelude.{nat_le}
use Rattle.std.proofs.lemmas.Bool.Decides.{nat_tests}
use Rattle.sn_fabric.proofs.Foreseen.{undone-more}
use Rattle.sn_fabric.proofs.foresight.count_undone.Goals as goal
use Rattle.sn_fabric.proofs.foresight.count_undone.Goals.{then-entry-k, else-entry-k}

pub places-preserved : goal.places-preserved
places-preserved c =
    let l : c.places.place < length c.args.log.now.entries = omega (arith, c.count-place-end.ensures) in
    elim c.if-entry-k.branch [
      | then-entry-k w ↦
          let t : nat_le c.args.k c.entry.result.now.interval ≡ true = let h = w.if-entry-k.true in grind (arith, nat_tests) in
          record {
            few = omega (arith, w.count-is, c.places.invariant.few);
            same =
                w.count-is
                ∙ undone-more c.args.log.now.entries c.places.place c.args.k c.places.count c.entry.result.now true l c.entry.ensures t c.places.invariant.same;
          }
      | else-entry-k w ↦
          let t : nat_le c.args.k c.entry.result.now.interval ≡ false = let h = w.if-entry-k.false in grind (arith, nat_tests) in
          let z : c.places.count + cond false 1 0 ≡ c.places.count = omega arith in
          record {
            few = omega (arith, w.count-is, c.places.invariant.few);
            same =
                w.count-is ∙ sym z
                ∙ undone-more c.args.log.now.entries c.places.place c.args.k c.places.count c.entry.result.now false l c.entry.ensures t c.places.invariant.same;
          }
    ]
