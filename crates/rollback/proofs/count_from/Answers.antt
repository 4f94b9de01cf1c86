use Rattle.std.proofs.Common.{◌≡◌, ◌<◌, true, false, length, ◌∙◌, arith}
use Rattle.std.specs.Prelude.{nat_le}
use Rattle.std.proofs.lemmas.Bool.Decides.{nat_tests}
use Rattle.rollback.proofs.Changed.{count-more}
use Rattle.rollback.proofs.count_from.Goals as goal
use Rattle.rollback.proofs.count_from.Goals.{then-entry-k, else-entry-k}

pub places-preserved : goal.places-preserved
places-preserved g c =
    let l : c.places.place < length (g.E.Entries.entries c.args.log.now) = omega (arith, c.count-place-end.ensures) in
    elim c.if-entry-k.branch [
      | then-entry-k w ↦
          let t : nat_le c.args.k c.entry.result.now.interval ≡ true = let h = w.if-entry-k.true in grind (arith, nat_tests) in
          w.count-is ∙ w.saturating_add-count.ensures
          ∙ count-more
          (g.E.Entries.entries c.args.log.now) c.places.place c.args.k c.places.count c.entry.result.now true l c.entry.ensures t c.places.invariant
      | else-entry-k w ↦
          let t : nat_le c.args.k c.entry.result.now.interval ≡ false = let h = w.if-entry-k.false in grind (arith, nat_tests) in
          w.count-is ∙ count-more
          (g.E.Entries.entries c.args.log.now) c.places.place c.args.k c.places.count c.entry.result.now false l c.entry.ensures t c.places.invariant
    ]
