use Rattle.std.proofs.Common.{◌≡◌, suc, add-one, length, refl, take, slice_get, Some, subst, sym, ◌∙◌}
use Rattle.std.proofs.lemmas.Option.{slice_get_read}
use Rattle.access_check.specs.Verdicts.{IsLast, ends_reservation}
use Rattle.access_check.proofs.Lasts.{last_here, last_before}
use Rattle.access_check.proofs.refusal.last_end.Goals as goal
use Rattle.access_check.proofs.refusal.last_end.Goals.{then-ends_reservation, else-ends_reservation}

pub earlier-preserved : goal.earlier-preserved
earlier-preserved c =
    let test = ends_reservation c.args.core c.args.block in
    let xs = c.args.before.now in
    let k = c.earlier.place in
    let a = c.index-before-place.result in
    let e : slice_get xs k ≡ Some a = slice_get_read xs (length xs) k a refl c.earlier-test.true c.index-before-place.is in
    rw add-one (elim c.if-ends_reservation.branch [
      | then-ends_reservation w ↦
          subst (λ q. IsLast test (take (suc k) xs) q) (sym (w.last-is ∙ add-one k))
          (last_here test xs k a e (sym c.ends_reservation.ensures ∙ w.if-ends_reservation.true))
      | else-ends_reservation w ↦
          subst (λ q. IsLast test (take (suc k) xs) q) (sym w.last-is)
          (last_before test xs k a e c.earlier.last c.earlier.invariant (sym c.ends_reservation.ensures ∙ w.if-ends_reservation.false))
    ])
