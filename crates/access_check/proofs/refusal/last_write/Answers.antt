use Rattle.std.proofs.Common.{◌≡◌, suc, add-one, length, refl, take, slice_get, Some, subst, sym, ◌∙◌}
use Rattle.std.proofs.lemmas.Option.{slice_get_read}
use Rattle.access_check.specs.Verdicts.{IsLast, writes_into}
use Rattle.access_check.proofs.Lasts.{last_here, last_before}
use Rattle.access_check.proofs.refusal.last_write.Goals as goal
use Rattle.access_check.proofs.refusal.last_write.Goals.{then-writes_into, else-writes_into}

pub earlier-preserved : goal.earlier-preserved
earlier-preserved c =
    let test = writes_into c.args.access.now in
    let xs = c.args.before.now in
    let k = c.earlier.place in
    let a = c.index-before-place.result in
    let e : slice_get xs k ≡ Some a = slice_get_read xs (length xs) k a refl c.earlier-test.true c.index-before-place.is in
    rw add-one (elim c.if-writes_into.branch [
      | then-writes_into w ↦
          subst (λ q. IsLast test (take (suc k) xs) q) (sym (w.last-is ∙ add-one k))
          (last_here test xs k a e (sym c.writes_into.ensures ∙ w.if-writes_into.true))
      | else-writes_into w ↦
          subst (λ q. IsLast test (take (suc k) xs) q) (sym w.last-is)
          (last_before test xs k a e c.earlier.last c.earlier.invariant (sym c.writes_into.ensures ∙ w.if-writes_into.false))
    ])
