use Rattle.std.proofs.Common.{◌≡◌, add-one, length, refl, take, slice_get, Some, subst, sym}
use Rattle.std.proofs.lemmas.Option.{slice_get_read}
use Rattle.access_check.specs.Legal.{memory_after_all}
use Rattle.access_check.specs.Blocks.{Shows}
use Rattle.access_check.proofs.Runs.{legal_more, after_more}
use Rattle.access_check.proofs.judging.count_legal.Goals as goal

pub accesses-preserved : goal.accesses-preserved
accesses-preserved c =
    let xs = c.args.accesses.now in
    let k = c.accesses.place in
    let a = c.index-accesses-place.result in
    let e : slice_get xs k ≡ Some a = slice_get_read xs (length xs) k a refl c.accesses-test.true c.index-accesses-place.is in
    record {
      wide = c.apply.ensures.wide;
      legal = λ m s.
          rw add-one (legal_more m xs k a e (c.accesses.invariant.legal m s)
          ((c.allows.ensures (memory_after_all m (take k xs)) (c.accesses.invariant.shows m s)).0 c.if-not-allows.false));
      shows = λ m s.
          rw add-one (subst (λ x. Shows c.apply.new.self x) (sym (after_more m xs k a e))
          (c.apply.ensures.shows (memory_after_all m (take k xs)) (c.accesses.invariant.shows m s)));
    }
