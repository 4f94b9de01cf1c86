use Rattle.std.proofs.Common.{◌≡◌, ◌+◌, ◌<◌, suc, length, get_or, refl, subst, ap, ◌∙◌, take, arith}
use Rattle.std.proofs.lemmas.Option.{slice_get_read}
use Rattle.sn_base.specs.Image.{byte_at}
use Rattle.home_directory.proofs.Starts.{nothing_more}
use Rattle.home_directory.proofs.start.are_zero.Goals as goal

-- one segment more gives nothing
pub segments-preserved : goal.segments-preserved
segments-preserved c = λ a l m.
    let segments = c.args.image.now.segments in
    let k = c.segments.segment-index in
    let s = c.segment-item.result in
    let inside : k < length segments = let e : length c.segments-segment-items.result.now
    ≡ length segments = ap length c.segments-segment-items.ensures.same in omega (arith, e, c.segments-test.true) in
    let read : s ≡ get_or segments k s = c.segment-item.is ∙ ap (λ x. get_or x k s) c.segments-segment-items.ensures.same in
    let e : suc k ≡ k + 1 = omega arith in
    subst (λ n. byte_at (take n segments) a ≡ 0) e
    (nothing_more segments k s a (slice_get_read segments (length segments) k s refl inside read)
    (c.gives_none.ensures c.if-not-gives_none.false a l m) (c.segments.invariant a l m))
