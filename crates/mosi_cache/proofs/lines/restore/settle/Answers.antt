use Rattle.std.proofs.Common.{◌≡◌, ℕ, ◌+◌, ◌*◌, ◌<◌, [], length, drop, set, sym, ap, subst, ◌∙◌, arith}
use Rattle.std.specs.Prelude.{slice_index_or}
use Rattle.std.proofs.lemmas.List.{get_or_default}
use Rattle.cache_array.specs.Slots.{FrameSlots, AreSlots}
use Rattle.sn_model.specs.declared.cache.LineState.TheVariants.{Absent}
use Rattle.mosi_cache.specs.Unshared.{as_modified}
use Rattle.mosi_cache.proofs.Unshared.{AreSettling, settling-more, settling-all}
use Rattle.mosi_cache.proofs.lines.restore.settle.Goals as goal

-- there are as many frames as before
same_count : (c : goal.After-kept-1) → length c.frames.frames.slots ≡ length c.args.frames.now.slots
same_count c =
    c.frames.invariant.slots.whole
    ∙ ap (λ (n : ℕ). n * c.frames.frames.ways) c.frames.invariant.sets
    ∙ ap (λ (n : ℕ). c.args.frames.now.sets * n) c.frames.invariant.ways
    ∙ sym c.requires.slots.whole

-- one frame more is settled
pub frames-preserved : goal.frames-preserved
frames-preserved c =
    let places = c.places-frame-items.result.now in
    let i = c.frames.frame-index in
    let frame = slice_index_or places i 0 in
    let line = c.index_mut-line.result.now in
    let kept = c.frames.kept.items in
    let inside = c.places-frame-items.ensures.inside i 0 c.frames-test.true in
    let m : frame < length kept = omega (arith, inside, c.requires.settled.whole, c.frames.invariant.whole) in
    let l : frame < length c.frames.frames.slots = omega (arith, inside, c.requires.settled.whole, c.requires.whole, same_count c) in
    subst (λ (now : FrameSlots). AreSettling c.args.frames.now now c.args.kept.now.items (set kept frame (as_modified line)) (drop (i + 1) places))
    (sym c.free_if_shared.ensures.freed)
    (settling-more c.args.frames.now c.frames.frames c.args.kept.now.items kept places i frame line c.frames.invariant c.frames-test.true
    (get_or_default places i 0 frame c.frames-test.true) l m
    (c.index_mut-line.ensures.value ∙ get_or_default kept frame line (record { state = Absent; content = [] }) m)
    (subst (λ (now : FrameSlots). AreSlots now) c.free_if_shared.ensures.freed c.free_if_shared.ensures.slots))

-- what isn't listed was settled before
pub returns : goal.returns
returns c =
    settling-all c.args.frames.now c.frames.frames c.args.kept.now.items c.frames.kept.items c.places-frame-items.result.now c.frames.frame-index
    c.frames-test.false c.frames.invariant
