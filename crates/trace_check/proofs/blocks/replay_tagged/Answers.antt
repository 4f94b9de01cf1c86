use Rattle.std.proofs.Common.{◌≡◌, ℕ, ◌+◌, ◌<◌, ◌≤◌, Bool, true, false, length, get_or, slice_get, take, Some, sym, subst, refl, ap}
use Rattle.std.proofs.Common.{◌∙◌, arith}
use Rattle.std.proofs.lemmas.Option.{slice_get_read}
use Rattle.std.proofs.lemmas.List.{length-set, get_or-replicate, get_or_default}
use Rattle.sn_base.specs.Image.{ImageData}
use Rattle.rv_core.specs.Core.{is_access}
use Rattle.rv_core.specs.Flat.{flat_start, core_at}
use Rattle.sn_consistency.specs.Projections.{core_after}
use Rattle.trace_check.specs.declared.cells.Cells.{Cells}
use Rattle.trace_check.specs.declared.cores.Slot.{Slot}
use Rattle.trace_check.specs.EffectData.{EffectData}
use Rattle.trace_check.specs.TaggedEffects.{effect_of}
use Rattle.trace_check.specs.CellPlaces.{IsWide, IsReplay, cell_at}
use Rattle.trace_check.specs.Tags.{tag_by, of_access, accesses_before, IsKeptAt}
use Rattle.trace_check.specs.Parts.{IsFitting}
use Rattle.trace_check.specs.Slots.{HasEffects, HasTag, access_place, own_before}
use Rattle.trace_check.proofs.Tagged.{some_same, accesses_few, one_or_none}
use Rattle.trace_check.proofs.OwnBefore.{own_set, next_set}
use Rattle.trace_check.proofs.BlockReplay.{IsPartReplayed, part_start, part_all, tagged_more, tagged_stops}
use Rattle.trace_check.proofs.blocks.replay_tagged.Goals as goal
use Rattle.trace_check.proofs.blocks.replay_tagged.Goals.{After-from-core}
use Rattle.trace_check.proofs.blocks.replay_tagged.Goals.{else-is_of-via-then-is_of+in_ok-replay_access+else-not-branch}
use Rattle.trace_check.proofs.blocks.replay_tagged.Goals.{else-is_of-via-else-is_of}

-- the record at the place, its core, and what is counted for it
found : (c : After-from-core) → slice_get c.args.records.now c.records.place ≡ Some c.index-records-place.result
found c = slice_get_read c.args.records.now (length c.args.records.now) c.records.place c.index-records-place.result refl (let w = c.requires.within in omega (arith, c.records-test.true, w)) c.index-records-place.is

core : (c : After-from-core) → c.from-core.result ≡ c.index-records-place.result.core
core c = c.from-core.ensures ∙ c.number.ensures.same

small : (c : After-from-core) → c.from-core.result < 16
small c = let s = c.number.ensures.small in let f = c.from-core.ensures in omega (arith, s, f)

inside : (c : After-from-core) → c.from-core.result < length c.args.slots.now
inside c =
    let h = c.requires.room.inside c.records.place c.index-records-place.result c.records-test.true (found c) in
    let e = core c in
    omega (arith, h, e)

own : (c : After-from-core) → get_or c.records.own c.from-core.result 0 ≡ own_before c.args.records.now c.index-records-place.result.core c.records.place
own c = c.records.invariant.own c.from-core.result (small c) ∙ ap (λ n. own_before c.args.records.now n c.records.place) (core c)

next : (c : After-from-core) (d : Slot) → get_or c.records.next c.from-core.result 0 ≡ access_place c.args.records.now c.records.place c.index-records-place.result (get_or c.args.slots.now c.index-records-place.result.core d)
next c d = c.records.invariant.next c.from-core.result d (small c) ∙ ap (λ n. accesses_before (get_or c.args.slots.now n d).tagged (own_before c.args.records.now n c.records.place)) (core c)

tag_room : (c : After-from-core) (d : Slot) → get_or c.records.own c.from-core.result 0 < length (get_or c.args.slots.now c.from-core.result d).tagged.tags.items
tag_room c d =
    let h = c.requires.room.room c.records.place c.index-records-place.result d c.records-test.true (found c) in
    let b = own c in
    subst (λ n. get_or c.records.own c.from-core.result 0 < length (get_or c.args.slots.now n d).tagged.tags.items) (sym (core c)) (omega (arith, b, h))

-- the tag that is read is the record's
abbrev IsRead : After-from-core → Slot → ℕ → Type 0
IsRead c slot tag = tag ≡ get_or (get_or c.args.slots.now c.from-core.result slot).tagged.tags.items (get_or c.records.own c.from-core.result 0) tag

tagged : (c : After-from-core) (slot : Slot) (tag : ℕ) → IsRead c slot tag → (d : Slot) →
    HasTag c.args.records.now c.records.place c.index-records-place.result (get_or c.args.slots.now c.index-records-place.result.core d) tag
tagged c slot tag is d =
    let i = get_or c.records.own c.from-core.result 0 in
    let v = get_or c.args.slots.now c.from-core.result slot in
    let s : slice_get v.tagged.tags.items i ≡ Some tag = slice_get_read v.tagged.tags.items (length v.tagged.tags.items) i tag refl (tag_room c slot) is in
    let x : v ≡ get_or c.args.slots.now c.from-core.result d = get_or_default c.args.slots.now c.from-core.result slot d (inside c) in
    subst (λ n. slice_get (get_or c.args.slots.now n d).tagged.tags.items (own_before c.args.records.now c.index-records-place.result.core c.records.place) ≡ Some tag) (core c)
    (subst (λ j. slice_get (get_or c.args.slots.now c.from-core.result d).tagged.tags.items j ≡ Some tag) (own c)
    (subst (λ y. slice_get y.tagged.tags.items i ≡ Some tag) x s))

access_room : (c : After-from-core) (slot : Slot) (tag : ℕ) → IsRead c slot tag → 0 < tag →
    get_or c.records.next c.from-core.result 0 < length (get_or c.args.slots.now c.from-core.result slot).tagged.accesses.items
access_room c slot tag is l =
    let h = c.requires.room.accesses c.records.place c.index-records-place.result slot tag c.records-test.true (found c) (tagged c slot tag is slot) l in
    let b = next c slot in
    subst (λ n. get_or c.records.next c.from-core.result 0 < length (get_or c.args.slots.now n slot).tagged.accesses.items) (sym (core c)) (omega (arith, b, h))

-- what it does, if it is an access, is the next that its core's slot has
same_place : (c : After-from-core) (slot : Slot) →
    slice_get (get_or c.args.slots.now c.from-core.result slot).tagged.accesses.items (get_or c.records.next c.from-core.result 0)
    ≡ slice_get (get_or c.args.slots.now c.index-records-place.result.core slot).tagged.accesses.items
    (access_place c.args.records.now c.records.place c.index-records-place.result (get_or c.args.slots.now c.index-records-place.result.core slot))
same_place c slot =
    ap (λ n. slice_get (get_or c.args.slots.now n slot).tagged.accesses.items (get_or c.records.next c.from-core.result 0)) (core c)
    ∙ ap (λ j. slice_get (get_or c.args.slots.now c.index-records-place.result.core slot).tagged.accesses.items j) (next c slot)

fitting : (c : After-from-core) (slot : Slot) (tag : ℕ) → IsRead c slot tag → (effect : EffectData) → 0 < tag →
    slice_get (get_or c.args.slots.now c.from-core.result slot).tagged.accesses.items (get_or c.records.next c.from-core.result 0) ≡ Some effect →
    (is_access effect.want ≡ true) × IsFitting effect c.index-records-place.result
fitting c slot tag is effect l e =
    c.requires.fits c.records.place c.index-records-place.result slot tag effect c.records-test.true (found c) (tagged c slot tag is slot) l (sym (same_place c slot) ∙ e)

-- the record's step, by its core alone
abbrev did : After-from-core → ImageData → ℕ → EffectData
did c image N = effect_of image (core_after image c.index-records-place.result.core (core_at (flat_start image N) c.index-records-place.result.core) (take c.records.place c.args.records.now)) c.index-records-place.result

kept : (c : After-from-core) (slot : Slot) (image : ImageData) (N : ℕ) → HasEffects image N c.args.part.count c.args.records.now c.args.count c.args.slots.now →
    IsKeptAt c.args.part.count (get_or c.args.slots.now c.index-records-place.result.core slot).tagged
    (own_before c.args.records.now c.index-records-place.result.core c.records.place) (did c image N)
kept c slot image N h = h c.records.place c.index-records-place.result slot c.records-test.true (found c)

tag_is : (c : After-from-core) (slot : Slot) (tag : ℕ) → IsRead c slot tag → (image : ImageData) (N : ℕ) →
    HasEffects image N c.args.part.count c.args.records.now c.args.count c.args.slots.now → tag ≡ tag_by c.args.part.count (did c image N).want
tag_is c slot tag is image N h =
    some_same (slice_get (get_or c.args.slots.now c.index-records-place.result.core slot).tagged.tags.items (own_before c.args.records.now c.index-records-place.result.core c.records.place))
    tag (tag_by c.args.part.count (did c image N).want) (tagged c slot tag is slot) (kept c slot image N h).tag

next_is : (c : After-from-core) (slot : Slot) (image : ImageData) (N : ℕ) →
    HasEffects image N c.args.part.count c.args.records.now c.args.count c.args.slots.now → is_access (did c image N).want ≡ true →
    slice_get (get_or c.args.slots.now c.from-core.result slot).tagged.accesses.items (get_or c.records.next c.from-core.result 0) ≡ Some (did c image N)
next_is c slot image N h a = same_place c slot ∙ (kept c slot image N h).access a

pub records-init : goal.records-init
records-init c = record {
  own_width = refl;
  own = λ n l. get_or-replicate 16 n 0 0 l;
  next_width = refl;
  next = λ n d l. get_or-replicate 16 n 0 0 l;
  wide = c.requires.wide;
  replayed = λ N h. part_start c.args.image.now N c.args.part.count c.args.part.number c.args.records.now c.args.cells.now c.requires.none;
}

pub bounds-slots-core : goal.bounds-slots-core
bounds-slots-core c = inside c

pub index-tag-requires : goal.index-tag-requires
index-tag-requires c =
    let at = (goal.at.index-tag-requires c).After-from-core in
    let h = tag_room at c.index-slots-core.result in
    let v = get_or c.args.slots.now c.from-core.result c.index-slots-core.result in
    let o = v.tagged.tags.ok.0 in
    omega (arith, h, o)

pub index-requires : goal.index-requires
index-requires c =
    let at = (goal.at.index-requires c).After-from-core in
    let t = c.is_of.ensures.0 c.if-is_of.true in
    let h = access_room at c.index-slots-core.result c.index-tag.result.now c.index-tag.ensures (omega (arith, t)) in
    let v = get_or c.args.slots.now c.from-core.result c.index-slots-core.result in
    let o = v.tagged.accesses.ok.0 in
    omega (arith, h, o)

-- the effect that is read
there : (c : After-from-core) (slot : Slot) (tag : ℕ) → IsRead c slot tag → 0 < tag → (effect : EffectData) →
    effect ≡ get_or (get_or c.args.slots.now c.from-core.result slot).tagged.accesses.items (get_or c.records.next c.from-core.result 0) effect →
    slice_get (get_or c.args.slots.now c.from-core.result slot).tagged.accesses.items (get_or c.records.next c.from-core.result 0) ≡ Some effect
there c slot tag is l effect e =
    slice_get_read (get_or c.args.slots.now c.from-core.result slot).tagged.accesses.items (length (get_or c.args.slots.now c.from-core.result slot).tagged.accesses.items)
    (get_or c.records.next c.from-core.result 0) effect refl (access_room c slot tag is l) e

pub replay_access-requires-clause-access : goal.replay_access-requires-clause-access
replay_access-requires-clause-access c =
    let at = (goal.at.replay_access-requires-clause-access c).After-from-core in
    let t = c.is_of.ensures.0 c.if-is_of.true in
    let l : 0 < c.index-tag.result.now = omega (arith, t) in
    (fitting at c.index-slots-core.result c.index-tag.result.now c.index-tag.ensures c.index.result.now l
    (there at c.index-slots-core.result c.index-tag.result.now c.index-tag.ensures l c.index.result.now c.index.ensures)).0

pub replay_access-requires-clause-fits : goal.replay_access-requires-clause-fits
replay_access-requires-clause-fits c =
    let at = (goal.at.replay_access-requires-clause-fits c).After-from-core in
    let t = c.is_of.ensures.0 c.if-is_of.true in
    let l : 0 < c.index-tag.result.now = omega (arith, t) in
    (fitting at c.index-slots-core.result c.index-tag.result.now c.index-tag.ensures c.index.result.now l
    (there at c.index-slots-core.result c.index-tag.result.now c.index-tag.ensures l c.index.result.now c.index.ensures)).1

-- what was read is what the record does
done : (c : After-from-core) (slot : Slot) (tag : ℕ) → IsRead c slot tag → 0 < tag → (effect : EffectData) →
    effect ≡ get_or (get_or c.args.slots.now c.from-core.result slot).tagged.accesses.items (get_or c.records.next c.from-core.result 0) effect →
    (found : Bool) (cells : Cells) → IsReplay c.args.image.now c.records.cells effect c.index-records-place.result found cells →
    (N : ℕ) → HasEffects c.args.image.now N c.args.part.count c.args.records.now c.args.count c.args.slots.now → is_access (did c c.args.image.now N).want ≡ true →
    IsReplay c.args.image.now c.records.cells (did c c.args.image.now N) c.index-records-place.result found cells
done c slot tag is l effect e found cells p N h a =
    subst (λ d. IsReplay c.args.image.now c.records.cells d c.index-records-place.result found cells)
    (some_same (slice_get (get_or c.args.slots.now c.from-core.result slot).tagged.accesses.items (get_or c.records.next c.from-core.result 0)) effect (did c c.args.image.now N)
    (there c slot tag is l effect e) (next_is c slot c.args.image.now N h a)) p

pub returns-then-not-branch : goal.returns-then-not-branch
returns-then-not-branch c =
    let at = (goal.at.returns-then-not-branch c).After-from-core in
    let image = c.args.image.now in
    let slot = c.index-slots-core.result in
    let tag = c.index-tag.result.now in
    let is = c.index-tag.ensures in
    let t = c.is_of.ensures.0 c.if-is_of.true in
    let l : 0 < tag = omega (arith, t) in
    λ N h.
    tagged_stops image N c.args.part.count c.args.part.number c.args.records.now c.records.place c.index-records-place.result (found at)
    c.records.cells c.replay_access.new.cells (c.records.invariant.replayed N h) tag (tag_is at slot tag is image N h) c.in_ok-replay_access.field-0
    (λ n. absurd (n t))
    (λ i a. done at slot tag is l c.index.result.now c.index.ensures c.in_ok-replay_access.field-0 c.replay_access.new.cells c.in_ok-replay_access.ensures.done N h a)
    c.args.count c.records-test.true c.if-not-branch.true

pub overflow_add-own : goal.overflow_add-own
overflow_add-own c =
    let at = (goal.at.overflow_add-own c).After-from-core in
    let h = tag_room at c.index-slots-core.result in
    let v = get_or c.args.slots.now c.from-core.result c.index-slots-core.result in
    let o = v.tagged.tags.ok.0 in
    let w = v.tagged.tags.ok.1 in
    let s = v.tagged.tags.small in
    omega (arith, h, o, w, s)

pub overflow_add-next : goal.overflow_add-next
overflow_add-next c =
    let at = (goal.at.overflow_add-next c).After-from-core in
    let slot = c.index-slots-core.result in
    let h = tag_room at slot in
    let v = get_or c.args.slots.now c.from-core.result slot in
    let o = v.tagged.tags.ok.0 in
    let w = v.tagged.tags.ok.1 in
    let s = v.tagged.tags.small in
    let k = own_before c.args.records.now c.index-records-place.result.core c.records.place in
    let few : access_place c.args.records.now c.records.place c.index-records-place.result (get_or c.args.slots.now c.index-records-place.result.core slot) ≤ k
    = accesses_few (get_or c.args.slots.now c.index-records-place.result.core slot).tagged.tags.items k in
    let n = next at slot in
    let b = own at in
    let less : get_or c.records.next c.from-core.result 0 ≤ get_or c.records.own c.from-core.result 0 = omega (arith, few, n, b) in
    let one : c.accesses.result ≤ 1 = subst (λ x. x ≤ 1) (sym c.accesses.ensures) (one_or_none (of_access c.index-tag.result.now)) in
    omega (arith, h, o, w, s, less, one)

pub records-preserved : goal.records-preserved
records-preserved c =
    let at = (goal.at.records-preserved c).After-from-core in
    let image = c.args.image.now in
    let slot = c.index-slots-core.result in
    let tag = c.index-tag.result.now in
    let is = c.index-tag.ensures in
    let core_is = core at in
    let rs = c.args.records.now in
    record {
      own_width = length-set c.records.own c.from-core.result (get_or c.records.own c.from-core.result 0 + 1) ∙ c.records.invariant.own_width;
      own = own_set rs c.records.place c.index-records-place.result (found at) c.from-core.result core_is c.records.own c.records.invariant.own_width c.records.invariant.own;
      next_width = length-set c.records.next c.from-core.result (get_or c.records.next c.from-core.result 0 + c.accesses.result) ∙ c.records.invariant.next_width;
      next = λ n d l. next_set rs c.records.place c.index-records-place.result (found at) c.from-core.result core_is c.args.slots.now tag c.accesses.result
          (tagged at slot tag is) c.accesses.ensures c.records.next c.records.invariant.next_width d (λ m h. c.records.invariant.next m d h) n l;
      wide = elim c.else-is_of.branch [
        | else-is_of-via-then-is_of+in_ok-replay_access+else-not-branch w ↦ subst IsWide (sym w.cells-is) w.replay_access.ensures.wide
        | else-is_of-via-else-is_of w ↦ subst IsWide (sym w.cells-is) c.records.invariant.wide
      ];
      replayed = λ N h. elim c.else-is_of.branch [
        | else-is_of-via-then-is_of+in_ok-replay_access+else-not-branch w ↦
            let t = c.is_of.ensures.0 w.if-is_of.true in
            let l : 0 < tag = omega (arith, t) in
            subst (λ x. IsPartReplayed image N c.args.part.count c.args.part.number rs (c.records.place + 1) (cell_at image x)) (sym w.cells-is)
            (tagged_more image N c.args.part.count c.args.part.number rs c.records.place c.index-records-place.result (found at)
            c.records.cells w.replay_access.new.cells (c.records.invariant.replayed N h) tag (tag_is at slot tag is image N h) w.in_ok-replay_access.field-0
            (λ n. absurd (n t))
            (λ i a. done at slot tag is l w.index.result.now w.index.ensures w.in_ok-replay_access.field-0 w.replay_access.new.cells w.in_ok-replay_access.ensures.done N h a)
            w.if-not-branch.false)
        | else-is_of-via-else-is_of w ↦
            subst (λ x. IsPartReplayed image N c.args.part.count c.args.part.number rs (c.records.place + 1) (cell_at image x)) (sym w.cells-is)
            (tagged_more image N c.args.part.count c.args.part.number rs c.records.place c.index-records-place.result (found at)
            c.records.cells c.records.cells (c.records.invariant.replayed N h) tag (tag_is at slot tag is image N h) true
            (λ n. (refl, λ b. refl)) (λ t a. let f : true ≡ false = sym (c.is_of.ensures.1 t) ∙ w.if-is_of.false in absurd (cc)) refl)
      ];
    }

pub returns : goal.returns
returns c = λ N h.
    part_all c.args.image.now N c.args.part.count c.args.part.number c.args.records.now c.records.place (cell_at c.args.image.now c.records.cells) (c.records.invariant.replayed N h)
    c.args.count (omega (arith, c.records-test.false, c.records.auto.place-end))
