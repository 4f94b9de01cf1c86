-- From the cores' replays to what the records do.
use Rattle.std.proofs.Common.{◌≡◌, ℕ, zero, suc, ◌<◌, ◌≤◌, ◌⊎◌, inl, inr, Bool, true, false, cond, ◌==◌, is_ok, Result, Ok, Err, List}
use Rattle.std.proofs.Common.{[], ◌∷◌, take, length, get_or, slice_get, Some, refl, sym, ap, subst, ◌∙◌, arith}
use Rattle.std.specs.Prelude.{IfOk}
use Rattle.std.proofs.lemmas.Bool.Decides.{nat_tests}
use Rattle.std.proofs.lemmas.Bool.{cases_order}
use Rattle.std.proofs.lemmas.Option.{slice_get_within}
use Rattle.sn_base.specs.Image.{ImageData}
use Rattle.sn_base.specs.declared.memory.Memory.{Memory}
use Rattle.rv_core.specs.declared.state.CoreState.{CoreState}
use Rattle.rv_core.specs.declared.step.Record.{Record}
use Rattle.rv_core.specs.Core.{start_of, is_access}
use Rattle.rv_core.specs.Flat.{flat_start, core_at}
use Rattle.rv_core.proofs.CoreLaws.{want_inside, write_fits}
use Rattle.sn_consistency.specs.Words.{next}
use Rattle.sn_consistency.specs.Projections.{CoreGood, core_after, records_of}
use Rattle.projection_places.specs.Passes.{Passes, CoresPass, BlocksPass}
use Rattle.projection_places.proofs.Fronts.{core_fewer}
use Rattle.projection_places.proofs.Least.{all_done, first_refused}
use Rattle.sn_consistency.proofs.Start.{start_shows}
use Rattle.trace_check.specs.Verdict.{IsReplayedTo}
use Rattle.trace_check.specs.declared.cores.Slot.{Slot}
use Rattle.trace_check.specs.EffectData.{EffectData}
use Rattle.trace_check.specs.TaggedEffects.{effect_of, core_effects}
use Rattle.trace_check.specs.Tags.{AreKept, IsKeptAt, tag_by}
use Rattle.trace_check.specs.Slots.{AreReplayed, AreInside, IsPassed, HasSlots, HasEffects, HasTag, access_place, own_before}
use Rattle.trace_check.specs.Parts.{AreFitting, IsFitting}
use Rattle.trace_check.proofs.CorePlaces.{core_of, inside_fewer, inside_from}
use Rattle.trace_check.proofs.Tagged.{access_tag, kept_at, some_same}

-- the effect of a core's record stands where as many of the core's are before it
core_effect_at : (image : ImageData) (n : ℕ) (c : CoreState) (rs : List Record) (m k : ℕ) (r : Record) → k < m → slice_get rs k ≡ Some r → n ≡ r.core →
    slice_get (core_effects image n c (take m rs)) (own_before rs n k) ≡ Some (effect_of image (core_after image n c (take k rs)) r)
core_effect_at image n c [] m k r l e i = absurd (cc)
core_effect_at image n c (x ∷ rs) zero k r l e i = absurd (omega (arith, l))
core_effect_at image n c (x ∷ rs) (suc m) zero r l e i =
    let j : x ≡ r = cc in
    let t : (n == x.core) ≡ true = let f : n ≡ x.core = i ∙ sym (ap (λ y. y.core) j) in grind (arith, nat_tests) in
    ap (λ q. slice_get (cond q (effect_of image c x ∷ core_effects image n (next image c x) (take m rs)) (core_effects image n c (take m rs))) 0) t
    ∙ ap (λ y. Some (effect_of image c y)) j
core_effect_at image n c (x ∷ rs) (suc m) (suc k) r l e i = go (n == x.core) (λ d. core_effect_at image n d rs m k r (omega (arith, l)) e i)
  where
    go : (q : Bool) → ((d : CoreState) → slice_get (core_effects image n d (take m rs)) (own_before rs n k) ≡ Some (effect_of image (core_after image n d (take k rs)) r)) →
        slice_get (cond q (effect_of image c x ∷ core_effects image n (next image c x) (take m rs)) (core_effects image n c (take m rs)))
        (length (cond q (x ∷ records_of n (take k rs)) (records_of n (take k rs))))
        ≡ Some (effect_of image (core_after image n (cond q (next image c x) c) (take k rs)) r)
    go true h = h (next image c x)
    go false h = h c

record Done (image : ImageData) (N parts n : ℕ) (rs : List Record) (slot : Slot) : Type 0 where
  count : ℕ
  passes : Passes (IsPassed image N n rs) (length rs) count
  tagged : AreKept parts (core_effects image n (core_at (flat_start image N) n) (take count rs)) slot.tagged

module _
    (image : ImageData) (N parts : ℕ) (rs : List Record) (slots : List Slot) (replayed : AreReplayed image N parts rs slots)
    (done : (n : ℕ) (d : Slot) → n < N → is_ok (get_or slots n d).passed ≡ true)
    (q : ℕ) (cores : Passes (CoresPass image N (flat_start image N) rs) (length rs) q) where
  done_in : (n : ℕ) → n < N → (slot : Slot) (core : ℕ) → core ≡ n → (passed : Result ℕ Memory) → is_ok passed ≡ true →
      IfOk passed (λ p. Passes (IsPassed image N core rs) (length rs) p
      × AreKept parts (core_effects image core (start_of core image.entry) (take p rs)) slot.tagged) → Done image N parts n rs slot
  done_in n l slot core e (Ok p) t h =
      let i : core_at (flat_start image N) n ≡ start_of n image.entry = core_of image N n l in
      let g = subst (λ x. Passes (IsPassed image N x rs) (length rs) p × AreKept parts (core_effects image x (start_of x image.entry) (take p rs)) slot.tagged) e h in
      record {
        count = p;
        passes = g.0;
        tagged = subst (λ x. AreKept parts (core_effects image n x (take p rs)) slot.tagged) (sym i) g.1;
      }
  done_in n l slot core e (Err m) t h = absurd (cc)

  of_core : (n : ℕ) (d : Slot) → n < N → Done image N parts n rs (get_or slots n d)
  of_core n d l = let h = replayed.each n d l in done_in n l (get_or slots n d) (get_or slots n d).core h.0 (get_or slots n d).passed (done n d l) h.1

  inside : AreInside N rs q
  inside = inside_from image N (core_at (flat_start image N)) rs q cores.good

  enough : (n : ℕ) → n < N → (slot : Slot) (p : Done image N parts n rs slot) → q ≤ p.count
  enough n m slot p = go (cases_order q p.count)
    where
      go : ((q ≡ p.count) ⊎ ((q < p.count) ⊎ (p.count < q))) → q ≤ p.count
      go (inl e) = omega (arith, e)
      go (inr (inl l)) = omega (arith, l)
      go (inr (inr l)) =
          let w = cores.within in
          absurd (p.passes.bad (omega (arith, l, w)) (
            inside_fewer N rs (suc p.count) q (omega (arith, l)) inside,
            subst (λ c. CoreGood image N n c (take (suc p.count) rs)) (core_of image N n m)
                (core_fewer image N n (core_at (flat_start image N) n) rs (suc p.count) q (omega (arith, l)) (cores.good n)),
          ))

  module _ (k : ℕ) (r : Record) (l : k < q) (e : slice_get rs k ≡ Some r) where
    abbrev effect : EffectData
    effect = effect_of image (core_after image r.core (core_at (flat_start image N) r.core) (take k rs)) r

    kept_there : (d : Slot) → IsKeptAt parts (get_or slots r.core d).tagged (own_before rs r.core k) effect
    kept_there d =
        let p = of_core r.core d (inside k r l e) in
        let w = enough r.core (inside k r l e) (get_or slots r.core d) p in
        kept_at parts (core_effects image r.core (core_at (flat_start image N) r.core) (take p.count rs)) (get_or slots r.core d).tagged p.tagged
        (own_before rs r.core k) effect (core_effect_at image r.core (core_at (flat_start image N) r.core) rs p.count k r (omega (arith, l, w)) e refl)

    access_there : (d : Slot) (tag : ℕ) → HasTag rs k r (get_or slots r.core d) tag → 0 < tag →
        (is_access effect.want ≡ true) × (slice_get (get_or slots r.core d).tagged.accesses.items (access_place rs k r (get_or slots r.core d)) ≡ Some effect)
    access_there d tag h g =
        let a = kept_there d in
        let i = some_same (slice_get (get_or slots r.core d).tagged.tags.items (own_before rs r.core k)) tag (tag_by parts effect.want) h a.tag in
        let c = access_tag parts effect.want (subst (λ x. 0 < x) i g) in
        (c, a.access c)

  pub has_room : HasSlots slots rs q
  has_room = record {
    inside = λ k r l e. let h = inside k r l e in let c = replayed.count in omega (arith, h, c);
    room = λ k r d l e. slice_get_within (get_or slots r.core d).tagged.tags.items (own_before rs r.core k) _ (kept_there k r l e d).tag;
    accesses = λ k r d tag l e h g. slice_get_within (get_or slots r.core d).tagged.accesses.items (access_place rs k r (get_or slots r.core d)) _ (access_there k r l e d tag h g).1;
  }

  pub has_tagged : HasEffects image N parts rs q slots
  has_tagged = λ k r d l e. kept_there k r l e d

  pub are_fitting : AreFitting rs q slots
  are_fitting = λ k r d tag did l e h g f.
      let a = access_there k r l e d tag h g in
      let c = core_after image r.core (core_at (flat_start image N) r.core) (take k rs) in
      let i = some_same (slice_get (get_or slots r.core d).tagged.accesses.items (access_place rs k r (get_or slots r.core d))) did (effect_of image c r) f a.1 in
      subst (λ x. (is_access x.want ≡ true) × IsFitting x r) (sym i) (a.0, (want_inside image c, write_fits image c r.seen r.sc_done r.read))

-- what holds of a result holds of it in other words
pub if_ok : {A E : Type 0} (x : Result A E) (P Q : A → Type 0) → ((a : A) → P a → Q a) → IfOk x P → IfOk x Q
if_ok (Ok a) P Q f h = f a h
if_ok (Err e) P Q f h = h

pub is_done : (image : ImageData) (N : ℕ) (rs : List Record) (q p : ℕ) → Passes (CoresPass image N (flat_start image N) rs) (length rs) q →
    Passes (BlocksPass image (flat_start image N) rs) q p → IsReplayedTo image N rs p
is_done image N rs q p cores blocks = record {
  within = let a = cores.within in let b = blocks.within in omega (arith, a, b);
  all = all_done image N (flat_start image N) (start_shows image N) rs q p cores blocks;
  some = first_refused image N (flat_start image N) (start_shows image N) rs q p cores blocks;
}
