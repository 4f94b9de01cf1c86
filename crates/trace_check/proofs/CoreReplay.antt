-- One core's replay, record by record.
use Rattle.std.proofs.Common.{◌≡◌, ◌≢◌, ℕ, zero, suc, ◌<◌, ◌⊎◌, inl, inr, ◌==◌, Bool, true, false, cond, List, [], ◌∷◌, ◌++◌, take}
use Rattle.std.proofs.Common.{length, slice_get, Some, refl, sym, ap, subst, ◌∙◌, arith}
use Rattle.std.proofs.lemmas.Bool.Decides.{nat_tests}
use Rattle.std.proofs.lemmas.Bool.{cases_order}
use Rattle.sn_base.specs.Image.{ImageData}
use Rattle.rv_core.specs.declared.state.CoreState.{CoreState}
use Rattle.rv_core.specs.declared.step.Record.{Record}
use Rattle.sn_consistency.specs.Words.{next}
use Rattle.sn_consistency.specs.Projections.{Replays, CoreGood, core_step, core_after}
use Rattle.projection_places.specs.Passes.{Passes}
use Rattle.projection_places.proofs.Folds.{core_more, core_last, core_next}
use Rattle.trace_check.specs.EffectData.{EffectData}
use Rattle.trace_check.specs.TaggedEffects.{effect_of, core_effects}
use Rattle.trace_check.specs.declared.tagged_effects.TaggedEffects.{TaggedEffects}
use Rattle.trace_check.specs.Tags.{AreKept, KeepsNone}
use Rattle.trace_check.specs.Slots.{AreInside}
use Rattle.trace_check.proofs.Tagged.{kept_none}

-- a record that is the core's own, and one that is not
pub own_step : (image : ImageData) (n : ℕ) (c : CoreState) (r : Record) → n ≡ r.core → core_step image n c r ≡ next image c r
own_step image n c r e = let t : (n == r.core) ≡ true = grind (arith, nat_tests) in rw t refl

pub other_step : (image : ImageData) (n : ℕ) (c : CoreState) (r : Record) → n ≢ r.core → core_step image n c r ≡ c
other_step image n c r e = let t : (n == r.core) ≡ false = grind (arith, nat_tests) in rw t refl

pub own_effect : (image : ImageData) (n : ℕ) (c : CoreState) (r : Record) → n ≡ r.core → core_effects image n c (r ∷ []) ≡ effect_of image c r ∷ []
own_effect image n c r e = let t : (n == r.core) ≡ true = grind (arith, nat_tests) in ap (λ q. cond q (effect_of image c r ∷ []) []) t

pub other_effect : (image : ImageData) (n : ℕ) (c : CoreState) (r : Record) → n ≢ r.core → core_effects image n c (r ∷ []) ≡ []
other_effect image n c r e = let t : (n == r.core) ≡ false = grind (arith, nat_tests) in ap (λ q. cond q (effect_of image c r ∷ []) []) t

module _ (image : ImageData) (n : ℕ) where
  tagged_next : (c : CoreState) (rs : List Record) (k : ℕ) (r : Record) → slice_get rs k ≡ Some r →
      core_effects image n c (take (suc k) rs)
      ≡ core_effects image n c (take k rs) ++ core_effects image n (core_after image n c (take k rs)) (r ∷ [])
  tagged_next c [] k r e = absurd (cc)
  tagged_next c (x ∷ rs) zero r e =
      let i : x ≡ r = cc in
      subst (λ y. core_effects image n c (x ∷ []) ≡ core_effects image n c (y ∷ [])) i refl
  tagged_next c (x ∷ rs) (suc k) r e = go (n == x.core) (λ d. tagged_next d rs k r e)
    where
      go : (q : Bool) →
          ((d : CoreState) → core_effects image n d (take (suc k) rs) ≡ core_effects image n d (take k rs) ++ core_effects image n (core_after image n d (take k rs)) (r ∷ [])) →
          cond q (effect_of image c x ∷ core_effects image n (next image c x) (take (suc k) rs)) (core_effects image n c (take (suc k) rs))
          ≡ cond q (effect_of image c x ∷ core_effects image n (next image c x) (take k rs)) (core_effects image n c (take k rs))
          ++ core_effects image n (core_after image n (cond q (next image c x) c) (take k rs)) (r ∷ [])
      go true h = ap (λ l. effect_of image c x ∷ l) (h (next image c x))
      go false h = h c

-- the core after the first k records, which it passes, and what its own among them did
pub record IsReplayed (image : ImageData) (N parts n : ℕ) (c : CoreState) (rs : List Record) (k : ℕ) (now : CoreState) (kept : TaggedEffects) : Type 0 where
  pub inside : AreInside N rs k
  pub good : CoreGood image N n c (take k rs)
  pub state : now ≡ core_after image n c (take k rs)
  pub tagged : AreKept parts (core_effects image n c (take k rs)) kept

module _ (image : ImageData) (N parts n : ℕ) (c : CoreState) (rs : List Record) where
  pub replayed_none : (kept : TaggedEffects) → KeepsNone kept → IsReplayed image N parts n c rs zero c kept
  replayed_none kept e = record { inside = λ j r l i. absurd (omega (arith, l)); good = tt; state = refl; tagged = kept_none parts kept e }

  module _ (k : ℕ) (now : CoreState) (kept : TaggedEffects) (p : IsReplayed image N parts n c rs k now kept) where
    module _ (r : Record) (e : slice_get rs k ≡ Some r) where
      inside_more : r.core < N → AreInside N rs (suc k)
      inside_more l = λ j x h i. go j x h i (cases_order j k)
        where
          go : (j : ℕ) (x : Record) → j < suc k → slice_get rs j ≡ Some x → ((j ≡ k) ⊎ ((j < k) ⊎ (k < j))) → x.core < N
          go j x h i (inl same) = let f : r ≡ x = cc in subst (λ y. y.core < N) f l
          go j x h i (inr (inl less)) = p.inside j x less i
          go j x h i (inr (inr more)) = absurd (omega (arith, h, more))

      pub replayed_more : (later : CoreState) (more : TaggedEffects) → (r.core < N) × (n ≡ r.core → Replays image N now r) →
          later ≡ core_step image n now r →
          ((did : List EffectData) → AreKept parts did kept → AreKept parts (did ++ core_effects image n now (r ∷ [])) more) →
          IsReplayed image N parts n c rs (suc k) later more
      replayed_more later more g s d = record {
        inside = inside_more g.0;
        good = core_more image N n c rs k r e p.good (λ i. subst (λ x. Replays image N x r) p.state (g.1 i));
        state = s ∙ ap (λ x. core_step image n x r) p.state ∙ sym (core_next image n c rs k r e);
        tagged = subst (λ xs. AreKept parts xs more)
            (ap (λ x. core_effects image n c (take k rs) ++ core_effects image n x (r ∷ [])) p.state ∙ sym (tagged_next image n c rs k r e))
            (d (core_effects image n c (take k rs)) p.tagged);
      }

      pub replayed_stops : k < length rs → ((r.core < N) × (n ≡ r.core → Replays image N now r) → ⊥) →
          Passes (λ j. AreInside N rs j × CoreGood image N n c (take j rs)) (length rs) k
      replayed_stops l h = record {
        within = omega (arith, l);
        good = (p.inside, p.good);
        bad = λ m g. h (g.0 k r (omega arith) e, λ i. subst (λ x. Replays image N x r) (sym p.state) (core_last image N n c rs k r e g.1 i));
      }

    pub replayed_all : k ≡ length rs → Passes (λ j. AreInside N rs j × CoreGood image N n c (take j rs)) (length rs) (length rs)
    replayed_all e = record {
      within = omega arith;
      good = subst (λ j. AreInside N rs j × CoreGood image N n c (take j rs)) e (p.inside, p.good);
      bad = λ m g. absurd (omega (arith, m));
    }

    pub tagged_all : k ≡ length rs → AreKept parts (core_effects image n c (take (length rs) rs)) kept
    tagged_all e = subst (λ j. AreKept parts (core_effects image n c (take j rs)) kept) e p.tagged
