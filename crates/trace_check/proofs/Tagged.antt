-- What a core does, as it is kept.
use Rattle.std.proofs.Common.{◌≡◌, ℕ, zero, suc, ◌+◌, ◌%◌, ◌<◌, ◌≤◌, Bool, true, false, cond, List, [], ◌∷◌, ◌++◌, map, take, length}
use Rattle.std.proofs.Common.{slice_get, Option, Some, refl, sym, ap, subst, ◌∙◌, append-nil, arith}
use Rattle.std.specs.Prelude.{filter}
use Rattle.rv_core.specs.declared.step.Want.{Want}
use Rattle.rv_core.specs.Core.{is_access}
use Rattle.trace_check.specs.EffectData.{EffectData}
use Rattle.trace_check.specs.declared.tagged_effects.TaggedEffects.{TaggedEffects}
use Rattle.trace_check.specs.Tags.{wanted_block, tag_by, of_access, AreKept, IsKeptAt, KeepsNone}

-- the tag and whether it is an access's
pub idle_tag : (parts : ℕ) (want : Want) → tag_by parts want ≡ 0 → is_access want ≡ false
idle_tag parts want e = go (is_access want) e
  where
    go : (q : Bool) → cond q (suc (wanted_block want % parts)) 0 ≡ 0 → q ≡ false
    go true e = absurd (omega (arith, e))
    go false e = refl

pub access_tag : (parts : ℕ) (want : Want) → 0 < tag_by parts want → is_access want ≡ true
access_tag parts want l = go (is_access want) l
  where
    go : (q : Bool) → 0 < cond q (suc (wanted_block want % parts)) 0 → q ≡ true
    go true l = refl
    go false l = absurd (omega (arith, l))

tag_tells : (parts : ℕ) (want : Want) → of_access (tag_by parts want) ≡ is_access want
tag_tells parts want = go (is_access want)
  where
    go : (q : Bool) → of_access (cond q (suc (wanted_block want % parts)) 0) ≡ q
    go true = refl
    go false = refl

-- one more
module _ (parts : ℕ) where
  abbrev tag : EffectData → ℕ
  tag effect = tag_by parts effect.want

  abbrev access : EffectData → Bool
  access effect = is_access effect.want

  map_more : (did : List EffectData) (effect : EffectData) → map tag (did ++ effect ∷ []) ≡ map tag did ++ tag effect ∷ []
  map_more [] effect = refl
  map_more (x ∷ did) effect = ap (λ xs. tag x ∷ xs) (map_more did effect)

  filter_more : (did : List EffectData) (effect : EffectData) → filter access (did ++ effect ∷ []) ≡ filter access did ++ filter access (effect ∷ [])
  filter_more [] effect = refl
  filter_more (x ∷ did) effect = go (access x) (filter_more did effect)
    where
      go : (q : Bool) → filter access (did ++ effect ∷ []) ≡ filter access did ++ filter access (effect ∷ []) →
          cond q (x ∷ filter access (did ++ effect ∷ [])) (filter access (did ++ effect ∷ []))
          ≡ cond q (x ∷ filter access did) (filter access did) ++ filter access (effect ∷ [])
      go true h = ap (λ xs. x ∷ xs) h
      go false h = h

  pub kept_none : (kept : TaggedEffects) → KeepsNone kept → AreKept parts [] kept
  kept_none kept n = record { tags = n.0; accesses = n.1 }

  module _ (did : List EffectData) (effect : EffectData) (old new : TaggedEffects) (k : AreKept parts did old) (t : new.tags.items ≡ old.tags.items ++ tag effect ∷ []) where
    kept_more : new.accesses.items ≡ old.accesses.items ++ filter access (effect ∷ []) → AreKept parts (did ++ effect ∷ []) new
    kept_more a = record {
      tags = t ∙ ap (λ xs. xs ++ tag effect ∷ []) k.tags ∙ sym (map_more did effect);
      accesses = a ∙ ap (λ xs. xs ++ filter access (effect ∷ [])) k.accesses ∙ sym (filter_more did effect);
    }

    pub kept_idle : access effect ≡ false → new.accesses.items ≡ old.accesses.items → AreKept parts (did ++ effect ∷ []) new
    kept_idle i a = kept_more (a ∙ sym (ap (λ q. old.accesses.items ++ cond q (effect ∷ []) []) i ∙ append-nil old.accesses.items))

    pub kept_access : access effect ≡ true → new.accesses.items ≡ old.accesses.items ++ effect ∷ [] → AreKept parts (did ++ effect ∷ []) new
    kept_access i a = kept_more (a ∙ sym (ap (λ q. old.accesses.items ++ cond q (effect ∷ []) []) i))

  -- where what a record does is kept
  tag_at : (did : List EffectData) (k : ℕ) (effect : EffectData) → slice_get did k ≡ Some effect → slice_get (map tag did) k ≡ Some (tag effect)
  tag_at [] k effect e = absurd (cc)
  tag_at (x ∷ did) zero effect e = let i : x ≡ effect = cc in ap (λ y. Some (tag y)) i
  tag_at (x ∷ did) (suc k) effect e = tag_at did k effect e

  access_at : (did : List EffectData) (k : ℕ) (effect : EffectData) → slice_get did k ≡ Some effect → access effect ≡ true →
      slice_get (filter access did) (length (filter of_access (take k (map tag did)))) ≡ Some effect
  access_at [] k effect e i = absurd (cc)
  access_at (x ∷ did) zero effect e i =
      let j : x ≡ effect = cc in
      ap (λ q. slice_get (cond q (x ∷ filter access did) (filter access did)) 0) (ap access j ∙ i) ∙ ap (λ y. Some y) j
  access_at (x ∷ did) (suc k) effect e i =
      ap (λ q. slice_get (cond (access x) (x ∷ filter access did) (filter access did))
      (length (cond q (tag x ∷ filter of_access (take k (map tag did))) (filter of_access (take k (map tag did)))))) (tag_tells parts x.want)
      ∙ go (access x) (access_at did k effect e i)
    where
      go : (q : Bool) → slice_get (filter access did) (length (filter of_access (take k (map tag did)))) ≡ Some effect →
          slice_get (cond q (x ∷ filter access did) (filter access did))
          (length (cond q (tag x ∷ filter of_access (take k (map tag did))) (filter of_access (take k (map tag did))))) ≡ Some effect
      go true h = h
      go false h = h

  pub kept_at : (did : List EffectData) (kept : TaggedEffects) → AreKept parts did kept → (k : ℕ) (effect : EffectData) → slice_get did k ≡ Some effect → IsKeptAt parts kept k effect
  kept_at did kept p k effect e = record {
    tag = ap (λ xs. slice_get xs k) p.tags ∙ tag_at did k effect e;
    access = λ i. ap (λ xs. slice_get xs (length (filter of_access (take k kept.tags.items)))) p.accesses
        ∙ ap (λ xs. slice_get (filter access did) (length (filter of_access (take k xs)))) p.tags
        ∙ access_at did k effect e i;
  }

-- how many tags are of accesses, with one more
pub accesses_next : (tags : List ℕ) (k tag : ℕ) → slice_get tags k ≡ Some tag →
    length (filter of_access (take (suc k) tags)) ≡ length (filter of_access (take k tags)) + cond (of_access tag) 1 0
accesses_next [] k tag e = absurd (cc)
accesses_next (x ∷ tags) zero tag e = let i : x ≡ tag = cc in subst (λ y. length (filter of_access (x ∷ [])) ≡ 0 + cond (of_access y) 1 0) i (go (of_access x))
  where
    go : (q : Bool) → length (cond q (x ∷ []) []) ≡ 0 + cond q 1 0
    go true = refl
    go false = refl
accesses_next (x ∷ tags) (suc k) tag e = go (of_access x) (accesses_next tags k tag e)
  where
    go : (q : Bool) → length (filter of_access (take (suc k) tags)) ≡ length (filter of_access (take k tags)) + cond (of_access tag) 1 0 →
        length (cond q (x ∷ filter of_access (take (suc k) tags)) (filter of_access (take (suc k) tags)))
        ≡ length (cond q (x ∷ filter of_access (take k tags)) (filter of_access (take k tags))) + cond (of_access tag) 1 0
    go true h = omega (arith, h)
    go false h = h

pub accesses_few : (tags : List ℕ) (k : ℕ) → length (filter of_access (take k tags)) ≤ k
accesses_few [] zero = omega arith
accesses_few [] (suc k) = omega arith
accesses_few (x ∷ tags) zero = omega arith
accesses_few (x ∷ tags) (suc k) = go (of_access x) (accesses_few tags k)
  where
    go : (q : Bool) → length (filter of_access (take k tags)) ≤ k →
        length (cond q (x ∷ filter of_access (take k tags)) (filter of_access (take k tags))) ≤ suc k
    go true h = omega (arith, h)
    go false h = omega (arith, h)

pub one_or_none : (q : Bool) → cond q 1 0 ≤ 1
one_or_none true = omega arith
one_or_none false = omega arith

pub some_same : {A : Type 0} (x : Option A) (a b : A) → x ≡ Some a → x ≡ Some b → a ≡ b
some_same x a b e f = cc
