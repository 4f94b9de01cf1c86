-- How many records all cores pass: the least of what each passes.
use Rattle.std.proofs.Common.{◌≡◌, ℕ, zero, suc, ◌<◌, ◌≤◌, ◌⊎◌, inl, inr, min, List, [], ◌∷◌, take, length, slice_get, Some, get_or}
use Rattle.std.proofs.Common.{refl, sym, ap, subst, ◌∙◌, arith}
use Rattle.std.proofs.lemmas.Bool.{cases_order}
use Rattle.std.proofs.lemmas.List.{length_push, get_or_append_left, get_or_push}
use Rattle.sn_base.specs.Image.{ImageData}
use Rattle.rv_core.specs.declared.state.CoreState.{CoreState}
use Rattle.rv_core.specs.declared.step.Record.{Record}
use Rattle.rv_core.specs.Core.{start_of}
use Rattle.rv_core.specs.Flat.{flat_start, first_cores, core_at}
use Rattle.sn_consistency.specs.Projections.{CoreGood, core_step}
use Rattle.projection_places.specs.Passes.{Passes, CoresPass}
use Rattle.projection_places.proofs.Fronts.{core_fewer, passes_both, passes_as}
use Rattle.trace_check.specs.Slots.{AreInside, IsPassed, CoresBelow}

-- the cores at the start
pub count_cores : (entry n : ℕ) → length (first_cores n entry) ≡ n
count_cores entry zero = refl
count_cores entry (suc n) = length_push (first_cores n entry) (start_of n entry) ∙ omega (arith, count_cores entry n)

first_core : (entry n k : ℕ) → k < n → get_or (first_cores n entry) k (start_of 0 0) ≡ start_of k entry
first_core entry zero k l = absurd (omega (arith, l))
first_core entry (suc n) k l = go (cases_order k n) (λ h. first_core entry n k h)
  where
    go : ((k ≡ n) ⊎ ((k < n) ⊎ (n < k))) → (k < n → get_or (first_cores n entry) k (start_of 0 0) ≡ start_of k entry) → get_or (first_cores (suc n) entry) k (start_of 0 0) ≡ start_of k entry
    go (inl i) earlier = get_or_push (first_cores n entry) (start_of n entry) (start_of 0 0) k (count_cores entry n ∙ sym i) ∙ ap (λ x. start_of x entry) (sym i)
    go (inr (inl h)) earlier = get_or_append_left (first_cores n entry) (start_of n entry ∷ []) (start_of 0 0) k (let c = count_cores entry n in omega (arith, c, h)) ∙ earlier h
    go (inr (inr h)) earlier = absurd (omega (arith, h, l))

pub core_of : (image : ImageData) (N k : ℕ) → k < N → core_at (flat_start image N) k ≡ start_of k image.entry
core_of image N k l = first_core image.entry N k l

-- records of cores that are there
module _ (N : ℕ) (rs : List Record) where
  pub inside_fewer : (k m : ℕ) → k ≤ m → AreInside N rs m → AreInside N rs k
  inside_fewer k m l g = λ j r h e. g j r (omega (arith, l, h)) e

module _ (image : ImageData) (N : ℕ) where
  inside_core : (n : ℕ) → N ≤ n → (c : CoreState) (rs : List Record) (k : ℕ) → AreInside N rs k → CoreGood image N n c (take k rs)
  inside_core n l c [] zero g = tt
  inside_core n l c [] (suc k) g = tt
  inside_core n l c (x ∷ rs) zero g = tt
  inside_core n l c (x ∷ rs) (suc k) g = (
    (λ i. let h = g 0 x (omega arith) refl in absurd (omega (arith, h, l, i))),
    inside_core n l (core_step image n c x) rs k (λ j r m e. g (suc j) r (omega (arith, m)) e),
  )

  pub inside_from : (c : ℕ → CoreState) (rs : List Record) (k : ℕ) → ((n : ℕ) → CoreGood image N n (c n) (take k rs)) → AreInside N rs k
  inside_from c [] k g = λ j r l e. absurd (cc)
  inside_from c (x ∷ rs) zero g = λ j r l e. absurd (omega (arith, l))
  inside_from c (x ∷ rs) (suc k) g = go (inside_from (λ n. core_step image n (c n) x) rs k (λ n. (g n).1))
    where
      go : AreInside N rs k → (j : ℕ) (r : Record) → j < suc k → slice_get (x ∷ rs) j ≡ Some r → r.core < N
      go h zero r l e = let i : x ≡ r = cc in subst (λ y. y.core < N) i ((g x.core).0 refl).within
      go h (suc j) r l e = h j r (omega (arith, l)) e

  module _ (rs : List Record) where
    passed_fewer : (n k m : ℕ) → k ≤ m → IsPassed image N n rs m → IsPassed image N n rs k
    passed_fewer n k m l g = (inside_fewer N rs k m l g.0, core_fewer image N n (start_of n image.entry) rs k m l g.1)

    pub least_none : (limit : ℕ) → Passes (CoresBelow image N rs 0) limit limit
    least_none limit = record { within = omega arith; good = λ n l. absurd (omega (arith, l)); bad = λ l g. absurd (omega (arith, l)) }

    pub least_more : (limit count p q : ℕ) → Passes (CoresBelow image N rs count) limit p → (core : ℕ) → core ≡ count →
        Passes (IsPassed image N core rs) limit q → Passes (CoresBelow image N rs (suc count)) limit (min p q)
    least_more limit count p q a core e b =
        passes_as (λ k. CoresBelow image N rs count k × IsPassed image N count rs k) (CoresBelow image N rs (suc count)) to
        (λ k g. ((λ n h. g n (omega (arith, h))), g count (omega arith))) limit (min p q)
        (passes_both (CoresBelow image N rs count) (IsPassed image N count rs) (λ k m h g. λ n l. passed_fewer n k m h (g n l))
        (λ k m h g. passed_fewer count k m h g) limit p q a (subst (λ x. Passes (IsPassed image N x rs) limit q) e b))
      where
        to : (k : ℕ) → (CoresBelow image N rs count k × IsPassed image N count rs k) → CoresBelow image N rs (suc count) k
        to k g = λ n h. go n h (cases_order n count)
          where
            go : (n : ℕ) → n < suc count → ((n ≡ count) ⊎ ((n < count) ⊎ (count < n))) → IsPassed image N n rs k
            go n h (inl i) = subst (λ x. IsPassed image N x rs k) (sym i) g.1
            go n h (inr (inl i)) = g.0 n i
            go n h (inr (inr i)) = absurd (omega (arith, i, h))

    pub least_all : (limit count p : ℕ) → 1 ≤ N → count ≡ N → Passes (CoresBelow image N rs count) limit p →
        Passes (CoresPass image N (flat_start image N) rs) limit p
    least_all limit count p some e = passes_as (CoresBelow image N rs count) (CoresPass image N (flat_start image N) rs) to from limit p
      where
        to : (k : ℕ) → CoresBelow image N rs count k → CoresPass image N (flat_start image N) rs k
        to k g = λ n. go n (cases_order n N)
          where
            past : (n : ℕ) → N ≤ n → CoreGood image N n (core_at (flat_start image N) n) (take k rs)
            past n l = inside_core n l (core_at (flat_start image N) n) rs k (g 0 (omega (arith, some, e))).0

            go : (n : ℕ) → ((n ≡ N) ⊎ ((n < N) ⊎ (N < n))) → CoreGood image N n (core_at (flat_start image N) n) (take k rs)
            go n (inl i) = past n (omega (arith, i))
            go n (inr (inl i)) = subst (λ c. CoreGood image N n c (take k rs)) (sym (core_of image N n i)) (g n (omega (arith, i, e))).1
            go n (inr (inr i)) = past n (omega (arith, i))

        from : (k : ℕ) → CoresPass image N (flat_start image N) rs k → CoresBelow image N rs count k
        from k g = λ n l. (
          inside_from (core_at (flat_start image N)) rs k g,
          subst (λ c. CoreGood image N n c (take k rs)) (core_of image N n (omega (arith, l, e))) (g n),
        )
