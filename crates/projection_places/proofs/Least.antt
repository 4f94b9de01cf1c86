-- The least number of all is that of the records that the flat machine does.
use Rattle.std.proofs.Common.{◌≡◌, ℕ, zero, suc, ◌<◌, ◌⊎◌, inl, inr, List, [], ◌∷◌, take, length, arith, refl, ap, subst}
use Rattle.std.proofs.lemmas.Bool.{cases_order}
use Rattle.sn_base.specs.Image.{ImageData}
use Rattle.rv_core.specs.declared.step.Record.{Record}
use Rattle.rv_core.specs.Flat.{FlatState, core_at}
use Rattle.rv_core.specs.Execution.{Executes}
use Rattle.sn_consistency.specs.Shows.{Shows, places_of}
use Rattle.sn_consistency.specs.Projections.{AllGood, FirstWithoutStep}
use Rattle.sn_consistency.proofs.ProjectionLaw.{law_from}
use Rattle.sn_consistency.proofs.Places.{least_from}
use Rattle.projection_places.specs.Passes.{Passes, CoresPass, BlocksPass}
use Rattle.projection_places.proofs.Fronts.{core_fewer}

take_whole : (rs : List Record) (k : ℕ) → k ≡ length rs → take k rs ≡ rs
take_whole [] zero e = refl
take_whole [] (suc k) e = refl
take_whole (r ∷ rs) zero e = absurd (omega (arith, e))
take_whole (r ∷ rs) (suc k) e = ap (λ l. r ∷ l) (take_whole rs k (omega (arith, e)))

module _
    (image : ImageData) (N : ℕ) (s : FlatState) (shows : Shows N s (places_of s)) (rs : List Record) (q p : ℕ)
    (cores : Passes (CoresPass image N s rs) (length rs) q) (blocks : Passes (BlocksPass image s rs) q p) where
  good : AllGood image N s (take p rs)
  good = record {
    cores = λ n. core_fewer image N n (core_at s n) rs p q blocks.within (cores.good n);
    blocks = blocks.good;
  }

  fails : p < length rs → AllGood image N s (take (suc p) rs) → ⊥
  fails l g = go (cases_order p q)
    where
      go : ((p ≡ q) ⊎ ((p < q) ⊎ (q < p))) → ⊥
      go (inl e) =
          let h : CoresPass image N s rs (suc p) = g.cores in
          cores.bad (omega (arith, l, e)) (subst (λ k. CoresPass image N s rs (suc k)) e h)
      go (inr (inl h)) = blocks.bad h g.blocks
      go (inr (inr h)) = let w = blocks.within in absurd (omega (arith, w, h))

  pub all_done : p ≡ length rs → Executes image s rs
  all_done e = subst (Executes image s) (take_whole rs p e) (law_from image N s shows (take p rs) good)

  pub first_refused : p < length rs → FirstWithoutStep image s rs p
  first_refused l = least_from image N s shows rs p (record { within = l; before = good; fails = fails l })
