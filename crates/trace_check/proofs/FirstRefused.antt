-- A list has at most one first record without a flat step, and an execution has none.
use Rattle.std.proofs.Common.{◌≡◌, ℕ, zero, suc, ◌<◌, ◌≤◌, ◌⊎◌, inl, inr, List, [], ◌∷◌, take, arith}
use Rattle.std.proofs.lemmas.Bool.{cases_order}
use Rattle.sn_base.specs.Image.{ImageData}
use Rattle.rv_core.specs.declared.step.Record.{Record}
use Rattle.rv_core.specs.Flat.{FlatState, flat_step, flat_start}
use Rattle.rv_core.specs.Execution.{Executes}
use Rattle.sn_consistency.specs.Projections.{FirstWithoutStep}
use Rattle.sn_consistency.proofs.Start.{start_shows}
use Rattle.sn_consistency.proofs.ProjectionLaw.{law_to}
use Rattle.sn_consistency.proofs.Places.{least_to}

fewer_done : (image : ImageData) (s : FlatState) (rs : List Record) (k m : ℕ) → k ≤ m → Executes image s (take m rs) → Executes image s (take k rs)
fewer_done image s [] zero m l g = tt
fewer_done image s [] (suc k) m l g = tt
fewer_done image s (r ∷ rs) zero m l g = tt
fewer_done image s (r ∷ rs) (suc k) zero l g = absurd (omega (arith, l))
fewer_done image s (r ∷ rs) (suc k) (suc m) l g = (g.0, fewer_done image (flat_step image s r) rs k m (omega (arith, l)) g.1)

front_done : (image : ImageData) (s : FlatState) (rs : List Record) (k : ℕ) → Executes image s rs → Executes image s (take k rs)
front_done image s [] zero g = tt
front_done image s [] (suc k) g = tt
front_done image s (r ∷ rs) zero g = tt
front_done image s (r ∷ rs) (suc k) g = (g.0, front_done image (flat_step image s r) rs k g.1)

module _ (image : ImageData) (N : ℕ) (rs : List Record) where
  abbrev s : FlatState
  s = flat_start image N

  not_more : (p : ℕ) → FirstWithoutStep image s rs p → Executes image s (take (suc p) rs) → ⊥
  not_more p f g = (least_to image N s (start_shows image N) rs p f).fails (law_to image N s (start_shows image N) (take (suc p) rs) g)

  pub none_first : (p : ℕ) → Executes image s rs → FirstWithoutStep image s rs p → ⊥
  none_first p g f = not_more p f (front_done image s rs (suc p) g)

  pub one_first : (p q : ℕ) → FirstWithoutStep image s rs p → FirstWithoutStep image s rs q → p ≡ q
  one_first p q f g = go (cases_order p q)
    where
      go : ((p ≡ q) ⊎ ((p < q) ⊎ (q < p))) → p ≡ q
      go (inl e) = e
      go (inr (inl l)) = absurd (not_more p f (fewer_done image s rs (suc p) q (omega (arith, l)) g.before))
      go (inr (inr l)) = absurd (not_more q g (fewer_done image s rs (suc q) p (omega (arith, l)) f.before))
