-- What a projection passes of a list it passes of each beginning of it, and two projections together pass the lesser number.
use Rattle.std.proofs.Common.{◌≡◌, ℕ, zero, suc, ◌<◌, ◌≤◌, ◌⊎◌, inl, inr, List, [], ◌∷◌, take, min, arith, subst}
use Rattle.std.proofs.lemmas.Bool.{cases_order}
use Rattle.sn_base.specs.Image.{ImageData}
use Rattle.rv_core.specs.declared.state.CoreState.{CoreState}
use Rattle.rv_core.specs.declared.step.Record.{Record}
use Rattle.rv_core.specs.Core.{bare}
use Rattle.sn_consistency.specs.Projections.{core_step, CoreGood, entries, BlockState, block_step, BlockGood}
use Rattle.projection_places.specs.Passes.{Passes, HoldsOfFewer}

module _ (image : ImageData) where
  pub core_fewer : (N n : ℕ) (c : CoreState) (rs : List Record) → HoldsOfFewer (λ k. CoreGood image N n c (take k rs))
  core_fewer N n c [] zero m l g = tt
  core_fewer N n c [] (suc k) m l g = tt
  core_fewer N n c (r ∷ rs) zero m l g = tt
  core_fewer N n c (r ∷ rs) (suc k) zero l g = absurd (omega (arith, l))
  core_fewer N n c (r ∷ rs) (suc k) (suc m) l g =
      (g.0, core_fewer N n (core_step image n c r) rs k m (omega (arith, l)) g.1)

  pub block_fewer : (b : ℕ) (v : BlockState) (c : ℕ → CoreState) (rs : List Record) →
      HoldsOfFewer (λ k. BlockGood image b v (entries image c (take k rs)))
  block_fewer b v c [] zero m l g = tt
  block_fewer b v c [] (suc k) m l g = tt
  block_fewer b v c (r ∷ rs) zero m l g = tt
  block_fewer b v c (r ∷ rs) (suc k) zero l g = absurd (omega (arith, l))
  block_fewer b v c (r ∷ rs) (suc k) (suc m) l g = (
    g.0,
    block_fewer b (block_step image b v (record { found = bare (c r.core); did = r })) (λ n. core_step image n (c n) r) rs k m
        (omega (arith, l)) g.1,
  )

-- two together
pub passes_both : (A B : ℕ → Type 0) → HoldsOfFewer A → HoldsOfFewer B → (limit p q : ℕ) →
    Passes A limit p → Passes B limit q → Passes (λ k. A k × B k) limit (min p q)
passes_both A B fewer_a fewer_b limit p q a b = go (cases_order p q)
  where
    lower : p ≤ q → Passes (λ k. A k × B k) limit p
    lower l = record { within = a.within; good = (a.good, fewer_b p q l b.good); bad = λ s g. a.bad s g.0 }

    upper : q ≤ p → Passes (λ k. A k × B k) limit q
    upper l = record { within = b.within; good = (fewer_a q p l a.good, b.good); bad = λ s g. b.bad s g.1 }

    go : ((p ≡ q) ⊎ ((p < q) ⊎ (q < p))) → Passes (λ k. A k × B k) limit (min p q)
    go (inl e) = let m : p ≡ min p q = omega (arith, e) in subst (Passes (λ k. A k × B k) limit) m (lower (omega (arith, e)))
    go (inr (inl l)) = let m : p ≡ min p q = omega (arith, l) in subst (Passes (λ k. A k × B k) limit) m (lower (omega (arith, l)))
    go (inr (inr l)) = let m : q ≡ min p q = omega (arith, l) in subst (Passes (λ k. A k × B k) limit) m (upper (omega (arith, l)))

-- the same in other words
pub passes_as : (A B : ℕ → Type 0) → ((k : ℕ) → A k → B k) → ((k : ℕ) → B k → A k) → (limit p : ℕ) →
    Passes A limit p → Passes B limit p
passes_as A B to back limit p a = record { within = a.within; good = to p a.good; bad = λ s g. a.bad s (back (suc p) g) }
