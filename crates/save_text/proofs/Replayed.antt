-- The flat machine does one record more, or stops.
use Rattle.std.proofs.Common.{◌≡◌, ℕ, zero, suc, ◌+◌, ◌<◌, List, [], ◌∷◌, length, take, get_or, refl, sym, ap, ◌∙◌, subst, add-one, arith}
use Rattle.std.specs.Prelude.{slice_get, Some}
use Rattle.sn_base.specs.Image.{ImageData}
use Rattle.rv_core.specs.declared.step.Record.{Record}
use Rattle.rv_core.specs.Flat.{FlatState, HasStep, flat_step}
use Rattle.rv_core.specs.Execution.{Executes, state_after}
use Rattle.sn_consistency.specs.Projections.{FirstWithoutStep}

module _ (image : ImageData) where
  more_steps : (s : FlatState) (rs : List Record) (p : ℕ) (d : Record) → p < length rs → Executes image s (take p rs) →
      HasStep image (state_after image s (take p rs)) (get_or rs p d) → Executes image s (take (suc p) rs)
  more_steps s [] p d l g h = absurd (omega arith)
  more_steps s (r ∷ rs) zero d l g h = (h, tt)
  more_steps s (r ∷ rs) (suc p) d l g h = (g.0, more_steps (flat_step image s r) rs p d (omega arith) g.1 h)

  pub steps-more : (s : FlatState) (rs : List Record) (p : ℕ) (d : Record) → p < length rs → Executes image s (take p rs) →
      HasStep image (state_after image s (take p rs)) (get_or rs p d) → Executes image s (take (p + 1) rs)
  steps-more s rs p d l g h = subst (λ (k : ℕ). Executes image s (take k rs)) (sym (add-one p)) (more_steps s rs p d l g h)

  more_state : (s : FlatState) (rs : List Record) (p : ℕ) (d : Record) → p < length rs →
      state_after image s (take (suc p) rs) ≡ flat_step image (state_after image s (take p rs)) (get_or rs p d)
  more_state s [] p d l = absurd (omega arith)
  more_state s (r ∷ rs) zero d l = refl
  more_state s (r ∷ rs) (suc p) d l = more_state (flat_step image s r) rs p d (omega arith)

  pub state-more : (s : FlatState) (rs : List Record) (p : ℕ) (d : Record) → p < length rs →
      state_after image s (take (p + 1) rs) ≡ flat_step image (state_after image s (take p rs)) (get_or rs p d)
  state-more s rs p d l = ap (λ (k : ℕ). state_after image s (take k rs)) (add-one p) ∙ more_state s rs p d l

  got : (rs : List Record) (p : ℕ) (d r : Record) → slice_get rs p ≡ Some r → get_or rs p d ≡ r
  got [] p d r e = absurd (cc)
  got (x ∷ rs) zero d r e = cc
  got (x ∷ rs) (suc p) d r e = got rs p d r e

  pub stops-at : (s : FlatState) (rs : List Record) (p : ℕ) (d : Record) → p < length rs → Executes image s (take p rs) →
      (HasStep image (state_after image s (take p rs)) (get_or rs p d) → ⊥) → FirstWithoutStep image s rs p
  stops-at s rs p d l g fails =
      record { within = l; before = g; none = λ r e h. fails (subst (HasStep image (state_after image s (take p rs))) (sym (got rs p d r e)) h) }
