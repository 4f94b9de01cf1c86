-- A trace that is no execution has a first record without a step; so what the checker says of a trace is its verdict.
use Rattle.std.proofs.Common.{◌≡◌, ℕ, zero, suc, ◌+◌, List, [], ◌∷◌, sym, ap, subst, ◌∙◌, arith}
use Rattle.std.specs.Prelude.{true, false, Result, Err, IsOk, ◌↔◌}
use Rattle.sn_base.specs.Image.{ImageData}
use Rattle.rv_core.specs.declared.step.Record.{Record}
use Rattle.rv_core.specs.Flat.{FlatState, HasStep, flat_step}
use Rattle.rv_core.specs.Execution.{Executes}
use Rattle.rv_core.specs.Flat.{flat_start}
use Rattle.rv_core.specs.Execution.{IsExecution}
use Rattle.sn_consistency.specs.Projections.{FirstWithoutStep}
use Rattle.trace_check.specs.Verdict.{IsDecided}
use Rattle.trace_check.specs.declared.verdict.CheckFault.{CheckFault}
use Rattle.trace_check.specs.declared.verdict.CheckFault.TheVariants.{NotLegal}
use Rattle.safetynet_main.specs.Outcome.{IsVerdict}
use Rattle.safetynet_main.specs.declared.job.Check.{Check}
use Rattle.safetynet_main.specs.declared.job.Verdict.TheVariants.{Refused}

module _ (image : ImageData) where
  -- the first record has no step
  at_first : (s : FlatState) (r : Record) (records : List Record) → (HasStep image s r → ⊥) → FirstWithoutStep image s (r ∷ records) 0
  at_first s r records never = record {
    within = omega (arith);
    before = tt;
    none = λ q is has. let same : r ≡ q = cc in never (subst (HasStep image s) (sym same) has);
  }

  -- it has one, and the first without is among the others
  later : (s : FlatState) (r : Record) (records : List Record) (p : ℕ) → HasStep image s r →
      FirstWithoutStep image (flat_step image s r) records p → FirstWithoutStep image s (r ∷ records) (suc p)
  later s r records p has f = record {
    within = let w = f.within in omega (arith, w);
    before = (has, f.before);
    none = λ q is. f.none q is;
  }

  pub some_first : (s : FlatState) (records : List Record) → (Executes image s records → ⊥) →
      ((p : ℕ) → FirstWithoutStep image s records p → ⊥) → ⊥
  some_first s [] fails none = fails tt
  some_first s (r ∷ records) fails none =
      none 0 (at_first s r records (λ has.
      some_first (flat_step image s r) records (λ rest. fails (has, rest)) (λ p f. none (suc p) (later s r records p has f))))

-- so the place of a refusal is never 0
first-refused : (image : ImageData) (nodes : ℕ) (records : List Record) (r : Result (Unit {0}) CheckFault) (place : ℕ) →
    r ≡ Err (NotLegal place)
    → (IsDecided r → IsOk r ↔ IsExecution image nodes records)
    → ((before : ℕ) → IsDecided r → (r ≡ Err (NotLegal (before + 1))) ↔ FirstWithoutStep image (flat_start image nodes) records before)
    → (before : ℕ) × (place ≡ before + 1) × FirstWithoutStep image (flat_start image nodes) records before
first-refused image nodes records r zero e legal refused =
    let d : IsDecided r = subst (λ t. IsDecided t) (sym e) tt in
    absurd (some_first image (flat_start image nodes) records
    (λ x. let ok : false ≡ true = subst (λ t. IsOk t) e ((legal d).1 x) in cc)
    (λ p f.
    let same : r ≡ Err (NotLegal (p + 1)) = (refused p d).1 f in
    let nought : 0 ≡ p + 1 = cc in
    absurd (omega (arith, nought))))
first-refused image nodes records r (suc before) e legal refused =
    let d : IsDecided r = subst (λ t. IsDecided t) (sym e) tt in
    let one : suc before ≡ before + 1 = omega arith in
    (before, one, (refused before d).0 (e ∙ ap (λ n. Err (NotLegal n)) one))

pub refused-verdict : (c : Check) (records : List Record) (r : Result (Unit {0}) CheckFault) (place : ℕ) → records ≡ c.trace →
    r ≡ Err (NotLegal place)
    → (IsDecided r → IsOk r ↔ IsExecution c.program c.nodes records)
    → ((before : ℕ) → IsDecided r →
    (r ≡ Err (NotLegal (before + 1))) ↔ FirstWithoutStep c.program (flat_start c.program c.nodes) records before)
    → IsVerdict c (Refused place)
refused-verdict c records r place same e legal refused =
    subst (λ (t : List Record). (before : ℕ) × (place ≡ before + 1)
    × FirstWithoutStep c.program (flat_start c.program c.nodes) t before) same
    (first-refused c.program c.nodes records r place e legal refused)
