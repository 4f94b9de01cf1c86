-- steps round a ring, there and back
use Rattle.std.proofs.Common.{◌≡◌, ℕ, ◌+◌, ◌-◌, ◌*◌, ◌/◌, ◌%◌, ◌<◌, ◌≤◌, inl, inr, refl, sym, ◌∙◌, arith}
use Rattle.std.proofs.Math.Nat.{mod-eq_of_lt, add-mod_right}
use Rattle.std.proofs.lemmas.Bool.{cases_eq}
use Rattle.std.proofs.lemmas.Nat.{div-mul-add, mod-mul-add, div-add-mod'}
use Rattle.route_plan.specs.Grid.{after, before, along}
use Rattle.route_plan.specs.Sizes.{IsGrid}
use Rattle.route_plan.proofs.Grids.{along-row, along-column}

pub after-in : (size p : ℕ) → p + 1 < size → after size p ≡ p + 1
after-in size p l = mod-eq_of_lt l

whole_turn : (size : ℕ) → 1 ≤ size → (0 + size) % size ≡ 0
whole_turn size l = let h : 0 < size = omega arith in add-mod_right 0 size ∙ mod-eq_of_lt h

pub after-last : (size p : ℕ) → 1 ≤ size → p + 1 ≡ size → after size p ≡ 0
after-last size p l e = let h : p + 1 ≡ 0 + size = omega arith in rw h (whole_turn size l)

pub before-in : (size p : ℕ) → 1 ≤ p → p < size → before size p ≡ p - 1
before-in size p l m =
    let e : p + size - 1 ≡ (p - 1) + size = omega arith in let h : p - 1 < size = omega arith in
    rw e (add-mod_right (p - 1) size ∙ mod-eq_of_lt h)

pub before-first : (size : ℕ) → 1 ≤ size → before size 0 ≡ size - 1
before-first size l = let e : 0 + size - 1 ≡ size - 1 = omega arith in let h : size - 1 < size = omega arith in rw e (mod-eq_of_lt h)

-- each undoes the other
pub before-after : (size p : ℕ) → p < size → before size (after size p) ≡ p
before-after size p l = elim (cases_eq (p + 1) size) [
  | inl e ↦ (let i : p ≡ size - 1 = omega arith in rw (after-last size p (omega arith) e) (before-first size (omega arith) ∙ sym i))
  | inr d ↦ (let i : p + 1 - 1 ≡ p = omega arith in
      rw (after-in size p (omega arith)) (before-in size (p + 1) (omega arith) (omega arith) ∙ i))
]

pub after-before : (size p : ℕ) → p < size → after size (before size p) ≡ p
after-before size p l = elim (cases_eq p 0) [
  | inl e ↦ rw e (rw (before-first size (omega arith)) (after-last size (size - 1) (omega arith) (omega arith)))
  | inr d ↦ (let i : p - 1 + 1 ≡ p = omega arith in rw (before-in size p (omega arith) l) (after-in size (p - 1) (omega arith) ∙ i))
]

-- a step from the switch of a row and a column
pub along-row_at : (step : ℕ → ℕ → ℕ) (n rows columns r c : ℕ) → IsGrid n rows columns → c < columns →
    along step n (2 * (r * columns + c)) ≡ 2 * (r * columns + step columns c)
along-row_at step n rows columns r c g l =
    let h : 2 * (r * columns + c) / 2 ≡ r * columns + c = omega arith in
    along-row step n rows columns (2 * (r * columns + c)) g (omega arith)
    ∙ rw (h, div-mul-add r columns c l, mod-mul-add r columns c l) refl

pub along-column_at : (step : ℕ → ℕ → ℕ) (n rows columns r c : ℕ) → IsGrid n rows columns → c < columns →
    along step n (2 * (r * columns + c) + 1) ≡ 2 * (step rows r * columns + c) + 1
along-column_at step n rows columns r c g l =
    let h : (2 * (r * columns + c) + 1) / 2 ≡ r * columns + c = omega arith in
    along-column step n rows columns (2 * (r * columns + c) + 1) g (omega arith)
    ∙ rw (h, div-mul-add r columns c l, mod-mul-add r columns c l) refl

-- a switch by its row and column
pub place-a : (columns s : ℕ) → s % 2 ≡ 0 → 2 * (s / 2 / columns * columns + s / 2 % columns) ≡ s
place-a columns s e = omega (arith, div-add-mod' (s / 2) columns)

pub place-b : (columns s : ℕ) → s % 2 ≡ 1 → 2 * (s / 2 / columns * columns + s / 2 % columns) + 1 ≡ s
place-b columns s e = omega (arith, div-add-mod' (s / 2) columns)
