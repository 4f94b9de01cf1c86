-- a level's table while it is filled, switch by switch
use Rattle.std.proofs.Common.{◌≡◌, ℕ, ◌+◌, ◌*◌, ◌/◌, ◌<◌, ◌≤◌, ◌≢◌, Bool, true, false, not, ◌&&◌, cond, eqb, ltb, inl, inr, List, length}
use Rattle.std.proofs.Common.{get_or, set, refl, sym, ◌∙◌, arith}
use Rattle.std.proofs.lemmas.Bool.{cases_eq, ne_eqb, eq-eqb, lt-ltb, and_right}
use Rattle.std.proofs.lemmas.Grind.{common_steps}
use Rattle.route_plan.specs.Distances.{Switches, is_dead, is_living}
use Rattle.route_plan.specs.Tables.{level_after, is_next}

-- the table after a switch was looked at
pub record Grown (m : Switches) (links i : ℕ) (before table : List ℕ) (grew : Bool) : Type 0 where
  pub done : (s : ℕ) → s < i → get_or table s 0 ≡ level_after m links before s
  pub left : (s : ℕ) → i ≤ s → get_or table s 0 ≡ get_or before s 0
  pub still : grew ≡ false → (s : ℕ) → s < i → get_or table s 0 ≡ get_or before s 0

pub joined : (m : Switches) (links i : ℕ) (before table : List ℕ) (grew : Bool) → i < length table → Grown m links i before table grew →
    is_next m links before i ≡ true → Grown m links (i + 1) before (set table i (links + 1)) true
unfolding level_after
joined m links i before table grew l k e = record {
  done = λ s n. grind (arith, common_steps, k.done s);
  left = λ s n. grind (arith, common_steps, k.left s);
  still = λ f s n. grind (arith);
}

pub passed : (m : Switches) (links i : ℕ) (before table : List ℕ) (grew : Bool) → Grown m links i before table grew →
    is_next m links before i ≡ false → Grown m links (i + 1) before table grew
unfolding level_after
passed m links i before table grew k e = record {
  done = λ s n. grind (arith, common_steps, k.done s, k.left s);
  left = λ s n. grind (arith, common_steps, k.left s);
  still = λ f s n. grind (arith, common_steps, k.still f s, k.left s);
}

here : (s n to : ℕ) (d : Bool) → s < 2 * n → s / 2 ≡ to → ◌≡◌ {A = ℕ} (cond d 32 0) (cond (ltb s (2 * n) && not d && eqb (s / 2) to) 0 32)
here s n to true l e = rw (lt-ltb s (2 * n) l) refl
here s n to false l e = rw (lt-ltb s (2 * n) l, eq-eqb (s / 2) to e) refl

elsewhere : (s to : ℕ) (b : Bool) → s / 2 ≢ to → ◌≡◌ {A = ℕ} (cond (b && eqb (s / 2) to) 0 32) 32
elsewhere s to b d = rw (ne_eqb (s / 2) to d, and_right b false refl) refl

-- the first table, in which the node's own switches are written
pub first_table : (m : Switches) (to s : ℕ) (base : List ℕ) → length base ≡ 32 → ((s : ℕ) → s < 32 → get_or base s 0 ≡ 32) →
    m.nodes ≤ 16 → to < m.nodes → s < 2 * m.nodes →
    get_or (set (set base (2 * to) (cond (is_dead m.dead (2 * to)) 32 0)) (2 * to + 1) (cond (is_dead m.dead (2 * to + 1)) 32 0)) s 0 ≡
    cond (is_living m s && eqb (s / 2) to) 0 32
unfolding is_living
first_table m to s base long all few there l =
    elim (cases_eq s (2 * to)) [
      | inl i ↦ rw i (at_first (cond (is_dead m.dead (2 * to)) 32 0) (cond (is_dead m.dead (2 * to + 1)) 32 0)
          ∙ here (2 * to) m.nodes to (is_dead m.dead (2 * to)) (omega arith) (omega arith))
      | inr i ↦ elim (cases_eq s (2 * to + 1)) [
        | inl j ↦ rw j (at_second (cond (is_dead m.dead (2 * to)) 32 0) (cond (is_dead m.dead (2 * to + 1)) 32 0)
            ∙ here (2 * to + 1) m.nodes to (is_dead m.dead (2 * to + 1)) (omega arith) (omega arith))
        | inr j ↦ at_other i j (cond (is_dead m.dead (2 * to)) 32 0) (cond (is_dead m.dead (2 * to + 1)) 32 0)
            ∙ sym (elsewhere s to (ltb s (2 * m.nodes) && not (is_dead m.dead s)) (λ e. absurd (omega arith)))
      ]
    ]
  where
    at_first : (x y : ℕ) → get_or (set (set base (2 * to) x) (2 * to + 1) y) (2 * to) 0 ≡ x
    at_first x y = grind (arith, common_steps)

    at_second : (x y : ℕ) → get_or (set (set base (2 * to) x) (2 * to + 1) y) (2 * to + 1) 0 ≡ y
    at_second x y = grind (arith, common_steps)

    at_other : s ≢ 2 * to → s ≢ 2 * to + 1 → (x y : ℕ) → get_or (set (set base (2 * to) x) (2 * to + 1) y) s 0 ≡ 32
    at_other i j x y = grind (arith, common_steps, all s)
