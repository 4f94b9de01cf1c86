-- where a message goes on to, by the distances of three neighbours
use Rattle.std.proofs.Common.{◌≡◌, ℕ, ◌+◌, ◌*◌, ◌<◌, ◌≤◌, ◌≢◌, min, Bool, true, false, cond, ◌&&◌, eqb, leb, ltb, ◌⊎◌, inl, inr, List, []}
use Rattle.std.proofs.Common.{◌∷◌, get_or, Some, None, refl, sym, ap, arith}
use Rattle.std.proofs.lemmas.Bool.{and_from, eqb-true, le-leb, le-ltb, lt-ltb}
use Rattle.route_plan.specs.Grid.{is_linked, along, after, before, partner}
use Rattle.route_plan.specs.Distances.{Switches, least_below, distance}
use Rattle.route_plan.specs.Routes.{next_of, is_cut_off, cut_off_from, first_cut_off}
use Rattle.route_plan.specs.Tables.{IsSized}
use Rattle.route_plan.proofs.Grids.{after-there}
use Rattle.route_plan.proofs.Least.{least_below-is, least_below-le}
use Rattle.route_plan.proofs.Levels.{linked-from, linked-is, far_step}

pub distance-most : (m : Switches) (to s : ℕ) → distance m to s ≤ 32
unfolding distance
distance-most m to s = least_below-le 32 _

-- the switch itself where it is one link nearer than another
abbrev pub nearer : Switches → ℕ → ℕ → ℕ → ℕ
nearer m to s t = cond (eqb (distance m to t + 1) (distance m to s)) t (2 * m.nodes)

not_nearer : (b : Bool) (x n k : ℕ) → k ≤ cond b x n → x < k → b ≡ false
not_nearer true x n k l i = absurd (omega arith)
not_nearer false x n k l i = refl

is_nearer : (b : Bool) (x n k : ℕ) → k ≡ cond b x n → k < n → (b ≡ true) × (k ≡ x)
is_nearer true x n k e l = (refl, e)
is_nearer false x n k e l = absurd (omega arith)

nearer_most : (b : Bool) (x n : ℕ) → x < n → cond b x n ≤ n
nearer_most true x n l = omega arith
nearer_most false x n l = omega arith

one_of_three : (x y z : ℕ) → (min (min x y) z ≡ x) ⊎ ((min (min x y) z ≡ y) ⊎ (min (min x y) z ≡ z))
one_of_three x y z = grind arith

passed_over : (m : Switches) (to s k x t : ℕ) → k ≤ nearer m to s x → t < k → t ≡ x → eqb (distance m to t + 1) (distance m to s) ≡ false
passed_over m to s k x t l i e = rw e (not_nearer (eqb (distance m to x + 1) (distance m to s)) x (2 * m.nodes) k l (omega arith))

chosen : (m : Switches) (to s k x : ℕ) → k ≡ nearer m to s x → k < 2 * m.nodes →
    ((t : ℕ) → t ≡ x → (t ≡ along after m.nodes s) ⊎ ((t ≡ along before m.nodes s) ⊎ (t ≡ partner s))) →
    (is_linked m.nodes s k && eqb (distance m to k + 1) (distance m to s)) ≡ true
chosen m to s k x e l h =
    let n = is_nearer (eqb (distance m to x + 1) (distance m to s)) x (2 * m.nodes) k e l in
    rw n.1 (and_from (is_linked m.nodes s x) (eqb (distance m to x + 1) (distance m to s))
    (linked-is m.nodes s x (apart n.0) (h x refl)) n.0)
  where
    apart : eqb (distance m to x + 1) (distance m to s) ≡ true → s ≢ x
    apart f i = let g : distance m to x + 1 ≡ distance m to s = eqb-true (distance m to x + 1) (distance m to s) f in
        let j : distance m to s ≡ distance m to x = ap (λ t. distance m to t) i in absurd (omega arith)

abbrev pub nearest : Switches → ℕ → ℕ → ℕ
nearest m to s = min (min (nearer m to s (along after m.nodes s)) (nearer m to s (along before m.nodes s))) (nearer m to s (partner s))

nearest-is : (m : Switches) (to s : ℕ) → IsSized m → s < 2 * m.nodes →
    least_below (2 * m.nodes) (λ t. is_linked m.nodes s t && eqb (distance m to t + 1) (distance m to s)) ≡ nearest m to s
nearest-is m to s z l = least_below-is (2 * m.nodes) _ (nearest m to s) (omega (arith, most)) below at
  where
    a : ℕ
    a = along after m.nodes s

    most : nearer m to s (along after m.nodes s) ≤ 2 * m.nodes
    most = nearer_most _ (along after m.nodes s) (2 * m.nodes) (after-there m.nodes s z.some z.few l)

    below : (t : ℕ) → t < nearest m to s → (is_linked m.nodes s t && eqb (distance m to t + 1) (distance m to s)) ≡ false
    below t i = far_step (is_linked m.nodes s t) _ (λ e. elim (linked-from m.nodes s t e) [
      | inl h ↦ passed_over m to s (nearest m to s) (along after m.nodes s) t (omega arith) i h
      | inr h ↦ elim h [
        | inl g ↦ passed_over m to s (nearest m to s) (along before m.nodes s) t (omega arith) i g
        | inr g ↦ passed_over m to s (nearest m to s) (partner s) t (omega arith) i g
      ]
    ])

    at : nearest m to s < 2 * m.nodes →
        (is_linked m.nodes s (nearest m to s) && eqb (distance m to (nearest m to s) + 1) (distance m to s)) ≡ true
    at i =
        elim (one_of_three (nearer m to s (along after m.nodes s)) (nearer m to s (along before m.nodes s)) (nearer m to s (partner s))) [
          | inl h ↦ chosen m to s (nearest m to s) (along after m.nodes s) h i (λ t e. inl e)
          | inr h ↦ elim h [
            | inl g ↦ chosen m to s (nearest m to s) (along before m.nodes s) g i (λ t e. inr (inl e))
            | inr g ↦ chosen m to s (nearest m to s) (partner s) g i (λ t e. inr (inr e))
          ]
        ]

-- the least of three answers, as the code takes it
pub nearest-by : (m : Switches) (to s grid links x y z a b : ℕ) (r : List ℕ) → grid ≡ m.nodes → links ≡ distance m to s →
    r ≡ along after grid s ∷ along before grid s ∷ partner s ∷ [] →
    x ≡ cond (eqb (distance m to (get_or r 0 0) + 1) links) (get_or r 0 0) (2 * m.nodes) →
    y ≡ cond (eqb (distance m to (get_or r 1 0) + 1) links) (get_or r 1 0) (2 * m.nodes) →
    z ≡ cond (eqb (distance m to (get_or r 2 0) + 1) links) (get_or r 2 0) (2 * m.nodes) →
    a ≡ min x y → b ≡ min a z → b ≡ nearest m to s
nearest-by m to s grid links x y z a b r g l n e f h i j = rw (j, i, e, f, h, n, l, g) refl

pub next-some : (m : Switches) (to s k : ℕ) → IsSized m → s < 2 * m.nodes → k ≡ nearest m to s → k < 2 * m.nodes → Some k ≡ next_of m to s
unfolding next_of
next-some m to s k z l e i = rw (nearest-is m to s z l, ← e, lt-ltb k (2 * m.nodes) i) refl

pub next-none : (m : Switches) (to s k : ℕ) → IsSized m → s < 2 * m.nodes → k ≡ nearest m to s → 2 * m.nodes ≤ k → None ≡ next_of m to s
unfolding next_of
next-none m to s k z l e i = rw (nearest-is m to s z l, ← e, le-ltb k (2 * m.nodes) i) refl

-- the first that is cut off from a
pub cut_off-found : (m : Switches) (a b : ℕ) → a ≤ b → b < m.nodes → ((c : ℕ) → c < b → (leb a c && is_cut_off m a c) ≡ false) →
    is_cut_off m a b ≡ true →
    b ≡ cut_off_from m a
unfolding cut_off_from
cut_off-found m a b o l h e = sym (least_below-is m.nodes _ b (omega arith) h (λ i. and_from (leb a b) (is_cut_off m a b) (le-leb a b o) e))

pub cut_off-none : (m : Switches) (a : ℕ) → ((c : ℕ) → c < m.nodes → (leb a c && is_cut_off m a c) ≡ false) → cut_off_from m a ≡ m.nodes
unfolding cut_off_from
cut_off-none m a h = least_below-is m.nodes _ m.nodes (omega arith) h (λ i. absurd (omega arith))

pub pair-found : (m : Switches) (a b : ℕ) → a < m.nodes → b < m.nodes → ((c : ℕ) → c < a → cut_off_from m c ≡ m.nodes) →
    b ≡ cut_off_from m a →
    Some (a, b) ≡ first_cut_off m
unfolding first_cut_off
pair-found m a b l i h e =
    let f : least_below m.nodes (λ a. ltb (cut_off_from m a) m.nodes) ≡ a =
    least_below-is m.nodes _ a (omega arith) (λ c n. rw (h c n) (le-ltb m.nodes m.nodes (omega arith)))
    (λ n. rw (← e) (lt-ltb b m.nodes i)) in
    rw (f, lt-ltb a m.nodes l, ← e) refl

pub pair-none : (m : Switches) → ((c : ℕ) → c < m.nodes → cut_off_from m c ≡ m.nodes) → None ≡ first_cut_off m
unfolding first_cut_off
pair-none m h =
    let f : least_below m.nodes (λ a. ltb (cut_off_from m a) m.nodes) ≡ m.nodes =
    least_below-is m.nodes _ m.nodes (omega arith) (λ c n. rw (h c n) (le-ltb m.nodes m.nodes (omega arith))) (λ n. absurd (omega arith)) in
    rw (f, le-ltb m.nodes m.nodes (omega arith)) refl
