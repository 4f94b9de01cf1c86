-- a search of 31 levels reaches all that any path reaches
use Rattle.std.proofs.Common.{◌≡◌, ℕ, zero, suc, ◌+◌, ◌*◌, ◌<◌, ◌≤◌, Bool, true, false, cond, not, ◌&&◌, ◌||◌, ◌⊎◌, inl, inr, List, length}
use Rattle.std.proofs.Common.{refl, sym, ap, ◌∙◌, arith}
use Rattle.std.proofs.lemmas.Bool.{false≢true, cases_Bool, cases_eq, cases_lt, and_parts, and_right, not-true}
use Rattle.route_plan.specs.Distances.{Switches, is_living, some_below, comes, distance}
use Rattle.route_plan.specs.Paths.{IsPathTo}
use Rattle.route_plan.specs.Tables.{IsSized}
use Rattle.route_plan.proofs.Grids.{after-there, before-there, partner-there}
use Rattle.route_plan.proofs.Least.{some_below-found, some_below-false}
use Rattle.route_plan.proofs.Levels.{nearby, IsStill, comes-more, comes-fewer, comes-step, comes-still, distance-le}
use Rattle.route_plan.proofs.Walks.{path-comes}

-- how many numbers below a bound pass a test
how_many : ℕ → (ℕ → Bool) → ℕ
how_many zero p = 0
how_many (suc n) p = cond (p n) 1 0 + how_many n p

least_step : (b : Bool) (n h : ℕ) → h ≤ n → cond b 1 0 + h ≤ suc n
least_step true n h l = omega arith
least_step false n h l = omega arith

how_many-le : (n : ℕ) (p : ℕ → Bool) → how_many n p ≤ n
unfolding how_many
how_many-le zero p = omega arith
how_many-le (suc n) p = least_step (p n) n (how_many n p) (how_many-le n p)

all_step : (b : Bool) (n h : ℕ) → h ≤ n → suc n ≤ cond b 1 0 + h → (b ≡ true) × (n ≤ h)
all_step true n h l m = (refl, omega arith)
all_step false n h l m = absurd (omega arith)

how_many-all : (n : ℕ) (p : ℕ → Bool) → n ≤ how_many n p → (k : ℕ) → k < n → p k ≡ true
unfolding how_many
how_many-all zero p l k i = absurd (omega arith)
how_many-all (suc n) p l k i =
    let h = all_step (p n) n (how_many n p) (how_many-le n p) l in
    elim (cases_eq k n) [ inl e ↦ ap p e ∙ h.0 | inr d ↦ how_many-all n p h.1 k (omega arith) ]

more_step : (b c : Bool) (h i : ℕ) → (b ≡ true → c ≡ true) → h ≤ i → cond b 1 0 + h ≤ cond c 1 0 + i
more_step true true h i e l = omega arith
more_step true false h i e l = absurd (false≢true (e refl))
more_step false true h i e l = omega arith
more_step false false h i e l = omega arith

how_many-more : (n : ℕ) (p q : ℕ → Bool) → ((k : ℕ) → p k ≡ true → q k ≡ true) → how_many n p ≤ how_many n q
unfolding how_many
how_many-more zero p q h = omega arith
how_many-more (suc n) p q h = more_step (p n) (q n) (how_many n p) (how_many n q) (h n) (how_many-more n p q h)

one_step : (b c : Bool) (h i : ℕ) → (b ≡ true → c ≡ true) → h < i → cond b 1 0 + h < cond c 1 0 + i
one_step true true h i e l = omega arith
one_step true false h i e l = absurd (false≢true (e refl))
one_step false true h i e l = omega arith
one_step false false h i e l = omega arith

new_step : (b c : Bool) (h i : ℕ) → b ≡ false → c ≡ true → h ≤ i → cond b 1 0 + h < cond c 1 0 + i
new_step b c h i e f l = rw (e, f) (omega arith)

-- one more, where one passes that didn't
how_many-one : (n : ℕ) (p q : ℕ → Bool) (k : ℕ) → ((k : ℕ) → p k ≡ true → q k ≡ true) → k < n → p k ≡ false → q k ≡ true →
    how_many n p < how_many n q
unfolding how_many
how_many-one zero p q k h l e f = absurd (omega arith)
how_many-one (suc n) p q k h l e f =
    elim (cases_eq k n) [
      | inl i ↦ new_step (p n) (q n) (how_many n p) (how_many n q) (ap p (sym i) ∙ e) (ap q (sym i) ∙ f) (how_many-more n p q h)
      | inr d ↦ one_step (p n) (q n) (how_many n p) (how_many n q) (h n) (how_many-one n p q k h (omega arith) e f)
    ]

-- one at least, where one passes
how_many-some : (n : ℕ) (q : ℕ → Bool) (k : ℕ) → k < n → q k ≡ true → 1 ≤ how_many n q
how_many-some n q k l e =
    let h : how_many n (λ k. false) < how_many n q = how_many-one n (λ k. false) q k (λ k f. absurd (false≢true f)) l refl e in omega arith

-- either a level is still, or it has more switches than levels came before
abbrev Counted : Switches → ℕ → ℕ → Type 0
Counted m to k = IsStill m to k ⊎ (k < how_many (2 * m.nodes) (λ s. comes m to k s))

same_step : (b c : Bool) → (c ≡ true → b ≡ true) → (b && not c) ≡ false → b ≡ c
same_step true true h e = refl
same_step true false h e = e
same_step false true h e = h refl
same_step false false h e = refl

still_at : (m : Switches) (to k : ℕ) → some_below (2 * m.nodes) (λ s. comes m to (suc k) s && not (comes m to k s)) ≡ false → IsStill m to k
still_at m to k e s l =
    same_step (comes m to (suc k) s) (comes m to k s) (comes-more m to k s)
    (some_below-false (2 * m.nodes) (λ s. comes m to (suc k) s && not (comes m to k s)) s l e)

empty_step : (b : Bool) (x y z : Bool) → x ≡ false → y ≡ false → z ≡ false → (b && (x || y || z)) ≡ false
empty_step b x y z e f g = rw (e, f, g) (and_right b false refl)

empty_still : (m : Switches) (to : ℕ) → IsSized m → some_below (2 * m.nodes) (λ s. comes m to 0 s) ≡ false → IsStill m to 0
unfolding nearby
empty_still m to z e s l =
    comes-step m to 0 s z l (none s l) ∙
    (empty_step (is_living m s) _ _ _ (none _ (after-there m.nodes s z.some z.few l)) (none _ (before-there m.nodes s z.some z.few l))
    (none _ (partner-there s m.nodes l)) ∙ sym (none s l))
  where
    none : (t : ℕ) → t < 2 * m.nodes → comes m to 0 t ≡ false
    none t i = some_below-false (2 * m.nodes) (λ s. comes m to 0 s) t i e

first_counted : (m : Switches) (to : ℕ) → IsSized m → Counted m to 0
first_counted m to z = elim (cases_Bool (some_below (2 * m.nodes) (λ s. comes m to 0 s))) [
  | inl e ↦ (let f = some_below-found (2 * m.nodes) (λ s. comes m to 0 s) e in
      inr (how_many-some (2 * m.nodes) (λ s. comes m to 0 s) f.at f.below f.passes))
  | inr e ↦ inl (empty_still m to z e)
]

later_counted : (m : Switches) (to k : ℕ) → IsSized m → Counted m to k → Counted m to (suc k)
later_counted m to k z (inl w) =
    inl (λ s l. comes-still m to k (suc (suc k)) s z w (omega arith) l ∙ sym (comes-still m to k (suc k) s z w (omega arith) l))
later_counted m to k z (inr h) = elim (cases_Bool (some_below (2 * m.nodes) (λ s. comes m to (suc k) s && not (comes m to k s)))) [
  | inl e ↦ (
      let f = some_below-found (2 * m.nodes) (λ s. comes m to (suc k) s && not (comes m to k s)) e in
      let p = and_parts (comes m to (suc k) f.at) (not (comes m to k f.at)) f.passes in
      let g : how_many (2 * m.nodes) (λ s. comes m to k s) < how_many (2 * m.nodes) (λ s. comes m to (suc k) s) =
      how_many-one (2 * m.nodes) (λ s. comes m to k s) (λ s. comes m to (suc k) s) f.at (comes-more m to k) f.below (not-true _ p.1) p.0 in
      inr (omega arith))
  | inr e ↦ (let w = still_at m to k e in
      inl (λ s l. comes-still m to k (suc (suc k)) s z w (omega arith) l ∙ sym (comes-still m to k (suc k) s z w (omega arith) l)))
]

counted : (m : Switches) (to k : ℕ) → IsSized m → Counted m to k
counted m to zero z = first_counted m to z
counted m to (suc k) z = later_counted m to k z (counted m to k z)

still_end : (m : Switches) (to : ℕ) → IsSized m → Counted m to 31 → IsStill m to 31
still_end m to z (inl w) = w
still_end m to z (inr h) =
    let l : 2 * m.nodes ≤ how_many (2 * m.nodes) (λ s. comes m to 31 s) = omega (arith, z.few) in
    λ s i. (let e = how_many-all (2 * m.nodes) (λ s. comes m to 31 s) l s i in comes-more m to 31 s e ∙ sym e)

reach_step : (m : Switches) (to n s : ℕ) → IsSized m → s < 2 * m.nodes → comes m to n s ≡ true → (31 ≤ n) ⊎ (n < 31) →
    comes m to 31 s ≡ false → comes m to 31 s ≡ true
reach_step m to n s z l e (inl h) f = sym (comes-still m to 31 n s z (still_end m to z (counted m to 31 z)) h l) ∙ e
reach_step m to n s z l e (inr h) f = absurd (false≢true (sym (comes-fewer m to s 31 n f (omega arith)) ∙ e))

pub reach : (m : Switches) (to n s : ℕ) → IsSized m → s < 2 * m.nodes → comes m to n s ≡ true → comes m to 31 s ≡ true
reach m to n s z l e = elim (cases_Bool (comes m to 31 s)) [ inl h ↦ h | inr h ↦ reach_step m to n s z l e (either (cases_lt n 31)) h ]
  where
    either : (n < 31) ⊎ (31 ≤ n) → (31 ≤ n) ⊎ (n < 31)
    either (inl h) = inr h
    either (inr h) = inl h

-- a switch that any path leads from has a distance
pub leads-distance : (m : Switches) (to s : ℕ) (others : List ℕ) → IsSized m → s < 2 * m.nodes → IsPathTo m to s others → distance m to s < 32
leads-distance m to s others z l p =
    let h : distance m to s ≤ 31 = distance-le m to s 31 (reach m to (length others) s z l (path-comes m to s others p.path p.ends)) in
    omega arith
