-- levels of a search that goes out from a node, and the distances that they give
use Rattle.std.proofs.Common.{◌≡◌, ℕ, zero, suc, ◌+◌, ◌*◌, ◌/◌, ◌<◌, ◌≤◌, ◌≢◌, Bool, true, false, cond, not, ◌&&◌, ◌||◌, eqb, leb, ◌⊎◌, inl}
use Rattle.std.proofs.Common.{inr, List, get_or, refl, sym, ap, ◌∙◌, add-one, arith}
use Rattle.std.proofs.lemmas.Bool.Decides.{nat_tests}
use Rattle.std.proofs.lemmas.Bool.{false≢true, cases_eq, and_parts, and_from, or_cases, eqb-true, ne_eqb, le-leb, lt-leb}
use Rattle.route_plan.specs.Grid.{is_linked, along, after, before, partner}
use Rattle.route_plan.specs.Distances.{Switches, is_living, some_below, comes, distance}
use Rattle.route_plan.specs.Tables.{IsSized, level, IsLevel, is_near, is_next, level_after}
use Rattle.route_plan.proofs.Grids.{after-there, before-there, partner-there}
use Rattle.route_plan.proofs.Least.{least_below-at, least_below-is, least_below-passes, some_below-true, some_below-none, some_below-same}

or_left : (b c : Bool) → b ≡ true → (b || c) ≡ true
or_left b c e = grind arith

or_neither : (b c : Bool) → (b || c) ≡ false → b ≡ false
or_neither b c e = grind arith

-- a switch that comes over at most k links comes over at most k + 1
pub comes-more : (m : Switches) (to k s : ℕ) → comes m to k s ≡ true → comes m to (suc k) s ≡ true
unfolding comes
comes-more m to k s e = or_left (comes m to k s) _ e

not_yet : (m : Switches) (to k s : ℕ) → comes m to (suc k) s ≡ false → comes m to k s ≡ false
unfolding comes
not_yet m to k s e = or_neither (comes m to k s) _ e

fewer_step : (m : Switches) (to s k j : ℕ) → ((i : ℕ) → i ≤ k → comes m to i s ≡ false) → comes m to (suc k) s ≡ false →
    j ≤ suc k → (j ≡ suc k) ⊎ (j ≡ suc k → ⊥) → comes m to j s ≡ false
fewer_step m to s k j h e l (inl i) = rw i e
fewer_step m to s k j h e l (inr i) = h j (omega arith)

pub comes-fewer : (m : Switches) (to s k j : ℕ) → comes m to k s ≡ false → j ≤ k → comes m to j s ≡ false
comes-fewer m to s zero j e l = let i : j ≡ 0 = omega arith in rw i e
comes-fewer m to s (suc k) j e l = fewer_step m to s k j (λ i n. comes-fewer m to s k i (not_yet m to k s e) n) e l (cases_eq j (suc k))

pub distance-le : (m : Switches) (to s k : ℕ) → comes m to k s ≡ true → distance m to s ≤ k
unfolding distance
distance-le m to s k e = least_below-at 32 (λ k. comes m to k s) k e

pub distance-first : (m : Switches) (to s k : ℕ) → comes m to k s ≡ false → comes m to (suc k) s ≡ true → suc k < 32 →
    distance m to s ≡ suc k
unfolding distance
distance-first m to s k e f l =
    least_below-is 32 (λ k. comes m to k s) (suc k) (omega arith) (λ j n. comes-fewer m to s k j e (omega arith)) (λ n. f)

pub distance-none : (m : Switches) (to s : ℕ) → comes m to 31 s ≡ false → distance m to s ≡ 32
unfolding distance
distance-none m to s e =
    least_below-is 32 (λ k. comes m to k s) 32 (omega arith) (λ j n. comes-fewer m to s 31 j e (omega arith)) (λ n. absurd (omega arith))

pub distance-comes : (m : Switches) (to s : ℕ) → distance m to s < 32 → comes m to (distance m to s) s ≡ true
unfolding distance
distance-comes m to s l = least_below-passes 32 (λ k. comes m to k s) l

pub level-in : (m : Switches) (to k s : ℕ) → comes m to k s ≡ true → level m to k s ≡ distance m to s
unfolding level
level-in m to k s e = rw e refl

pub level-out : (m : Switches) (to k s : ℕ) → comes m to k s ≡ false → level m to k s ≡ 32
unfolding level
level-out m to k s e = rw e refl

reached_step : (m : Switches) (to k s : ℕ) → k < 32 → (b : Bool) → comes m to k s ≡ b → leb (level m to k s) k ≡ b
reached_step m to k s l true e = rw (level-in m to k s e) (le-leb (distance m to s) k (distance-le m to s k e))
reached_step m to k s l false e = rw (level-out m to k s e) (lt-leb 32 k l)

-- a level's table tells which switches come over so many links
pub reached : (m : Switches) (to k s : ℕ) → k < 32 → leb (level m to k s) k ≡ comes m to k s
reached m to k s l = reached_step m to k s l (comes m to k s) refl

linked_parts : (s t a b p : ℕ) → (not (eqb s t) && (eqb t a || eqb t b || eqb t p)) ≡ true → (t ≡ a) ⊎ ((t ≡ b) ⊎ (t ≡ p))
linked_parts s t a b p e =
    elim (or_cases (eqb t a || eqb t b) (eqb t p) (and_parts (not (eqb s t)) _ e).1) [
      | inl h ↦ elim (or_cases (eqb t a) (eqb t b) h) [ inl g ↦ inl (eqb-true t a g) | inr g ↦ inr (inl (eqb-true t b g)) ]
      | inr h ↦ inr (inr (eqb-true t p h))
    ]

pub linked-from : (n s t : ℕ) → is_linked n s t ≡ true → (t ≡ along after n s) ⊎ ((t ≡ along before n s) ⊎ (t ≡ partner s))
unfolding is_linked
linked-from n s t e = linked_parts s t _ _ _ e

linked_first : (s t a b p : ℕ) → s ≢ t → t ≡ a → (not (eqb s t) && (eqb t a || eqb t b || eqb t p)) ≡ true
linked_first s t a b p d e = grind (arith, nat_tests)

linked_second : (s t a b p : ℕ) → s ≢ t → t ≡ b → (not (eqb s t) && (eqb t a || eqb t b || eqb t p)) ≡ true
linked_second s t a b p d e = grind (arith, nat_tests)

linked_third : (s t a b p : ℕ) → s ≢ t → t ≡ p → (not (eqb s t) && (eqb t a || eqb t b || eqb t p)) ≡ true
linked_third s t a b p d e = grind (arith, nat_tests)

pub linked-is : (n s t : ℕ) → s ≢ t → (t ≡ along after n s) ⊎ ((t ≡ along before n s) ⊎ (t ≡ partner s)) → is_linked n s t ≡ true
unfolding is_linked
linked-is n s t d (inl e) = linked_first s t _ _ _ d e
linked-is n s t d (inr (inl e)) = linked_second s t _ _ _ d e
linked-is n s t d (inr (inr e)) = linked_third s t _ _ _ d e

apart_step : (s t : ℕ) (b : Bool) → (not (eqb s t) && b) ≡ true → s ≢ t
apart_step s t b e h = grind (arith, nat_tests)

-- a switch isn't linked with itself
pub linked-apart : (n s t : ℕ) → is_linked n s t ≡ true → s ≢ t
unfolding is_linked
linked-apart n s t e = apart_step s t (eqb t (along after n s) || eqb t (along before n s) || eqb t (partner s)) e

-- what a neighbour has
of_neighbour : (m : Switches) (s t : ℕ) (P : ℕ → Type 0) → P (along after m.nodes s) → P (along before m.nodes s) → P (partner s) →
    (t ≡ along after m.nodes s) ⊎ ((t ≡ along before m.nodes s) ⊎ (t ≡ partner s)) → P t
of_neighbour m s t P a b p (inl e) = rw e a
of_neighbour m s t P a b p (inr (inl e)) = rw e b
of_neighbour m s t P a b p (inr (inr e)) = rw e p

pub linked-there : (m : Switches) (s t : ℕ) → IsSized m → s < 2 * m.nodes → is_linked m.nodes s t ≡ true → t < 2 * m.nodes
linked-there m s t z l e =
    of_neighbour m s t (λ t. t < 2 * m.nodes) (after-there m.nodes s z.some z.few l) (before-there m.nodes s z.some z.few l)
    (partner-there s m.nodes l)
    (linked-from m.nodes s t e)

-- some neighbour comes over at most k links
unfoldable pub nearby : Switches → ℕ → ℕ → ℕ → Bool
nearby m to k s = comes m to k (along after m.nodes s) || comes m to k (along before m.nodes s) || comes m to k (partner s)

near_step : (a b p k : ℕ) (x y z : Bool) → leb a k ≡ x → leb b k ≡ y → leb p k ≡ z → (leb a k || leb b k || leb p k) ≡ (x || y || z)
near_step a b p k x y z e f g = rw (e, f, g) refl

near-level : (m : Switches) (to k s : ℕ) (table : List ℕ) → IsSized m → IsLevel m to k table → k < 32 → s < 2 * m.nodes →
    is_near m.nodes k table s ≡ nearby m to k s
unfolding is_near nearby
near-level m to k s table z h l n =
    near_step (get_or table (along after m.nodes s) 0) (get_or table (along before m.nodes s) 0) (get_or table (partner s) 0) k _ _ _
    (at (along after m.nodes s) (after-there m.nodes s z.some z.few n))
    (at (along before m.nodes s) (before-there m.nodes s z.some z.few n))
    (at (partner s) (partner-there s m.nodes n))
  where
    at : (t : ℕ) → t < 2 * m.nodes → leb (get_or table t 0) k ≡ comes m to k t
    at t i = ap (λ x. leb x k) (h t i) ∙ reached m to k t l

comes_other : (m : Switches) (to k s t : ℕ) → comes m to k s ≡ false → comes m to k t ≡ true → s ≢ t
comes_other m to k s t e f h = false≢true (sym e ∙ (ap (λ x. comes m to k x) h ∙ f))

linked-near : (m : Switches) (to k s t : ℕ) → comes m to k s ≡ false → t < 2 * m.nodes → comes m to k t ≡ true →
    (t ≡ along after m.nodes s) ⊎ ((t ≡ along before m.nodes s) ⊎ (t ≡ partner s)) →
    some_below (2 * m.nodes) (λ t. is_linked m.nodes s t && comes m to k t) ≡ true
linked-near m to k s t e l f h =
    some_below-true (2 * m.nodes) _ t l
    (and_from (is_linked m.nodes s t) (comes m to k t) (linked-is m.nodes s t (comes_other m to k s t e f) h) f)

or_three : (x y z : Bool) → (x || y || z) ≡ true → (x ≡ true) ⊎ ((y ≡ true) ⊎ (z ≡ true))
or_three true y z e = inl refl
or_three false true z e = inr (inl refl)
or_three false false z e = inr (inr e)

none_three : (x y z : Bool) → (x || y || z) ≡ false → (x ≡ false) × (y ≡ false) × (z ≡ false)
none_three x y z e = (grind arith, grind arith, grind arith)

is_near_by : (m : Switches) (to k s : ℕ) → IsSized m → s < 2 * m.nodes → comes m to k s ≡ false →
    (comes m to k (along after m.nodes s) ≡ true) ⊎ ((comes m to k (along before m.nodes s) ≡ true) ⊎ (comes m to k (partner s) ≡ true)) →
    some_below (2 * m.nodes) (λ t. is_linked m.nodes s t && comes m to k t) ≡ true
is_near_by m to k s z l e (inl f) = linked-near m to k s _ e (after-there m.nodes s z.some z.few l) f (inl refl)
is_near_by m to k s z l e (inr (inl f)) = linked-near m to k s _ e (before-there m.nodes s z.some z.few l) f (inr (inl refl))
is_near_by m to k s z l e (inr (inr f)) = linked-near m to k s _ e (partner-there s m.nodes l) f (inr (inr refl))

pub far_step : (x y : Bool) → (x ≡ true → y ≡ false) → (x && y) ≡ false
far_step true y h = h refl
far_step false y h = refl

some_nearby : (m : Switches) (to k s : ℕ) → IsSized m → s < 2 * m.nodes → comes m to k s ≡ false → (b : Bool) → nearby m to k s ≡ b →
    some_below (2 * m.nodes) (λ t. is_linked m.nodes s t && comes m to k t) ≡ b
unfolding nearby
some_nearby m to k s z l e true f = is_near_by m to k s z l e (or_three _ _ _ f)
some_nearby m to k s z l e false f =
    let h = none_three (comes m to k (along after m.nodes s)) (comes m to k (along before m.nodes s)) (comes m to k (partner s)) f in
    some_below-none (2 * m.nodes) _
    (λ t n. far_step (is_linked m.nodes s t) (comes m to k t)
    (λ g. of_neighbour m s t (λ t. comes m to k t ≡ false) h.0 h.1 h.2 (linked-from m.nodes s t g)))

-- whether a switch that doesn't come over k links comes over k + 1
pub comes-step : (m : Switches) (to k s : ℕ) → IsSized m → s < 2 * m.nodes → comes m to k s ≡ false →
    comes m to (suc k) s ≡ (is_living m s && nearby m to k s)
unfolding comes
comes-step m to k s z l e = rw (e, some_nearby m to k s z l e (nearby m to k s) refl) refl

next_apart : (m : Switches) (k s : ℕ) (table : List ℕ) → get_or table s 0 < 32 → is_next m k table s ≡ false
unfolding is_next
next_apart m k s table l = rw (ne_eqb (get_or table s 0) 32 (omega arith)) refl

grown_no : (m : Switches) (k s : ℕ) (table : List ℕ) → is_next m k table s ≡ false → level_after m k table s ≡ get_or table s 0
unfolding level_after
grown_no m k s table e = rw e refl

grown_yes : (m : Switches) (k s : ℕ) (table : List ℕ) → is_next m k table s ≡ true → level_after m k table s ≡ k + 1
unfolding level_after
grown_yes m k s table e = rw e refl

next_far : (m : Switches) (to k s : ℕ) (table : List ℕ) → IsSized m → IsLevel m to k table → k < 31 → s < 2 * m.nodes →
    comes m to k s ≡ false →
    is_next m k table s ≡ comes m to (suc k) s
unfolding is_next
next_far m to k s table z h l n e =
    let i : get_or table s 0 ≡ 32 = h s n ∙ level-out m to k s e in
    rw (i, near-level m to k s table z h (omega arith) n, comes-step m to k s z n e) refl

grown_far : (m : Switches) (to k s : ℕ) (table : List ℕ) → IsSized m → IsLevel m to k table → k < 31 → s < 2 * m.nodes →
    comes m to k s ≡ false →
    (b : Bool) → comes m to (suc k) s ≡ b → level_after m k table s ≡ level m to (suc k) s
grown_far m to k s table z h l n e true f =
    grown_yes m k s table (next_far m to k s table z h l n e ∙ f) ∙
    (add-one k ∙ sym (level-in m to (suc k) s f ∙ distance-first m to s k e f (omega arith)))
grown_far m to k s table z h l n e false f =
    grown_no m k s table (next_far m to k s table z h l n e ∙ f) ∙ (h s n ∙ (level-out m to k s e ∙ sym (level-out m to (suc k) s f)))

grown_by : (m : Switches) (to k s : ℕ) (table : List ℕ) → IsSized m → IsLevel m to k table → k < 31 → s < 2 * m.nodes →
    (b : Bool) → comes m to k s ≡ b → level_after m k table s ≡ level m to (suc k) s
grown_by m to k s table z h l n true e =
    let at : get_or table s 0 ≡ distance m to s = h s n ∙ level-in m to k s e in
    let near : distance m to s ≤ k = distance-le m to s k e in
    grown_no m k s table (next_apart m k s table (omega arith)) ∙ (at ∙ sym (level-in m to (suc k) s (comes-more m to k s e)))
grown_by m to k s table z h l n false e = grown_far m to k s table z h l n e (comes m to (suc k) s) refl

-- a level's table grows into the next one's
pub level-grows : (m : Switches) (to k s : ℕ) (table : List ℕ) → IsSized m → IsLevel m to k table → k < 31 → s < 2 * m.nodes →
    level_after m k table s ≡ level m to (k + 1) s
level-grows m to k s table z h l n = rw (add-one k) (grown_by m to k s table z h l n (comes m to k s) refl)

-- nothing is farther than 31 links
pub level-last : (m : Switches) (to s : ℕ) → level m to 31 s ≡ distance m to s
level-last m to s = last_step (comes m to 31 s) refl
  where
    last_step : (b : Bool) → comes m to 31 s ≡ b → level m to 31 s ≡ distance m to s
    last_step true e = level-in m to 31 s e
    last_step false e = level-out m to 31 s e ∙ sym (distance-none m to s e)

-- a level that reaches no more switches than the last one
abbrev pub IsStill : Switches → ℕ → ℕ → Type 0
IsStill m to k = (s : ℕ) → s < 2 * m.nodes → comes m to (suc k) s ≡ comes m to k s

some_still : (m : Switches) (to k n s : ℕ) → IsSized m → s < 2 * m.nodes → ((t : ℕ) → t < 2 * m.nodes → comes m to n t ≡ comes m to k t) →
    comes m to (suc n) s ≡ comes m to (suc k) s
unfolding comes
some_still m to k n s z l h =
    rw (
      h s l,
      some_below-same (2 * m.nodes) (λ t. is_linked m.nodes s t && comes m to n t) (λ t. is_linked m.nodes s t && comes m to k t)
          (λ t i. ap (λ x. is_linked m.nodes s t && x) (h t i)),
    ) refl

still_step : (m : Switches) (to k n s : ℕ) → IsSized m → IsStill m to k → s < 2 * m.nodes → k ≤ suc n →
    (k ≤ n → (t : ℕ) → t < 2 * m.nodes → comes m to n t ≡ comes m to k t) → (suc n ≡ k) ⊎ (suc n ≡ k → ⊥) →
    comes m to (suc n) s ≡ comes m to k s
still_step m to k n s z w l i h (inl e) = rw e refl
still_step m to k n s z w l i h (inr e) = some_still m to k n s z l (h (omega arith)) ∙ w s l

-- no later level reaches more
pub comes-still : (m : Switches) (to k n s : ℕ) → IsSized m → IsStill m to k → k ≤ n → s < 2 * m.nodes → comes m to n s ≡ comes m to k s
comes-still m to k zero s z w i l = let e : k ≡ 0 = omega arith in rw e refl
comes-still m to k (suc n) s z w i l = still_step m to k n s z w l i (λ j t u. comes-still m to k n t z w j u) (cases_eq (suc n) k)

still_last : (m : Switches) (to k s : ℕ) → IsSized m → IsStill m to k → k ≤ 31 → s < 2 * m.nodes → (b : Bool) → comes m to k s ≡ b →
    level m to k s ≡ distance m to s
still_last m to k s z w i l true e = level-in m to k s e
still_last m to k s z w i l false e = level-out m to k s e ∙ sym (distance-none m to s (comes-still m to k 31 s z w i l ∙ e))

-- so its table has all distances
pub level-still : (m : Switches) (to k s : ℕ) → IsSized m → IsStill m to k → k ≤ 31 → s < 2 * m.nodes → level m to k s ≡ distance m to s
level-still m to k s z w i l = still_last m to k s z w i l (comes m to k s) refl

-- a table that didn't grow is that of a level that is still
pub still-table : (m : Switches) (to k : ℕ) (old new : List ℕ) → IsSized m → IsLevel m to k old → k < 31 →
    ((s : ℕ) → s < 2 * m.nodes → get_or new s 0 ≡ level_after m k old s) → ((s : ℕ) → s < 2 * m.nodes → get_or new s 0 ≡ get_or old s 0) →
    IsStill m to k
still-table m to k old new z h l g e s n =
    let same : level m to (suc k) s ≡ level m to k s = sym (grown_by m to k s old z h l n (comes m to k s) refl)
    ∙ (sym (g s n) ∙ (e s n ∙ h s n)) in
    still_by (comes m to k s) refl same
  where
    still_by : (b : Bool) → comes m to k s ≡ b → level m to (suc k) s ≡ level m to k s → comes m to (suc k) s ≡ comes m to k s
    still_by true f i = comes-more m to k s f ∙ sym f
    still_by false f i =
        sym (reached m to (suc k) s (omega arith))
        ∙ (ap (λ x. leb x (suc k)) (i ∙ level-out m to k s f) ∙ (lt-leb 32 (suc k) (omega arith) ∙ sym f))

first_choice : (m : Switches) (to s : ℕ) → (b : Bool) → comes m to 0 s ≡ b → level m to 0 s ≡ cond b 0 32
first_choice m to s true e = level-in m to 0 s e ∙ (let h : distance m to s ≤ 0 = distance-le m to s 0 e in omega arith)
first_choice m to s false e = level-out m to 0 s e

-- the first level
pub level-first : (m : Switches) (to s : ℕ) → level m to 0 s ≡ cond (is_living m s && eqb (s / 2) to) 0 32
unfolding comes
level-first m to s = first_choice m to s (comes m to 0 s) refl
