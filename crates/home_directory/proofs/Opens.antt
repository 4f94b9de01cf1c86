-- The list of the open transactions stays what the entries say.
use Rattle.std.proofs.Common.{◌≡◌, ℕ, zero, suc, ◌+◌, ◌<◌, ◌≤◌, Bool, true, false, cond, List, [], ◌∷◌, length, Option, Some, None, refl}
use Rattle.std.proofs.Common.{ap, ◌∙◌, arith}
use Rattle.std.specs.Prelude.{nat_eq, nat_lt, count_by, slice_set}
use Rattle.std.specs.List.{insert}
use Rattle.std.proofs.lemmas.Bool.Decides.{nat_tests}
use Rattle.std.proofs.lemmas.List.Sums.{sum_by-cons}
use Rattle.sn_model.specs.Homes.{HomeEntry, Transaction}
use Rattle.home_directory.specs.Home.{begun_of, lesser_of, least_open}
use Rattle.home_directory.specs.Open.{Open, open_at, with_open, opens_from, without_place, put_in, opens_after, least_in}

-- how many stand before a place
abbrev before : ℕ → List Open → ℕ
before p os = count_by (λ (o : Open). nat_lt o.place p) os

counted : (t : Bool) (n : ℕ) → t ≡ true → cond t 1 0 + n ≡ suc n
counted true n h = omega arith
counted false n h = cc

not_counted : (t : Bool) (n : ℕ) → t ≡ false → n ≡ 0 → cond t 1 0 + n ≡ 0
not_counted true n h z = cc
not_counted false n h z = omega arith

before_cons : (p : ℕ) (o : Open) (os : List Open) → nat_lt o.place p ≡ true → before p (o ∷ os) ≡ suc (before p os)
before_cons p o os h = sum_by-cons (λ (x : Open). cond (nat_lt x.place p) 1 0) o os ∙ counted (nat_lt o.place p) (before p os) h

put_in-cons : (p b : ℕ) (o : Open) (os : List Open) → nat_lt o.place p ≡ true → put_in p b (o ∷ os) ≡ o ∷ put_in p b os
put_in-cons p b o os h = ap (λ i. insert (o ∷ os) i (open_at p b)) (before_cons p o os h)

-- those from a later place on

before_with : (p s : ℕ) (t : Option Transaction) (os : List Open) → p ≤ s → before p os ≡ 0 → before p (with_open s t os) ≡ 0
before_with p s None os h z = z
before_with p s (Some t) os h z =
    sum_by-cons (λ (x : Open). cond (nat_lt x.place p) 1 0) (open_at s t.begun) os
    ∙ not_counted (nat_lt s p) (before p os) (grind (arith, nat_tests)) z

before_later : (p s : ℕ) (es : List HomeEntry) → p ≤ s → before p (opens_from s es) ≡ 0
before_later p s [] h = refl
before_later p s (e ∷ es) h = before_with p s e.transaction (opens_from (s + 1) es) h (before_later p (s + 1) es (omega arith))

keeps_cons : (p : ℕ) (o : Open) (os : List Open) → nat_eq o.place p ≡ false → without_place p (o ∷ os) ≡ o ∷ without_place p os
keeps_cons p o os h = rw h refl

drops_cons : (p : ℕ) (o : Open) (os : List Open) → nat_eq o.place p ≡ true → without_place p (o ∷ os) ≡ without_place p os
drops_cons p o os h = rw h refl

without_with : (p s : ℕ) (t : Option Transaction) (os : List Open) → nat_eq s p ≡ false →
    without_place p (with_open s t os) ≡ with_open s t (without_place p os)
without_with p s None os h = refl
without_with p s (Some t) os h = keeps_cons p (open_at s t.begun) os h

without_here : (p s : ℕ) (t : Option Transaction) (os : List Open) → nat_eq s p ≡ true →
    without_place p (with_open s t os) ≡ without_place p os
without_here p s None os h = refl
without_here p s (Some t) os h = drops_cons p (open_at s t.begun) os h

without_later : (p s : ℕ) (es : List HomeEntry) → p < s → without_place p (opens_from s es) ≡ opens_from s es
without_later p s [] h = refl
without_later p s (e ∷ es) h =
    without_with p s e.transaction (opens_from (s + 1) es) (grind (arith, nat_tests))
    ∙ ap (with_open s e.transaction) (without_later p (s + 1) es (omega arith))

-- what a place has open is listed

listed_here : (p s : ℕ) (t : Option Transaction) (os : List Open) → p ≡ s → before p os ≡ 0 → without_place p os ≡ os →
    opens_after p (begun_of t) os ≡ with_open s t os
listed_here p s None os e z w = w
listed_here p s (Some t) os e z w =
    ap (put_in p t.begun) w ∙ ap (λ i. insert os i (open_at p t.begun)) z ∙ ap (λ q. open_at q t.begun ∷ os) e

put_after : (p s b : ℕ) (t : Option Transaction) (os : List Open) → nat_lt s p ≡ true →
    put_in p b (with_open s t os) ≡ with_open s t (put_in p b os)
put_after p s b None os h = refl
put_after p s b (Some t) os h = put_in-cons p b (open_at s t.begun) os h

listed_after : (p s : ℕ) (u t : Option Transaction) (os : List Open) → s < p →
    opens_after p (begun_of u) (with_open s t os) ≡ with_open s t (opens_after p (begun_of u) os)
listed_after p s None t os h = without_with p s t os (grind (arith, nat_tests))
listed_after p s (Some u) t os h =
    ap (put_in p u.begun) (without_with p s t os (grind (arith, nat_tests)))
    ∙ put_after p s u.begun t (without_place p os) (grind (arith, nat_tests))

relisted_same : (p : ℕ) (o : Option ℕ) (xs ys : List Open) → without_place p xs ≡ without_place p ys → opens_after p o xs ≡ opens_after p o ys
relisted_same p None xs ys h = h
relisted_same p (Some b) xs ys h = ap (put_in p b) h

relisted_from : (es : List HomeEntry) (s k p : ℕ) (e : HomeEntry) → p ≡ s + k → k < length es →
    opens_after p (begun_of e.transaction) (opens_from s es) ≡ opens_from s (slice_set es k e)
relisted_from [] s k p e h l = absurd (omega arith)
relisted_from (x ∷ xs) s zero p e h l =
    relisted_same p (begun_of e.transaction) (with_open s x.transaction (opens_from (s + 1) xs)) (opens_from (s + 1) xs)
    (without_here p s x.transaction (opens_from (s + 1) xs) (grind (arith, nat_tests)))
    ∙ listed_here p s e.transaction (opens_from (s + 1) xs) (omega arith) (before_later p (s + 1) xs (omega arith))
    (without_later p (s + 1) xs (omega arith))
relisted_from (x ∷ xs) s (suc k) p e h l =
    listed_after p s e.transaction x.transaction (opens_from (s + 1) xs) (omega arith)
    ∙ ap (with_open s x.transaction) (relisted_from xs (s + 1) k p e (omega arith) (omega arith))

-- the list follows the change of an entry
pub relisted_is : (es : List HomeEntry) (p : ℕ) (e : HomeEntry) → p < length es →
    opens_after p (begun_of e.transaction) (opens_from 0 es) ≡ opens_from 0 (slice_set es p e)
relisted_is es p e l = relisted_from es 0 p p e (omega arith) l

length_with : (s : ℕ) (t : Option Transaction) (os : List Open) (n : ℕ) → length os ≤ n → length (with_open s t os) ≤ n + 1
length_with s None os n h = omega arith
length_with s (Some t) os n h = omega arith

length_opens : (s : ℕ) (es : List HomeEntry) → length (opens_from s es) ≤ length es
length_opens s [] = omega arith
length_opens s (e ∷ es) = let h = length_with s e.transaction (opens_from (s + 1) es) (length es) (length_opens (s + 1) es) in omega arith

short_step : (s : ℕ) (t : Option Transaction) (os : List Open) (n : ℕ) → length os < n → length (with_open s t os) < suc n
short_step s None os n h = omega arith
short_step s (Some t) os n h = omega arith

short_from : (es : List HomeEntry) (s k p : ℕ) → p ≡ s + k → k < length es → length (without_place p (opens_from s es)) < length es
short_from [] s k p h l = absurd (omega arith)
short_from (x ∷ xs) s zero p h l =
    rw (without_here p s x.transaction (opens_from (s + 1) xs) (grind (arith, nat_tests)), without_later p (s + 1) xs (omega arith))
    (let q = length_opens (s + 1) xs in omega arith)
short_from (x ∷ xs) s (suc k) p h l =
    rw (without_with p s x.transaction (opens_from (s + 1) xs) (grind (arith, nat_tests)))
    (short_step s x.transaction (without_place p (opens_from (s + 1) xs)) (length xs)
    (short_from xs (s + 1) k p (omega arith) (omega arith)))

-- a place has room in the list
pub short_is : (es : List HomeEntry) (p : ℕ) → p < length es → length (without_place p (opens_from 0 es)) < length es
short_is es p l = short_from es 0 p p (omega arith) l

lesser_is : (t : Option Transaction) (s : ℕ) (os : List Open) (o : Option ℕ) → least_in os ≡ o →
    least_in (with_open s t os) ≡ lesser_of (begun_of t) o
lesser_is None s os o h = h
lesser_is (Some t) s os None h = rw h refl
lesser_is (Some t) s os (Some n) h = rw h refl

-- the least of the list is the least of the entries
pub least_is : (s : ℕ) (es : List HomeEntry) → least_in (opens_from s es) ≡ least_open es
least_is s [] = refl
least_is s (e ∷ es) = lesser_is e.transaction s (opens_from (s + 1) es) (least_open es) (least_is (s + 1) es)
