-- How many blocks of a set have a frame.
use Rattle.std.proofs.Common.{◌≡◌, ℕ, suc, ◌+◌, ◌*◌, ◌<◌, ◌≤◌, ◌%◌, Bool, true, false, ◌&&◌, cond, List, [], ◌∷◌, ◌++◌, length, get_or}
use Rattle.std.proofs.Common.{take, drop, Option, Some, None, refl, sym, ap, ◌∙◌, arith, ◌⊎◌, inl, inr, ⊎_elim}
use Rattle.std.specs.Prelude.{nat_eq, nat_le, slice_range, is_some}
use Rattle.std.specs.List.{list_all}
use Rattle.std.proofs.Math.Nat.{mul-le-mul_right}
use Rattle.std.proofs.lemmas.Bool.{cases_lt, cases_eq}
use Rattle.std.proofs.lemmas.Bool.Decides.{nat_tests}
use Rattle.std.proofs.lemmas.List.{get_or-take, get_or-drop, take-append-drop, length-take}
use Rattle.std.proofs.lemmas.List.Folds.{drop_split}
use Rattle.cache_array.specs.Slots.{FrameSlots, AreSlots, block_at, first_of, ways_of, is_full}
use Rattle.cache_array.proofs.Slots.{set-inside, way-at, ways-length}

-- how many elements pass a test
abbrev pub how_many : {X : Type 0} → (X → Bool) → List X → ℕ
how_many p [] = 0
how_many p (x ∷ xs) = cond (p x) 1 0 + how_many p xs

-- whether a slot has a block of a set
abbrev pub is_in : ℕ → ℕ → Option ℕ → Bool
is_in sets set None = false
is_in sets set (Some block) = nat_eq (block % sets) set

-- how many blocks of a set have a frame
abbrev pub blocks_in : FrameSlots → ℕ → ℕ
blocks_in d set = how_many (is_in d.sets set) d.slots

-- counting, by the places

count_none : {X : Type 0} (p : X → Bool) (xs : List X) (d : X) → ((k : ℕ) → k < length xs → p (get_or xs k d) ≡ false) → how_many p xs ≡ 0
count_none p [] d h = refl
count_none p (x ∷ xs) d h =
    let t : p x ≡ false = h 0 (omega arith) in
    rw (t, count_none p xs d (λ k l. h (suc k) (omega arith))) refl

count_same : {X : Type 0} (p q : X → Bool) (xs : List X) (d : X) → ((k : ℕ) → k < length xs → p (get_or xs k d) ≡ q (get_or xs k d)) →
    how_many p xs ≡ how_many q xs
count_same p q [] d h = refl
count_same p q (x ∷ xs) d h =
    let t : p x ≡ q x = h 0 (omega arith) in
    rw (t, count_same p q xs d (λ k l. h (suc k) (omega arith))) refl

few_step : (b : Bool) (n m : ℕ) → n ≤ m → cond b 1 0 + n ≤ suc m
few_step true n m h = omega arith
few_step false n m h = omega arith

few_count : {X : Type 0} (p : X → Bool) (xs : List X) → how_many p xs ≤ length xs
few_count p [] = omega arith
few_count p (x ∷ xs) = few_step (p x) (how_many p xs) (length xs) (few_count p xs)

all_step : (b c : Bool) (n m : ℕ) → c ≡ nat_le n m → m ≤ n → (b && c) ≡ nat_le (suc n) (cond b 1 0 + m)
all_step true c n m h l = grind (arith, nat_tests)
all_step false c n m h l = grind (arith, nat_tests)

all_counted : {X : Type 0} (p : X → Bool) (xs : List X) → list_all p xs ≡ nat_le (length xs) (how_many p xs)
all_counted p [] = refl
all_counted p (x ∷ xs) = all_step (p x) (list_all p xs) (length xs) (how_many p xs) (all_counted p xs) (few_count p xs)

count_append : {X : Type 0} (p : X → Bool) (xs ys : List X) → how_many p (xs ++ ys) ≡ how_many p xs + how_many p ys
count_append p [] ys = omega arith
count_append p (x ∷ xs) ys = rw (count_append p xs ys) (omega arith)

three_parts : {X : Type 0} (p : X → Bool) (xs : List X) (a b : ℕ) → a ≤ b →
    how_many p xs ≡ how_many p (take a xs) + (how_many p (slice_range xs a b) + how_many p (drop b xs))
three_parts p xs a b l =
    ap (how_many p) (sym (take-append-drop a xs))
    ∙ count_append p (take a xs) (drop a xs)
    ∙ ap (λ n. how_many p (take a xs) + n) (ap (how_many p) (drop_split xs a b l) ∙ count_append p (slice_range xs a b) (drop b xs))

-- the blocks of a set are those in its ways

-- the frames of two sets are apart
sets_apart : (s t w f : ℕ) → s * w ≤ f → f < s * w + w → t * w ≤ f → f < t * w + w → s ≡ t
sets_apart s t w f a b c e =
    ⊎_elim
    (λ (l : s < t). let m : suc s * w ≤ t * w = mul-le-mul_right w (omega arith) in absurd (omega arith))
    (λ (l : t ≤ s). ⊎_elim
    (λ (k : t < s). let m : suc t * w ≤ s * w = mul-le-mul_right w (omega arith) in absurd (omega arith))
    (λ (k : s ≤ t). omega arith)
    (cases_lt t s))
    (cases_lt s t)

-- a block whose frame is of another block's set is of that set
pub same-set : (d : FrameSlots) (f x b : ℕ) → AreSlots d → block_at d f ≡ Some x → first_of d b ≤ f → f < first_of d b + d.ways →
    x % d.sets ≡ b % d.sets
same-set d f x b h e l m = let p = h.placed f x e in sets_apart (x % d.sets) (b % d.sets) d.ways f p.0 p.1 l m

outside_step : (d : FrameSlots) (f b : ℕ) (o : Option ℕ) → AreSlots d → (f < first_of d b) ⊎ (first_of d b + d.ways ≤ f) →
    block_at d f ≡ o → is_in d.sets (b % d.sets) o ≡ false
outside_step d f b None h l e = refl
outside_step d f b (Some x) h l e =
    let p = h.placed f x e in
    ⊎_elim
    (λ (i : x % d.sets ≡ b % d.sets).
    let q : first_of d x ≡ first_of d b = ap (λ n. n * d.ways) i in
    ⊎_elim (λ (m : f < first_of d b). absurd (omega (arith, p.0, q))) (λ (m : first_of d b + d.ways ≤ f). absurd (omega (arith, p.1, q))) l)
    (λ (i : x % d.sets ≡ b % d.sets → ⊥). grind (arith, nat_tests))
    (cases_eq (x % d.sets) (b % d.sets))

inside_step : (d : FrameSlots) (f b : ℕ) (o : Option ℕ) → AreSlots d → first_of d b ≤ f → f < first_of d b + d.ways → block_at d f ≡ o →
    is_in d.sets (b % d.sets) o ≡ is_some o
inside_step d f b None h l m e = refl
inside_step d f b (Some x) h l m e =
    let q : x % d.sets ≡ b % d.sets = same-set d f x b h e l m in grind (arith, nat_tests)

pub ways-counted : (d : FrameSlots) (b : ℕ) → AreSlots d → how_many is_some (ways_of d b) ≡ blocks_in d (b % d.sets)
ways-counted d b h =
    let a = first_of d b in
    let e = first_of d b + d.ways in
    let l = set-inside d b h.some in
    let p = is_in d.sets (b % d.sets) in
    let x = count_none p (take a d.slots) None (λ k m.
    let n : k < a = omega (arith, m, length-take a d.slots) in
    rw (get_or-take a d.slots k None n) (outside_step d k b (block_at d k) h (inl n) refl)) in
    let y = count_none p (drop e d.slots) None (λ k m.
    rw (get_or-drop e d.slots k None) (outside_step d (e + k) b (block_at d (e + k)) h (inr (omega arith)) refl)) in
    let z = count_same p is_some (ways_of d b) None (λ k m.
    let n : k < d.ways = omega (arith, m, ways-length d b h) in
    rw (way-at d b k n) (inside_step d (a + k) b (block_at d (a + k)) h (omega arith) (omega arith) refl)) in
    omega (arith, three_parts p d.slots a e (omega arith), x, y, z)

-- a set is full exactly where as many of its blocks have a frame as it has ways
pub full-counted : (d : FrameSlots) (b : ℕ) → AreSlots d → is_full d b ≡ nat_le d.ways (blocks_in d (b % d.sets))
full-counted d b h = rw (all_counted is_some (ways_of d b), ways-length d b h, ways-counted d b h) refl
