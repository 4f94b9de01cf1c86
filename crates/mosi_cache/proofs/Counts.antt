-- How many frames of a set the lines take: as many as blocks of the set have a frame.
use Rattle.std.proofs.Common.{◌≡◌, ℕ, zero, suc, ◌+◌, ◌<◌, ◌≤◌, ◌%◌, Bool, true, false, ◌&&◌, ◌||◌, cond, List, [], ◌∷◌, length, get_or}
use Rattle.std.proofs.Common.{Option, Some, None, refl, sym, ap, ◌∙◌, arith, ⊎_elim}
use Rattle.std.specs.Prelude.{nat_eq, nat_lt, nat_le, if◌then◌else◌, is_some}
use Rattle.std.specs.List.{position}
use Rattle.std.proofs.lemmas.Bool.{cases_eq}
use Rattle.std.proofs.lemmas.Bool.Decides.{nat_tests}
use Rattle.std.proofs.lemmas.Option.{none-some, same_Some}
use Rattle.cache_array.specs.Slots.{FrameSlots, is_of, frame_of, is_full}
use Rattle.cache_array.proofs.Places.{position-None}
use Rattle.cache_array.proofs.Slots.{found-at}
use Rattle.cache_array.proofs.Counts.{how_many, is_in, blocks_in, full-counted}
use Rattle.sn_model.specs.Caches.{Line, is_present, block_count, frames_below, frames_taken, cache_of_lines, line_at}
use Rattle.mosi_cache.specs.Frames.{FrameLine, line_in_frame, line_in, lines_of, AreLines}
use Rattle.mosi_cache.proofs.Frames.{line-at}

-- slots of a set with a block below a number, and with just that block

abbrev below : ℕ → ℕ → ℕ → Option ℕ → Bool
below m sets s None = false
below m sets s (Some n) = nat_lt n m && nat_eq (n % sets) s

abbrev at : ℕ → ℕ → ℕ → Option ℕ → Bool
at m sets s None = false
at m sets s (Some n) = nat_eq n m && nat_eq (n % sets) s

none_below : (sets s : ℕ) (os : List (Option ℕ)) → how_many (below 0 sets s) os ≡ 0
none_below sets s [] = refl
none_below sets s (None ∷ os) = rw (none_below sets s os) refl
none_below sets s (Some n ∷ os) = let t : nat_lt n 0 ≡ false = grind (arith, nat_tests) in rw (t, none_below sets s os) refl

one_more : (n m : ℕ) (c : Bool) (a b : ℕ) →
    cond (nat_lt n (suc m) && c) 1 0 + (a + b) ≡ (cond (nat_lt n m && c) 1 0 + a) + (cond (nat_eq n m && c) 1 0 + b)
one_more n m c a b = grind (arith, nat_tests)

more_below : (m sets s : ℕ) (os : List (Option ℕ)) →
    how_many (below (suc m) sets s) os ≡ how_many (below m sets s) os + how_many (at m sets s) os
more_below m sets s [] = refl
more_below m sets s (None ∷ os) = rw (more_below m sets s os) (omega arith)
more_below m sets s (Some n ∷ os) =
    rw (more_below m sets s os) (one_more n m (nat_eq (n % sets) s) (how_many (below m sets s) os) (how_many (at m sets s) os))

-- no block stands there twice
abbrev AreApart : List (Option ℕ) → Type 0
AreApart os = (f g b : ℕ) → get_or os f None ≡ Some b → get_or os g None ≡ Some b → f ≡ g

apart_rest : (o : Option ℕ) (os : List (Option ℕ)) → AreApart (o ∷ os) → AreApart os
apart_rest o os a f g b h i = let e : suc f ≡ suc g = a (suc f) (suc g) b h i in omega arith

abbrev has : List (Option ℕ) → ℕ → Bool
has [] b = false
has (o ∷ os) b = is_of b o || has os b

none_at : (m sets s : ℕ) (os : List (Option ℕ)) → ((f : ℕ) → get_or os f None ≡ Some m → ⊥) → how_many (at m sets s) os ≡ 0
none_at m sets s [] h = refl
none_at m sets s (None ∷ os) h = rw (none_at m sets s os (λ f e. h (suc f) e)) refl
none_at m sets s (Some n ∷ os) h =
    ⊎_elim
    (λ (i : n ≡ m). absurd (h 0 (ap (λ (k : ℕ). let o : Option ℕ = Some k in o) i)))
    (λ (i : n ≡ m → ⊥). let t : nat_eq n m ≡ false = grind (arith, nat_tests) in rw (t, none_at m sets s os (λ f e. h (suc f) e)) refl)
    (cases_eq n m)

apart_first : (n m : ℕ) (os : List (Option ℕ)) (f : ℕ) → AreApart (Some n ∷ os) → n ≡ m → get_or os f None ≡ Some m → ⊥
apart_first n m os f a i e = let j : 0 ≡ suc f = a 0 (suc f) m (ap (λ (k : ℕ). let o : Option ℕ = Some k in o) i) e in omega arith

at_self : (m sets s : ℕ) (k : ℕ) → k ≡ 0 → cond (nat_eq m m && nat_eq (m % sets) s) 1 0 + k ≡ cond (nat_eq (m % sets) s) 1 0
at_self m sets s k h = grind (arith, nat_tests)

one_at : (m sets s : ℕ) (os : List (Option ℕ)) → AreApart os → how_many (at m sets s) os ≡ cond (has os m && nat_eq (m % sets) s) 1 0
one_at m sets s [] a = refl
one_at m sets s (None ∷ os) a = rw (one_at m sets s os (apart_rest None os a)) (omega arith)
one_at m sets s (Some n ∷ os) a =
    ⊎_elim
    (λ (i : n ≡ m).
    let t : nat_eq n m ≡ true = grind (arith, nat_tests) in
    let z = none_at m sets s os (λ f e. apart_first n m os f a i e) in
    rw (t, i) (omega (arith, z)))
    (λ (i : n ≡ m → ⊥). let t : nat_eq n m ≡ false = grind (arith, nat_tests) in
    rw (t, one_at m sets s os (apart_rest (Some n) os a)) (omega arith))
    (cases_eq n m)

-- a block stands among the slots exactly where it has a frame, and then it has a line

or_true : (a : Bool) → (a || true) ≡ true
or_true true = refl
or_true false = refl

or_false : (a b : Bool) → a ≡ false → b ≡ false → (a || b) ≡ false
or_false a b h i = grind arith

none_has : (os : List (Option ℕ)) (b : ℕ) → ((f : ℕ) → f < length os → is_of b (get_or os f None) ≡ false) → has os b ≡ false
none_has [] b h = refl
none_has (o ∷ os) b h = or_false (is_of b o) (has os b) (h 0 (omega arith)) (none_has os b (λ f l. h (suc f) (omega arith)))

of_at : (o : Option ℕ) (b : ℕ) → o ≡ Some b → is_of b o ≡ true
of_at None b h = absurd (none-some b h)
of_at (Some x) b h = let e : x ≡ b = same_Some x b h in grind (arith, nat_tests)

has_at : (os : List (Option ℕ)) (f b : ℕ) → get_or os f None ≡ Some b → has os b ≡ true
has_at [] f b h = absurd (none-some b h)
has_at (o ∷ os) zero b h = rw (of_at o b h) refl
has_at (o ∷ os) (suc f) b h = rw (has_at os f b h) (or_true (is_of b o))

no_place : (os : List (Option ℕ)) (b : ℕ) → position (is_of b) os ≡ None → has os b ≡ false
no_place os b h = none_has os b (λ f l. position-None (is_of b) os f None h l)

has_frame : (d : FrameSlots) (b : ℕ) (o : Option ℕ) → frame_of d b ≡ o → is_some o ≡ has d.slots b
has_frame d b None h = sym (no_place d.slots b h)
has_frame d b (Some f) h = sym (has_at d.slots f b (found-at d f b h))

present_step : (d : FrameSlots) (ks : List FrameLine) (b : ℕ) (o : Option ℕ) → AreLines d ks → frame_of d b ≡ o →
    is_present (line_in_frame ks o).state ≡ is_some o
present_step d ks b None h e = refl
present_step d ks b (Some f) h e = h.present f b (found-at d f b e)

pub present-in : (d : FrameSlots) (ks : List FrameLine) (b : ℕ) → AreLines d ks → is_present (line_in d ks b).state ≡ has d.slots b
present-in d ks b h = present_step d ks b (frame_of d b) h refl ∙ has_frame d b (frame_of d b) refl

-- the lines that the machine counts

more_step : (a b k l : ℕ) (p q c : Bool) → a ≡ b → l ≡ cond (q && c) 1 0 → p ≡ q → a + (if c && (p || false) then 1 else 0) ≡ b + l
more_step a b k l p q c h i j = grind arith

counted : (d : FrameSlots) (ks : List FrameLine) (sets s m : ℕ) → AreLines d ks → m ≤ block_count →
    frames_below m (cache_of_lines (lines_of d ks)) sets s ≡ how_many (below m sets s) d.slots
counted d ks sets s zero h l = sym (none_below sets s d.slots)
counted d ks sets s (suc m) h l =
    more_step (frames_below m (cache_of_lines (lines_of d ks)) sets s) (how_many (below m sets s) d.slots) 0 (how_many (at m sets s) d.slots)
    (is_present (line_at (lines_of d ks) m).state) (has d.slots m) (nat_eq (m % sets) s)
    (counted d ks sets s m h (omega arith)) (one_at m sets s d.slots h.slots.apart)
    (ap (λ (n : Line). is_present n.state) (line-at d ks m (omega arith)) ∙ present-in d ks m h)
    ∙ sym (more_below m sets s d.slots)

within_step : (o : Option ℕ) (sets s : ℕ) → ((b : ℕ) → o ≡ Some b → b < block_count) → below block_count sets s o ≡ is_in sets s o
within_step None sets s h = refl
within_step (Some b) sets s h = let l : b < block_count = h b refl in grind (arith, nat_tests)

all_below : (os : List (Option ℕ)) (sets s : ℕ) → ((f b : ℕ) → get_or os f None ≡ Some b → b < block_count) →
    how_many (below block_count sets s) os ≡ how_many (is_in sets s) os
all_below [] sets s h = refl
all_below (o ∷ os) sets s h = rw (within_step o sets s (h 0), all_below os sets s (λ f b e. h (suc f) b e)) refl

-- the frames of a set that the lines take are as many as its blocks that have a frame
pub taken-counted : (d : FrameSlots) (ks : List FrameLine) (b : ℕ) → AreLines d ks →
    frames_taken (cache_of_lines (lines_of d ks)) d.sets b ≡ blocks_in d (b % d.sets)
unfolding frames_taken
taken-counted d ks b h = counted d ks d.sets (b % d.sets) block_count h (omega arith) ∙ all_below d.slots d.sets (b % d.sets) h.inside

-- a set is full exactly where the lines take as many of its frames as it has ways
pub full-taken : (d : FrameSlots) (ks : List FrameLine) (b : ℕ) → AreLines d ks →
    is_full d b ≡ nat_le d.ways (frames_taken (cache_of_lines (lines_of d ks)) d.sets b)
full-taken d ks b h = rw (taken-counted d ks b h) (full-counted d b h.slots)

few_step : (full : Bool) (n w : ℕ) → full ≡ nat_le w n → n < w → full ≡ false
few_step full n w h l = grind (arith, nat_tests)

pub not-full : (d : FrameSlots) (ks : List FrameLine) (b : ℕ) → AreLines d ks → frames_taken (cache_of_lines (lines_of d ks)) d.sets b < d.ways →
    is_full d b ≡ false
not-full d ks b h l = few_step (is_full d b) (frames_taken (cache_of_lines (lines_of d ks)) d.sets b) d.ways (full-taken d ks b h) l
