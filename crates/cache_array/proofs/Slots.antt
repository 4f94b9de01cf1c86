-- Where a block is, and after each change.
use Rattle.std.proofs.Common.{◌≡◌, ℕ, suc, ◌+◌, ◌-◌, ◌*◌, ◌<◌, ◌≤◌, ◌%◌, true, false, cond, List, [], ◌∷◌, length, get_or, set, Option}
use Rattle.std.proofs.Common.{Some, None, refl, sym, ap, ◌∙◌, subst, arith, ⊎_elim, length-set, get_or-set_same, get_or-set_other}
use Rattle.std.specs.Prelude.{nat_eq, is_some, is_none, IsSome}
use Rattle.std.specs.List.{position, list_all}
use Rattle.std.proofs.Math.Nat.{mul-le-mul_right}
use Rattle.std.proofs.lemmas.Bool.{cases_eq, cases_lt}
use Rattle.std.proofs.lemmas.Bool.Decides.{nat_tests}
use Rattle.std.proofs.lemmas.List.{get_or_past}
use Rattle.std.proofs.lemmas.List.Quantifiers.{position-Some}
use Rattle.std.proofs.lemmas.Option.{none-some, same_Some}
use Rattle.cache_array.specs.Slots.{FrameSlots, AreSlots, block_at, first_of, IsOfSet, is_of, frame_of, ways_of, slots_with_block, slots_without_block}
use Rattle.cache_array.proofs.Places.{position-None, get_or-range, length-range}

-- the frames of a set

row_step : (s n w : ℕ) → s < n → s * w + w ≤ n * w
row_step s n w h = let e : suc s * w ≤ n * w = mul-le-mul_right w (omega arith) in omega arith

-- a set's frames are among all
pub set-inside : (d : FrameSlots) (b : ℕ) → 0 < d.sets → first_of d b + d.ways ≤ d.sets * d.ways
set-inside d b h = row_step (b % d.sets) d.sets d.ways (omega arith)

pub frame-inside : (d : FrameSlots) (f b : ℕ) → AreSlots d → IsOfSet d f b → f < length d.slots
frame-inside d f b h i = omega (arith, set-inside d b h.some, h.whole, i.1)

-- a slot that is of a block has it

of_step : (o : Option ℕ) (b : ℕ) → is_of b o ≡ true → o ≡ Some b
of_step None b h = cc
of_step (Some x) b h = let e : x ≡ b = grind (arith, nat_tests) in ap (λ (n : ℕ). let s : Option ℕ = Some n in s) e

of_self : (o : Option ℕ) (b : ℕ) → o ≡ Some b → is_of b o ≡ true
of_self None b h = absurd (none-some b h)
of_self (Some x) b h = let e : x ≡ b = same_Some x b h in grind (arith, nat_tests)

-- a frame that has a block is among all
pub at-inside : (d : FrameSlots) (f b : ℕ) → block_at d f ≡ Some b → f < length d.slots
at-inside d f b h =
    ⊎_elim
    (λ (l : f < length d.slots). l)
    (λ (l : length d.slots ≤ f). absurd (none-some b (sym (get_or_past d.slots f None l) ∙ h)))
    (cases_lt f (length d.slots))

-- the frame that was found has the block
pub found-at : (d : FrameSlots) (f b : ℕ) → frame_of d b ≡ Some f → block_at d f ≡ Some b
found-at d f b h = of_step (block_at d f) b (position-Some (is_of b) d.slots f None h).1

found_step : (d : FrameSlots) (f b : ℕ) (o : Option ℕ) → AreSlots d → block_at d f ≡ Some b → frame_of d b ≡ o → o ≡ Some f
found_step d f b None h e i =
    let n : is_of b (block_at d f) ≡ false = position-None (is_of b) d.slots f None i (at-inside d f b e) in
    let y : is_of b (block_at d f) ≡ true = of_self (block_at d f) b e in cc
found_step d f b (Some g) h e i = ap (λ (n : ℕ). let s : Option ℕ = Some n in s) (h.apart g f b (found-at d g b i) e)

-- a frame that has the block is the one that is found
pub frame-found : (d : FrameSlots) (f b : ℕ) → AreSlots d → block_at d f ≡ Some b → frame_of d b ≡ Some f
frame-found d f b h e = found_step d f b (frame_of d b) h e refl

none_step : (d : FrameSlots) (b : ℕ) (o : Option ℕ) → ((f : ℕ) → block_at d f ≡ Some b → ⊥) → frame_of d b ≡ o → o ≡ None
none_step d b None h i = refl
none_step d b (Some f) h i = absurd (h f (found-at d f b i))

-- where no frame has the block, none is found
pub frame-none : (d : FrameSlots) (b : ℕ) → ((f : ℕ) → block_at d f ≡ Some b → ⊥) → frame_of d b ≡ None
frame-none d b h = none_step d b (frame_of d b) h refl

-- where none is found, no frame has it
pub none-at : (d : FrameSlots) (f b : ℕ) → frame_of d b ≡ None → block_at d f ≡ Some b → ⊥
none-at d f b h e =
    let n : is_of b (block_at d f) ≡ false = position-None (is_of b) d.slots f None h (at-inside d f b e) in
    let y : is_of b (block_at d f) ≡ true = of_self (block_at d f) b e in cc

-- a look at one set

pub way-at : (d : FrameSlots) (b w : ℕ) → w < d.ways → get_or (ways_of d b) w None ≡ block_at d (first_of d b + w)
way-at d b w h = get_or-range d.slots (first_of d b) (first_of d b + d.ways) w None (omega arith)

pub ways-length : (d : FrameSlots) (b : ℕ) → AreSlots d → length (ways_of d b) ≡ d.ways
ways-length d b h =
    let e = length-range d.slots (first_of d b) (first_of d b + d.ways) (omega (arith, set-inside d b h.some, h.whole)) in omega (arith, e)

-- the way that was found in the set is the block's frame
pub found-in-set : (d : FrameSlots) (b w : ℕ) → AreSlots d → position (is_of b) (ways_of d b) ≡ Some w →
    (w < d.ways) × (frame_of d b ≡ Some (first_of d b + w))
found-in-set d b w h e =
    let s = position-Some (is_of b) (ways_of d b) w None e in
    let l : w < d.ways = omega (arith, s.0, ways-length d b h) in
    (l, frame-found d (first_of d b + w) b h (sym (way-at d b w l) ∙ of_step (get_or (ways_of d b) w None) b s.1))

part_of : (a f n : ℕ) → a ≤ f → f < a + n → (k : ℕ) × ((k < n) × (a + k ≡ f))
part_of a f n h l = (f - a, (omega arith, omega arith))

-- where the set has none, no frame has it
pub none-in-set : (d : FrameSlots) (b : ℕ) → AreSlots d → position (is_of b) (ways_of d b) ≡ None → frame_of d b ≡ None
none-in-set d b h e =
    frame-none d b (λ f i.
    let p = h.placed f b i in
    let k = part_of (first_of d b) f d.ways p.0 p.1 in
    let n : is_of b (get_or (ways_of d b) k.0 None)
    ≡ false = position-None (is_of b) (ways_of d b) k.0 None e (omega (arith, ways-length d b h, k.1.0)) in
    let y : is_of b (get_or (ways_of d b) k.0 None)
    ≡ true = of_self (get_or (ways_of d b) k.0 None) b (way-at d b k.0 k.1.0 ∙ ap (block_at d) k.1.1 ∙ i) in cc)

-- a look for a free way

free_step : (o : Option ℕ) → is_none o ≡ true → o ≡ None
free_step None h = refl
free_step (Some x) h = cc

taken_step : (o : Option ℕ) → is_none o ≡ false → o ≡ None → ⊥
taken_step None h e = cc
taken_step (Some x) h e = cc

all_step : (xs : List (Option ℕ)) → ((k : ℕ) → k < length xs → is_none (get_or xs k None) ≡ false) → list_all is_some xs ≡ true
all_step [] h = refl
all_step (None ∷ xs) h = let t : is_none {T = ℕ} None ≡ false = h 0 (omega arith) in cc
all_step (Some x ∷ xs) h = all_step xs (λ k l. h (suc k) (omega arith))

some_step : (xs : List (Option ℕ)) (o : Option ℕ) → list_all is_some xs ≡ false → position is_none xs ≡ o → IsSome o
some_step xs None h e = let t = all_step xs (λ k l. position-None is_none xs k None e l) in absurd (cc)
some_step xs (Some w) h e = refl

-- where not all are taken, one is free
pub some-free : (xs : List (Option ℕ)) → list_all is_some xs ≡ false → IsSome (position is_none xs)
some-free xs h = some_step xs (position is_none xs) h refl

-- the first free way of a set is its least free frame
pub record IsLeastFree (d : FrameSlots) (f b : ℕ) : Type 0 where
  pub own : IsOfSet d f b
  pub free : block_at d f ≡ None
  pub least : (frame : ℕ) → IsOfSet d frame b → frame < f → block_at d frame ≡ None → ⊥

pub free-in-set : (d : FrameSlots) (b w : ℕ) → AreSlots d → position is_none (ways_of d b) ≡ Some w → IsLeastFree d (first_of d b + w) b
free-in-set d b w h e =
    let s = position-Some is_none (ways_of d b) w None e in
    let l : w < d.ways = omega (arith, s.0, ways-length d b h) in
    record {
      own = (omega arith, omega arith);
      free = sym (way-at d b w l) ∙ free_step (get_or (ways_of d b) w None) s.1;
      least = λ f i m.
          let k = part_of (first_of d b) f d.ways i.0 i.1 in
          let n : k.0 < w = omega (arith, k.1.1) in
          let t = s.2 k.0 n in
          subst (λ (g : ℕ). block_at d g ≡ None → ⊥) k.1.1
          (subst (λ (o : Option ℕ). o ≡ None → ⊥) (way-at d b k.0 k.1.0) (taken_step (get_or (ways_of d b) k.0 None) t));
    }

-- after a change of one slot

set_at : (xs : List (Option ℕ)) (f g : ℕ) (o : Option ℕ) → f < length xs →
    get_or (set xs f o) g None ≡ cond (nat_eq f g) o (get_or xs g None)
set_at xs f g o l =
    ⊎_elim
    (λ (e : f ≡ g). let t : nat_eq f g ≡ true = grind (arith, nat_tests) in rw (t, ← e) (get_or-set_same xs f o None l))
    (λ (e : f ≡ g → ⊥). let t : nat_eq f g ≡ false = grind (arith, nat_tests) in rw t (get_or-set_other xs f g o None (λ i. e (sym i))))
    (cases_eq f g)

-- a block in a frame that was free

at_taken : (d : FrameSlots) (f b g : ℕ) → f < length d.slots → block_at (slots_with_block d f b) g ≡ cond (nat_eq f g) (Some b) (block_at d g)
at_taken d f b g l = set_at d.slots f g (Some b) l

at_freed : (d : FrameSlots) (f g : ℕ) → f < length d.slots → block_at (slots_without_block d f) g ≡ cond (nat_eq f g) None (block_at d g)
at_freed d f g l = set_at d.slots f g None l

-- what a slot that was set has: what was put there, or what it had
either : (f g b x : ℕ) (o p : Option ℕ) (P : Type 0) → o ≡ cond (nat_eq f g) (Some b) p → o ≡ Some x → (f ≡ g → b ≡ x → P) →
    ((f ≡ g → ⊥) → p ≡ Some x → P) → P
either f g b x o p P e h same other =
    ⊎_elim
    (λ (i : f ≡ g). let t : nat_eq f g ≡ true = grind (arith, nat_tests) in same i (same_Some b x (sym (rw t at e) ∙ h)))
    (λ (i : f ≡ g → ⊥). let t : nat_eq f g ≡ false = grind (arith, nat_tests) in other i (sym (rw t at e) ∙ h))
    (cases_eq f g)

-- a slot that was freed and has a block is another, which had it
still : (f g x : ℕ) (o p : Option ℕ) → o ≡ cond (nat_eq f g) None p → o ≡ Some x → (f ≡ g → ⊥) × (p ≡ Some x)
still f g x o p e h =
    ⊎_elim
    (λ (i : f ≡ g). let t : nat_eq f g ≡ true = grind (arith, nat_tests) in absurd (none-some x (sym (rw t at e) ∙ h)))
    (λ (i : f ≡ g → ⊥). let t : nat_eq f g ≡ false = grind (arith, nat_tests) in (i, sym (rw t at e) ∙ h))
    (cases_eq f g)

taken_placed : (d : FrameSlots) (f b g x : ℕ) → AreSlots d → IsOfSet d f b → block_at (slots_with_block d f b) g ≡ Some x → IsOfSet d g x
taken_placed d f b g x h i e =
    either f g b x (block_at (slots_with_block d f b) g) (block_at d g) (IsOfSet d g x) (at_taken d f b g (frame-inside d f b h i)) e
    (λ p q. subst (λ (m : ℕ). IsOfSet d m x) p (subst (λ (m : ℕ). IsOfSet d f m) q i))
    (λ _ q. h.placed g x q)

taken_apart : (d : FrameSlots) (f b g k x : ℕ) → AreSlots d → frame_of d b ≡ None → IsOfSet d f b → block_at (slots_with_block d f b) g ≡ Some x →
    block_at (slots_with_block d f b) k ≡ Some x → g ≡ k
taken_apart d f b g k x h n i e u =
    let l = frame-inside d f b h i in
    either f g b x (block_at (slots_with_block d f b) g) (block_at d g) (g ≡ k) (at_taken d f b g l) e
    (λ p q. either f k b x (block_at (slots_with_block d f b) k) (block_at d k) (g ≡ k) (at_taken d f b k l) u
    (λ r _. sym p ∙ r)
    (λ _ r. absurd (none-at d k b n (subst (λ (m : ℕ). block_at d k ≡ Some m) (sym q) r))))
    (λ _ q. either f k b x (block_at (slots_with_block d f b) k) (block_at d k) (g ≡ k) (at_taken d f b k l) u
    (λ _ r. absurd (none-at d g b n (subst (λ (m : ℕ). block_at d g ≡ Some m) (sym r) q)))
    (λ _ r. h.apart g k x q r))

-- a block in a free frame of its set
pub slots-taken : (d : FrameSlots) (f b : ℕ) → AreSlots d → frame_of d b ≡ None → IsOfSet d f b → AreSlots (slots_with_block d f b)
slots-taken d f b h n i = record {
  some = h.some;
  whole = length-set d.slots f (Some b) ∙ h.whole;
  placed = λ g x e. taken_placed d f b g x h i e;
  apart = λ g k x e u. taken_apart d f b g k x h n i e u;
}

-- a frame that is free now
pub slots-freed : (d : FrameSlots) (f : ℕ) → AreSlots d → f < length d.slots → AreSlots (slots_without_block d f)
slots-freed d f h l = record {
  some = h.some;
  whole = length-set d.slots f None ∙ h.whole;
  placed = λ g x e. h.placed g x (still f g x (block_at (slots_without_block d f) g) (block_at d g) (at_freed d f g l) e).1;
  apart =
      λ g k x e u. h.apart g k x (still f g x (block_at (slots_without_block d f) g) (block_at d g) (at_freed d f g l) e).1
      (still f k x (block_at (slots_without_block d f) k) (block_at d k) (at_freed d f k l) u).1;
}

-- which frame is found afterwards

other_found : (d e : FrameSlots) (x : ℕ) (o : Option ℕ) → AreSlots e → ((g : ℕ) → block_at d g ≡ Some x → block_at e g ≡ Some x) →
    ((g : ℕ) → block_at e g ≡ Some x → block_at d g ≡ Some x) → frame_of d x ≡ o → frame_of e x ≡ o
other_found d e x None h to from i = frame-none e x (λ g j. none-at d g x i (from g j))
other_found d e x (Some g) h to from i = frame-found e g x h (to g (found-at d g x i))

differs : (d : FrameSlots) (f g x : ℕ) → block_at d f ≡ None → block_at d g ≡ Some x → nat_eq f g ≡ false
differs d f g x n e =
    ⊎_elim
    (λ (i : f ≡ g). absurd (none-some x (sym n ∙ ap (block_at d) i ∙ e)))
    (λ (i : f ≡ g → ⊥). grind (arith, nat_tests))
    (cases_eq f g)

pub frame-taken : (d : FrameSlots) (f b x : ℕ) → AreSlots d → frame_of d b ≡ None → block_at d f ≡ None → IsOfSet d f b →
    frame_of (slots_with_block d f b) x ≡ cond (nat_eq b x) (Some f) (frame_of d x)
frame-taken d f b x h n z i =
    let l = frame-inside d f b h i in
    let k = slots-taken d f b h n i in
    ⊎_elim
    (λ (e : b ≡ x). let t : nat_eq b x ≡ true = grind (arith, nat_tests) in
    rw (t, ← e) (frame-found (slots_with_block d f b) f b k (get_or-set_same d.slots f (Some b) None l)))
    (λ (e : b ≡ x → ⊥). let t : nat_eq b x ≡ false = grind (arith, nat_tests) in
    rw t (other_found d (slots_with_block d f b) x (frame_of d x) k
    (λ g u. at_taken d f b g l ∙ rw (differs d f g x z u) u)
    (λ g u. either f g b x (block_at (slots_with_block d f b) g) (block_at d g) (block_at d g ≡ Some x) (at_taken d f b g l) u (λ _ q. absurd (e q))
    (λ _ q. q))
    refl))
    (cases_eq b x)

parted : (f g b x : ℕ) (o p : Option ℕ) → o ≡ Some b → p ≡ Some x → (f ≡ g → o ≡ p) → (b ≡ x → ⊥) → nat_eq f g ≡ false
parted f g b x o p h i s e =
    ⊎_elim
    (λ (j : f ≡ g). absurd (e (same_Some b x (sym h ∙ s j ∙ i))))
    (λ (j : f ≡ g → ⊥). grind (arith, nat_tests))
    (cases_eq f g)

pub frame-freed : (d : FrameSlots) (f b x : ℕ) → AreSlots d → frame_of d b ≡ Some f →
    frame_of (slots_without_block d f) x ≡ cond (nat_eq b x) None (frame_of d x)
frame-freed d f b x h i =
    let a = found-at d f b i in
    let l = at-inside d f b a in
    let k = slots-freed d f h l in
    ⊎_elim
    (λ (e : b ≡ x). let t : nat_eq b x ≡ true = grind (arith, nat_tests) in
    rw t (frame-none (slots_without_block d f) x (λ g u.
    let s = still f g x (block_at (slots_without_block d f) g) (block_at d g) (at_freed d f g l) u in
    s.0 (h.apart f g b a (s.1 ∙ ap (λ (n : ℕ). let o : Option ℕ = Some n in o) (sym e))))))
    (λ (e : b ≡ x → ⊥). let t : nat_eq b x ≡ false = grind (arith, nat_tests) in
    rw t (other_found d (slots_without_block d f) x (frame_of d x) k
    (λ g u. at_freed d f g l ∙ rw (parted f g b x (block_at d f) (block_at d g) a u (ap (block_at d)) e) u)
    (λ g u. (still f g x (block_at (slots_without_block d f) g) (block_at d g) (at_freed d f g l) u).1)
    refl))
    (cases_eq b x)
