-- The least block that may leave its set.
use Rattle.std.proofs.Common.{◌≡◌, ℕ, ◌+◌, ◌*◌, ◌<◌, ◌≤◌, ◌%◌, Bool, true, false, not, ◌&&◌, min, List, Option, Some, None, refl, sym, ap}
use Rattle.std.proofs.Common.{◌∙◌, subst, arith, ⊎_elim}
use Rattle.std.specs.Prelude.{nat_eq, if◌then◌else◌}
use Rattle.std.specs.Option.{option_map}
use Rattle.std.proofs.lemmas.Bool.{cases_eq, cases_lt}
use Rattle.std.proofs.lemmas.Bool.Decides.{nat_tests}
use Rattle.std.proofs.lemmas.Option.{none-some, same_Some}
use Rattle.sn_base.specs.declared.event.Answer.TheVariants.{MissOpen}
use Rattle.cache_array.specs.Slots.{FrameSlots, block_at, first_of, frame_of}
use Rattle.cache_array.proofs.Slots.{found-at, frame-found}
use Rattle.cache_array.proofs.Counts.{same-set}
use Rattle.sn_model.specs.declared.cache.LineState.{LineState}
use Rattle.sn_model.specs.declared.cache.LineState.TheVariants.{Absent, Shared, Owned, Modified, Exclusive}
use Rattle.sn_model.specs.Caches.{Line, Miss, Put, no_line, misses_on, line_at}
use Rattle.sn_model.specs.NodeEvents.{has_put}
use Rattle.mosi_cache.specs.Frames.{FrameLine, kept_at, lines_of, AreLines, is_spared, may_leave, leaves, lesser_of, leaving_by}
use Rattle.mosi_cache.specs.Frames.{leaving_at, IsLeastLeaving}
use Rattle.mosi_cache.specs.Controller.{CacheData}
use Rattle.mosi_cache.specs.Probe.{evict_line, lets_go, may_go}
use Rattle.mosi_cache.proofs.Changes.{read-found, read-absent}

-- the least of the frames below one more

up_to : (f e : ℕ) → f < e + 1 → (f ≡ e → ⊥) → f < e
up_to f e l h = ⊎_elim (λ (k : f < e). k) (λ (k : e ≤ f). absurd (h (omega arith))) (cases_lt f e)

pub least-none-more : (leaving : ℕ → Option ℕ) (a e : ℕ) (o : Option ℕ) → IsLeastLeaving leaving a e o → leaving e ≡ None →
    IsLeastLeaving leaving a (e + 1) o
least-none-more leaving a e None h n =
    λ f l m. ⊎_elim (λ (i : f ≡ e). ap leaving i ∙ n) (λ (i : f ≡ e → ⊥). h f l (up_to f e m i)) (cases_eq f e)
least-none-more leaving a e (Some k) h n = (
  (h.0.0, (h.0.1.0, omega (arith, h.0.1.1), h.0.1.2)),
  λ f x l m i. ⊎_elim (λ (j : f ≡ e). absurd (none-some x (sym n ∙ sym (ap leaving j) ∙ i)))
      (λ (j : f ≡ e → ⊥). h.1 f x l (up_to f e m j) i) (cases_eq f e),
)

some_eq : (a b : ℕ) → a ≡ b → Some a ≡ Some b
some_eq a b e = ap (λ (n : ℕ). let o : Option ℕ = Some n in o) e

pub least-some-more : (leaving : ℕ → Option ℕ) (a e n : ℕ) (o : Option ℕ) (m : ℕ) → a ≤ e → IsLeastLeaving leaving a e o →
    leaving e ≡ Some n → Some m ≡ lesser_of o (Some n) → IsLeastLeaving leaving a (e + 1) (Some m)
least-some-more leaving a e n None m l h s q =
    let r : m ≡ n = same_Some m n q in (
      (e, (l, omega arith, s ∙ some_eq n m (sym r))),
      λ f x i j k. ⊎_elim
          (λ (t : f ≡ e). let u : n ≡ x = same_Some n x (sym s ∙ sym (ap leaving t) ∙ k) in omega arith)
          (λ (t : f ≡ e → ⊥). absurd (none-some x (sym (h f i (up_to f e j t)) ∙ k)))
          (cases_eq f e),
    )
least-some-more leaving a e n (Some k) m l h s q =
    let r : m ≡ min k n = same_Some m (min k n) q in (
      ⊎_elim
          (λ (t : k < n). let v : k ≡ m = omega arith in (h.0.0, (h.0.1.0, omega (arith, h.0.1.1), h.0.1.2 ∙ some_eq k m v)))
          (λ (t : n ≤ k). let v : n ≡ m = omega arith in (e, (l, omega arith, s ∙ some_eq n m v)))
          (cases_lt k n),
      λ f x i j w. ⊎_elim
          (λ (t : f ≡ e). let u : n ≡ x = same_Some n x (sym s ∙ sym (ap leaving t) ∙ w) in omega arith)
          (λ (t : f ≡ e → ⊥). omega (arith, h.1 f x i (up_to f e j t) w))
          (cases_eq f e),
    )

pub least-of-none : (leaving : ℕ → Option ℕ) (a : ℕ) → IsLeastLeaving leaving a a None
least-of-none leaving a = λ f l m. absurd (omega arith)

-- what a frame gives is a block that may leave its set

chosen : (c : Bool) (b m : ℕ) (spared : Option ℕ) (owned_too : Bool) (s : LineState) →
    (not (is_spared spared b) && may_leave owned_too s) ≡ c → (if c then Some b else None) ≡ Some m →
    (Some b ≡ Some m) × ((not (is_spared spared m) && may_leave owned_too s) ≡ true)
chosen true b m spared owned_too s e h =
    (h, subst (λ (k : ℕ). (not (is_spared spared k) && may_leave owned_too s) ≡ true) (same_Some b m h) e)
chosen false b m spared owned_too s e h = absurd (none-some m h)

gives_step : (spared : Option ℕ) (owned_too : Bool) (s : LineState) (o : Option ℕ) (m : ℕ) → leaving_by spared owned_too s o ≡ Some m →
    (o ≡ Some m) × ((not (is_spared spared m) && may_leave owned_too s) ≡ true)
gives_step spared owned_too s None m h = absurd (none-some m h)
gives_step spared owned_too s (Some b) m h = chosen (not (is_spared spared b) && may_leave owned_too s) b m spared owned_too s refl h

and_true : (a b : Bool) → a ≡ true → b ≡ true → (a && b) ≡ true
and_true a b h i = grind arith

same_number : (a b : ℕ) → a ≡ b → nat_eq a b ≡ true
same_number a b h = grind (arith, nat_tests)

leaves_at : (d : FrameSlots) (ks : List FrameLine) (spared : Option ℕ) (owned_too : Bool) (b f m : ℕ) → AreLines d ks → first_of d b ≤ f →
    f < first_of d b + d.ways → leaving_at d ks spared owned_too f ≡ Some m →
    leaves d.sets (b % d.sets) spared owned_too m (line_at (lines_of d ks) m).state ≡ true
leaves_at d ks spared owned_too b f m h l n e =
    let g = gives_step spared owned_too (kept_at ks f).state (block_at d f) m e in
    let r = read-found d ks m f h (frame-found d f m h.slots g.0) in
    let s : nat_eq (m % d.sets) (b % d.sets) ≡ true = same_number (m % d.sets) (b % d.sets) (same-set d f m b h.slots g.0 l n) in
    rw r.0 (and_true (nat_eq (m % d.sets) (b % d.sets)) (not (is_spared spared m) && may_leave owned_too (kept_at ks f).state) s g.1)

-- a block that may leave its set is given by its frame

never : (a b : Bool) (owned_too : Bool) → (a && (b && may_leave owned_too no_line.state)) ≡ false
never a b owned_too = grind arith

gone_step : (sets set : ℕ) (spared : Option ℕ) (owned_too : Bool) (k : ℕ) → leaves sets set spared owned_too k no_line.state ≡ true → ⊥
gone_step sets set spared owned_too k h = let e = never (nat_eq (k % sets) set) (not (is_spared spared k)) owned_too in cc

parts : (sets set : ℕ) (a b : Bool) (k : ℕ) → (nat_eq (k % sets) set && (a && b)) ≡ true → (k % sets ≡ set) × ((a && b) ≡ true)
parts sets set a b k h = (grind (arith, nat_tests), grind arith)

given_step : (d : FrameSlots) (ks : List FrameLine) (spared : Option ℕ) (owned_too : Bool) (b k : ℕ) (o : Option ℕ) → AreLines d ks →
    leaves d.sets (b % d.sets) spared owned_too k (line_at (lines_of d ks) k).state ≡ true → frame_of d k ≡ o →
    (f : ℕ) × ((first_of d b ≤ f) × (f < first_of d b + d.ways) × (leaving_at d ks spared owned_too f ≡ Some k))
given_step d ks spared owned_too b k None h e n =
    absurd (gone_step d.sets (b % d.sets) spared owned_too k
    (subst (λ (l : Line). leaves d.sets (b % d.sets) spared owned_too k l.state ≡ true) (read-absent d ks k n) e))
given_step d ks spared owned_too b k (Some f) h e n =
    let a = found-at d f k n in
    let r = read-found d ks k f h n in
    let t = subst (λ (l : Line). leaves d.sets (b % d.sets) spared owned_too k l.state ≡ true) r.0 e in
    let p = parts d.sets (b % d.sets) (not (is_spared spared k)) (may_leave owned_too (kept_at ks f).state) k t in
    let i : first_of d k ≡ first_of d b = ap (λ m. m * d.ways) p.0 in
    let q = h.slots.placed f k a in
    (f, (omega (arith, q.0), omega (arith, q.1), rw (a, p.1) refl))

not_true : (b : Bool) → (b ≡ true → ⊥) → b ≡ false
not_true true h = absurd (h refl)
not_true false h = refl

pub least-none : (d : FrameSlots) (ks : List FrameLine) (spared : Option ℕ) (owned_too : Bool) (b : ℕ) → AreLines d ks →
    IsLeastLeaving (leaving_at d ks spared owned_too) (first_of d b) (first_of d b + d.ways) None → (k : ℕ) →
    leaves d.sets (b % d.sets) spared owned_too k (line_at (lines_of d ks) k).state ≡ false
least-none d ks spared owned_too b h n k =
    not_true (leaves d.sets (b % d.sets) spared owned_too k (line_at (lines_of d ks) k).state)
    (λ e. let g = given_step d ks spared owned_too b k (frame_of d k) h e refl in none-some k (sym (n g.0 g.1.0 g.1.1) ∙ g.1.2))

pub least-some : (d : FrameSlots) (ks : List FrameLine) (spared : Option ℕ) (owned_too : Bool) (b m : ℕ) → AreLines d ks →
    IsLeastLeaving (leaving_at d ks spared owned_too) (first_of d b) (first_of d b + d.ways) (Some m) →
    (leaves d.sets (b % d.sets) spared owned_too m (line_at (lines_of d ks) m).state ≡ true)
    × ((k : ℕ) → k < m → leaves d.sets (b % d.sets) spared owned_too k (line_at (lines_of d ks) k).state ≡ false)
least-some d ks spared owned_too b m h n = (
  leaves_at d ks spared owned_too b n.0.0 m h n.0.1.0 n.0.1.1 n.0.1.2,
  λ k l. not_true (leaves d.sets (b % d.sets) spared owned_too k (line_at (lines_of d ks) k).state)
      (λ e. let g = given_step d ks spared owned_too b k (frame_of d k) h e refl in absurd (omega (arith, n.1 g.0 k g.1.0 g.1.1 g.1.2, l))),
)

-- the same by what an eviction comes to

line_goes : (puts : Bool) (put : Option Put) (s : LineState) → lets_go puts (evict_line put s) ≡ may_leave (puts && not (has_put put)) s
line_goes puts put Absent = refl
line_goes puts put Shared = refl
line_goes true None Owned = refl
line_goes false None Owned = refl
line_goes true (Some p) Owned = refl
line_goes false (Some p) Owned = refl
line_goes true None Modified = refl
line_goes false None Modified = refl
line_goes true (Some p) Modified = refl
line_goes false (Some p) Modified = refl
line_goes true None Exclusive = refl
line_goes false None Exclusive = refl
line_goes true (Some p) Exclusive = refl
line_goes false (Some p) Exclusive = refl

spared_misses : (m : Option Miss) (k : ℕ) → is_spared (option_map (λ (x : Miss). x.block) m) k ≡ misses_on m k
spared_misses None k = refl
spared_misses (Some m) k = refl

goes_step : (c : Bool) (puts : Bool) (put : Option Put) (s : LineState) →
    lets_go puts (if c then MissOpen else evict_line put s) ≡ (not c && may_leave (puts && not (has_put put)) s)
goes_step true puts put s = refl
goes_step false puts put s = line_goes puts put s

pub goes-leaves : (d : CacheData) (block : ℕ) (puts : Bool) (k : ℕ) →
    may_go d block puts k ≡
    leaves d.sets (block % d.sets) (option_map (λ (x : Miss). x.block) d.cache.miss) (puts && not (has_put d.cache.put)) k
    (line_at d.cache.lines k).state
goes-leaves d block puts k =
    ap (λ (b : Bool). nat_eq (k % d.sets) (block % d.sets) && b)
    (goes_step (misses_on d.cache.miss k) puts d.cache.put (line_at d.cache.lines k).state
    ∙ ap (λ (b : Bool). not b && may_leave (puts && not (has_put d.cache.put)) (line_at d.cache.lines k).state)
    (sym (spared_misses d.cache.miss k)))
