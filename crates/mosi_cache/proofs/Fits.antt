-- No set has more frames taken than ways, after a change of a line or of what is open.
use Rattle.std.proofs.Common.{◌≡◌, ℕ, ◌+◌, ◌<◌, ◌≤◌, ◌%◌, Bool, true, ◌||◌, List, set, Option, Some, None, refl, sym, subst, arith}
use Rattle.std.proofs.Common.{⊎_elim, IsNone, IfSome, false}
use Rattle.std.specs.Prelude.{nat_eq, if◌then◌else◌}
use Rattle.std.specs.Option.{option_map}
use Rattle.std.proofs.lemmas.Bool.{cases_Bool}
use Rattle.std.proofs.lemmas.Bool.Decides.{nat_tests}
use Rattle.atomicity_point.specs.declared.Txn.{Txn}
use Rattle.atomicity_point.specs.Txn.{Open, txn_with_answer, txn_with_ack as counted}
use Rattle.sn_model.specs.declared.cache.Need.{Need}
use Rattle.sn_model.specs.Caches.{Line, Cache, Miss, no_line, is_present, is_owned, is_writable_state, misses_on, takes_frame}
use Rattle.sn_model.specs.Caches.{frames_taken, cache_of_lines, line_at, FitsSets}
use Rattle.sn_model.specs.declared.cache.LineState.{LineState}
use Rattle.sn_model.specs.declared.cache.LineState.TheVariants.{Absent, Shared, Owned, Modified, Exclusive}
use Rattle.sn_model.specs.CacheRows.{fixed_at, miss_with_ack, AwaitsAnswer}
use Rattle.sn_model.proofs.Taken.{TakesFewer, taken-fewer, taken-more, taken-same, taken-strictly, fewer-set, taken-of-set}
use Rattle.mosi_cache.specs.Frames.{LinesData, HasFrame}
use Rattle.mosi_cache.specs.Controller.{miss_of, cache_of}

left : (p m : Bool) → p ≡ true → (p || m) ≡ true
left p m h = grind arith

right : (p m : Bool) → m ≡ true → (p || m) ≡ true
right p m h = grind arith

fewer : (c d : Cache) (sets ways : ℕ) → TakesFewer c d → FitsSets d sets ways → FitsSets c sets ways
fewer c d sets ways h f y = omega (arith, taken-fewer c d sets y h, f y)

-- a line and what is open have changed
pub fits-moved : (need need' : Need) (a b : LinesData) (o o' : Open) (x : ℕ) (l : Line) → b ≡ record a { lines = set a.lines x l } →
    ((y : ℕ) → misses_on (miss_of need' o'.miss) y ≡ true → misses_on (miss_of need o.miss) y ≡ true) →
    (is_present l.state ≡ true → takes_frame (cache_of need a o) x ≡ true) →
    FitsSets (cache_of need a o) a.sets a.ways → FitsSets (cache_of need' b o') b.sets b.ways
fits-moved need need' a b o o' x l e m t f =
    subst (λ (d : LinesData). FitsSets (cache_of need' d o') d.sets d.ways) (sym e)
    (fewer (cache_of need' (record a { lines = set a.lines x l }) o') (cache_of need a o) a.sets a.ways
    (fewer-set (cache_of need' (record a { lines = set a.lines x l }) o') (cache_of need a o) x l refl
    (λ y n. right (is_present (line_at a.lines y).state) (misses_on (miss_of need o.miss) y) (m y n)) t) f)

-- a line of a block that had one
pub fits-line : (need : Need) (a b : LinesData) (o : Open) (x : ℕ) (l : Line) → b ≡ record a { lines = set a.lines x l } →
    is_present (line_at a.lines x).state ≡ true →
    FitsSets (cache_of need a o) a.sets a.ways → FitsSets (cache_of need b o) b.sets b.ways
fits-line need a b o x l e p f =
    fits-moved need need a b o o x l e (λ y m. m) (λ t. left (is_present (line_at a.lines x).state) (misses_on (miss_of need o.miss) x) p) f

absent : is_present no_line.state ≡ true → ⊥
absent h = cc

-- a line is lost
pub fits-gone : (need : Need) (a b : LinesData) (o o' : Open) (x : ℕ) → b ≡ record a { lines = set a.lines x no_line } → o'.miss ≡ o.miss →
    FitsSets (cache_of need a o) a.sets a.ways → FitsSets (cache_of need b o') b.sets b.ways
fits-gone need a b o o' x e m f =
    fits-moved need need a b o o' x no_line e (λ y n. subst (λ (t : Option Txn). misses_on (miss_of need t) y ≡ true) m n)
    (λ t. absurd (absent t)) f

-- a line of the block of the miss
pub fits-missed : (need : Need) (a b : LinesData) (o o' : Open) (x : ℕ) (l : Line) → b ≡ record a { lines = set a.lines x l } →
    misses_on (miss_of need o.miss) x ≡ true →
    ((y : ℕ) → misses_on (miss_of need o'.miss) y ≡ true → misses_on (miss_of need o.miss) y ≡ true) →
    FitsSets (cache_of need a o) a.sets a.ways → FitsSets (cache_of need b o') b.sets b.ways
fits-missed need a b o o' x l e m w f =
    fits-moved need need a b o o' x l e w (λ t. right (is_present (line_at a.lines x).state) (misses_on (miss_of need o.miss) x) m) f

either : (p m n : Bool) → (p || m) ≡ true → (m ≡ true → n ≡ true) → (p || n) ≡ true
either p m n h i = grind arith

-- only what is open has changed
pub fits-open : (need need' : Need) (a : LinesData) (o o' : Open) →
    ((y : ℕ) → misses_on (miss_of need' o'.miss) y ≡ true → misses_on (miss_of need o.miss) y ≡ true) →
    FitsSets (cache_of need a o) a.sets a.ways → FitsSets (cache_of need' a o') a.sets a.ways
fits-open need need' a o o' m f =
    fewer (cache_of need' a o') (cache_of need a o) a.sets a.ways
    (λ y t. either (is_present (line_at a.lines y).state) (misses_on (miss_of need' o'.miss) y) (misses_on (miss_of need o.miss) y) t
    (m y)) f

-- what an answer or an acknowledgement makes of the miss

pub miss-answered : (need : Need) (t : Option Txn) (tag due : ℕ) →
    miss_of need (option_map (λ u. txn_with_answer u tag due) t) ≡ fixed_at (miss_of need t) tag due
miss-answered need None tag due = refl
miss-answered need (Some t) tag due = refl

pub miss-counted : (need : Need) (t : Option Txn) → miss_of need (option_map counted t) ≡ miss_with_ack (miss_of need t)
miss-counted need None = refl
miss-counted need (Some t) = refl

pub misses-answered : (need : Need) (t : Option Txn) (tag due y : ℕ) →
    misses_on (miss_of need (option_map (λ u. txn_with_answer u tag due) t)) y ≡ true → misses_on (miss_of need t) y ≡ true
misses-answered need None tag due y h = h
misses-answered need (Some t) tag due y h = h

pub misses-counted : (need : Need) (t : Option Txn) (y : ℕ) → misses_on (miss_of need (option_map counted t)) y ≡ true →
    misses_on (miss_of need t) y ≡ true
misses-counted need None y h = h
misses-counted need (Some t) y h = h

-- the frame of the miss has room for its line

plain : (p : Bool) → (p || false) ≡ true → p ≡ true
plain p h = grind arith

closed_fewer : (ls : List Line) (c : Cache) → c.lines ≡ ls → TakesFewer (cache_of_lines ls) c
closed_fewer ls c e y h =
    left (is_present (line_at c.lines y).state) (misses_on c.miss y)
    (subst (λ (m : List Line). is_present (line_at m y).state ≡ true) (sym e) (plain (is_present (line_at ls y).state) h))

none_taken : (p : Bool) → p ≡ false → (p || false) ≡ false
none_taken p h = grind arith

pub room-for-miss : (need : Need) (a : LinesData) (o : Open) (x : ℕ) → misses_on (miss_of need o.miss) x ≡ true →
    FitsSets (cache_of need a o) a.sets a.ways → HasFrame a x
room-for-miss need a o x m f n p =
    let s = taken-strictly (cache_of_lines a.lines) (cache_of need a o) a.sets x (closed_fewer a.lines (cache_of need a o) refl)
    (right (is_present (line_at a.lines x).state) (misses_on (miss_of need o.miss) x) m)
    (none_taken (is_present (line_at a.lines x).state) p) n in
    omega (arith, f x)

-- states

pub owned-present : (s : LineState) → is_owned s ≡ true → is_present s ≡ true
owned-present Absent h = h
owned-present Shared h = refl
owned-present Owned h = refl
owned-present Modified h = refl
owned-present Exclusive h = refl

pub writable-present : (s : LineState) → is_writable_state s ≡ true → is_present s ≡ true
writable-present Absent h = h
writable-present Shared h = refl
writable-present Owned h = refl
writable-present Modified h = refl
writable-present Exclusive h = refl

-- the miss is on the block

same_number : (a b : ℕ) → a ≡ b → nat_eq a b ≡ true
same_number a b h = grind (arith, nat_tests)

pub misses-awaiting : (m : Option Miss) (b : ℕ) (n : Need) → AwaitsAnswer m b n → misses_on m b ≡ true
misses-awaiting None b n h = absurd h
misses-awaiting (Some m) b n h = same_number m.block b h.0

pub misses-block : (need : Need) (t : Option Txn) (u : Txn) (b : ℕ) → t ≡ Some u → IfSome (miss_of need t) (λ m. m.block ≡ b) →
    misses_on (miss_of need t) b ≡ true
misses-block need None u b e h = cc
misses-block need (Some t) u b e h = same_number t.block b h

-- nothing is open
pub misses-none : (need : Need) (t : Option Txn) (y : ℕ) (P : Type 0) → t ≡ None → misses_on (miss_of need t) y ≡ true → P
misses-none need None y P e h = cc
misses-none need (Some t) y P e h = cc

none_missed : (need : Need) (t : Option Txn) (y : ℕ) → IsNone (miss_of need t) → misses_on (miss_of need t) y ≡ true → ⊥
none_missed need None y n h = cc
none_missed need (Some t) y n h = cc

strip : (need : Need) (t : Option Txn) (y : ℕ) (p : Bool) → IsNone (miss_of need t) → (p || misses_on (miss_of need t) y) ≡ true →
    (p || false) ≡ true
strip need t y true n h = refl
strip need t y false n h = absurd (none_missed need t y n h)

-- where no miss is open, the lines alone take frames
pub taken-closed : (need : Need) (a : LinesData) (o : Open) (y : ℕ) → IsNone (miss_of need o.miss) →
    frames_taken (cache_of_lines a.lines) a.sets y ≡ frames_taken (cache_of need a o) a.sets y
taken-closed need a o y n =
    taken-same (cache_of_lines a.lines) (cache_of need a o) a.sets y (closed_fewer a.lines (cache_of need a o) refl)
    (λ b h. strip need o.miss b (is_present (line_at a.lines b).state) n h)

-- a miss on a block that has a line, or whose set has a frame for one

new_step : (need : Need) (p : Bool) (x b : ℕ) (t : Option Txn) → (p || nat_eq x b) ≡ true →
    ((p || misses_on (miss_of need t) b) || nat_eq x b) ≡ true
new_step need p x b t h = grind arith

more_step : (sets ways x y i j : ℕ) → i ≤ j + (if nat_eq (x % sets) (y % sets) then 1 else 0) → j ≤ ways →
    (x % sets ≡ y % sets → j < ways) → i ≤ ways
more_step sets ways x y i j h f l = grind (arith, nat_tests)

line_step : (p m n e : Bool) → m ≡ e → (e ≡ true → p ≡ true) → (p || m) ≡ true → (p || n) ≡ true
line_step p m n e h i k = grind arith

had_line : (ls : List Line) (x b : ℕ) (m n : Bool) → m ≡ nat_eq x b → is_present (line_at ls x).state ≡ true →
    (is_present (line_at ls b).state || m) ≡ true → (is_present (line_at ls b).state || n) ≡ true
had_line ls x b m n e p h =
    line_step (is_present (line_at ls b).state) m n (nat_eq x b) e
    (λ t. let q : x ≡ b = grind (arith, nat_tests) in subst (λ (y : ℕ). is_present (line_at ls y).state ≡ true) q p) h

more_or_same : (c d : Cache) (sets ways x : ℕ) → ((b : ℕ) → takes_frame c b ≡ true → (takes_frame d b || nat_eq x b) ≡ true) →
    FitsSets d sets ways → frames_taken d sets x < ways → FitsSets c sets ways
more_or_same c d sets ways x h f l y =
    let m = taken-more c d sets x y h in
    more_step sets ways x y (frames_taken c sets y) (frames_taken d sets y) m (f y) (λ e. rw (taken-of-set d sets y x (sym e)) l)

pub fits-new : (need need' : Need) (a : LinesData) (o o' : Open) (x : ℕ) → ((b : ℕ) → misses_on (miss_of need' o'.miss) b ≡ nat_eq x b) →
    (is_present (line_at a.lines x).state ≡ false → frames_taken (cache_of need a o) a.sets x < a.ways) →
    FitsSets (cache_of need a o) a.sets a.ways → FitsSets (cache_of need' a o') a.sets a.ways
fits-new need need' a o o' x m l f =
    ⊎_elim
    (λ (p : is_present (line_at a.lines x).state ≡ true).
    fewer (cache_of need' a o') (cache_of need a o) a.sets a.ways
    (λ b h. had_line a.lines x b (misses_on (miss_of need' o'.miss) b) (misses_on (miss_of need o.miss) b) (m b) p h) f)
    (λ (p : is_present (line_at a.lines x).state ≡ false).
    more_or_same (cache_of need' a o') (cache_of need a o) a.sets a.ways x
    (λ b h. new_step need (is_present (line_at a.lines b).state) x b o.miss (rw (m b) at h)) f (l p))
    (cases_Bool (is_present (line_at a.lines x).state))
