-- How many frames of a set are taken, after a change of the cache.
use Rattle.std.proofs.Common.{◌≡◌, ℕ, zero, suc, ◌+◌, ◌<◌, ◌≤◌, ◌%◌, Bool, true, false, ◌&&◌, ◌||◌, List, length, set, sym, subst, arith}
use Rattle.std.proofs.Common.{⊎_elim, ap, replicate, refl}
use Rattle.std.specs.Prelude.{nat_eq, if◌then◌else◌}
use Rattle.std.proofs.lemmas.Bool.{cases_eq, cases_lt}
use Rattle.std.proofs.lemmas.Bool.Decides.{nat_tests}
use Rattle.std.proofs.lemmas.List.{get_or-set_same, get_or-set_other, set_past, get_or_past, get_or-replicate, length-replicate}
use Rattle.sn_model.specs.Caches.{Line, Cache, no_line, empty_lines, cache_of_lines, line_at, is_present, misses_on, takes_frame, block_count}
use Rattle.sn_model.specs.Caches.{frames_below, frames_taken, FitsSets}

-- whether each block that takes a frame of one cache takes one of another
abbrev pub TakesFewer : Cache → Cache → Type 0
TakesFewer c d = (b : ℕ) → takes_frame c b ≡ true → takes_frame d b ≡ true

fewer_step : (i j : ℕ) (s t u : Bool) → i ≤ j → (t ≡ true → u ≡ true) → i + (if s && t then 1 else 0) ≤ j + (if s && u then 1 else 0)
fewer_step i j s t u h k = grind arith

fewer_below : (n : ℕ) (c d : Cache) (sets s : ℕ) → TakesFewer c d → frames_below n c sets s ≤ frames_below n d sets s
fewer_below zero c d sets s h = omega arith
fewer_below (suc n) c d sets s h =
    fewer_step (frames_below n c sets s) (frames_below n d sets s) (nat_eq (n % sets) s) (takes_frame c n) (takes_frame d n)
    (fewer_below n c d sets s h) (h n)

pub taken-fewer : (c d : Cache) (sets y : ℕ) → TakesFewer c d → frames_taken c sets y ≤ frames_taken d sets y
unfolding frames_taken
taken-fewer c d sets y h = fewer_below block_count c d sets (y % sets) h

pub taken-same : (c d : Cache) (sets y : ℕ) → TakesFewer c d → TakesFewer d c → frames_taken c sets y ≡ frames_taken d sets y
taken-same c d sets y h k = omega (arith, taken-fewer c d sets y h, taken-fewer d c sets y k)

-- but for one block

more_step : (n x sets s i j : ℕ) (t u : Bool) → i ≤ j + (if nat_eq (x % sets) s then 1 else 0) → (n ≤ x → i ≤ j) →
    (t ≡ true → (u || nat_eq x n) ≡ true) →
    i + (if nat_eq (n % sets) s && t then 1 else 0) ≤ (j + (if nat_eq (n % sets) s && u then 1 else 0)) + (if nat_eq (x % sets) s then 1
    else 0)
more_step n x sets s i j t u h l k = ⊎_elim
    (λ (e : x ≡ n). rw e (let m : i ≤ j = l (omega arith) in grind arith))
    (λ (e : x ≡ n → ⊥). let f : nat_eq x n ≡ false = grind (arith, nat_tests) in grind arith)
    (cases_eq x n)

below_step : (n x : ℕ) (u : Bool) → suc n ≤ x → (u || nat_eq x n) ≡ true → u ≡ true
below_step n x u l h = grind (arith, nat_tests)

few_below : (n : ℕ) (c d : Cache) (sets s x : ℕ) → ((b : ℕ) → takes_frame c b ≡ true → (takes_frame d b || nat_eq x b) ≡ true) → n ≤ x →
    frames_below n c sets s ≤ frames_below n d sets s
few_below zero c d sets s x h l = omega arith
few_below (suc n) c d sets s x h l =
    fewer_step (frames_below n c sets s) (frames_below n d sets s) (nat_eq (n % sets) s) (takes_frame c n) (takes_frame d n)
    (few_below n c d sets s x h (omega arith))
    (λ t. below_step n x (takes_frame d n) l (h n t))

more_below : (n : ℕ) (c d : Cache) (sets s x : ℕ) → ((b : ℕ) → takes_frame c b ≡ true → (takes_frame d b || nat_eq x b) ≡ true) →
    frames_below n c sets s ≤ frames_below n d sets s + (if nat_eq (x % sets) s then 1 else 0)
more_below zero c d sets s x h = omega arith
more_below (suc n) c d sets s x h =
    more_step n x sets s (frames_below n c sets s) (frames_below n d sets s) (takes_frame c n) (takes_frame d n)
    (more_below n c d sets s x h) (few_below n c d sets s x h) (h n)

pub taken-more : (c d : Cache) (sets x y : ℕ) → ((b : ℕ) → takes_frame c b ≡ true → (takes_frame d b || nat_eq x b) ≡ true) →
    frames_taken c sets y ≤ frames_taken d sets y + (if nat_eq (x % sets) (y % sets) then 1 else 0)
unfolding frames_taken
taken-more c d sets x y h = more_below block_count c d sets (y % sets) x h

-- a block that only the other takes

pub strict_step : (n x sets i j : ℕ) (t u : Bool) → i ≤ j → (x < n → i + 1 ≤ j) → x < suc n → (t ≡ true → u ≡ true) → (n ≡ x → u ≡ true) →
    (n ≡ x → t ≡ false) →
    (i + (if nat_eq (n % sets) (x % sets) && t then 1 else 0)) + 1 ≤ j + (if nat_eq (n % sets) (x % sets) && u then 1 else 0)
strict_step n x sets i j t u h l m k v w = ⊎_elim
    (λ (e : n ≡ x). rw (e, w e, v e) (let q : nat_eq (x % sets) (x % sets) ≡ true = grind (arith, nat_tests) in rw q (omega arith)))
    (λ (e : n ≡ x → ⊥). let o : i + 1 ≤ j = l (omega arith) in grind arith)
    (cases_eq n x)

strict_below : (n : ℕ) (c d : Cache) (sets x : ℕ) → TakesFewer c d → takes_frame d x ≡ true → takes_frame c x ≡ false → x < n →
    frames_below n c sets (x % sets) + 1 ≤ frames_below n d sets (x % sets)
strict_below zero c d sets x h v w l = omega arith
strict_below (suc n) c d sets x h v w l =
    strict_step n x sets (frames_below n c sets (x % sets)) (frames_below n d sets (x % sets)) (takes_frame c n) (takes_frame d n)
    (fewer_below n c d sets (x % sets) h)
    (strict_below n c d sets x h v w)
    l (h n)
    (λ e. subst (λ (b : ℕ). takes_frame d b ≡ true) (sym e) v)
    (λ e. subst (λ (b : ℕ). takes_frame c b ≡ false) (sym e) w)

strict_lt : (n : ℕ) (c d : Cache) (sets x : ℕ) → TakesFewer c d → takes_frame d x ≡ true → takes_frame c x ≡ false → x < n →
    frames_below n c sets (x % sets) < frames_below n d sets (x % sets)
strict_lt n c d sets x h v w l = omega (arith, strict_below n c d sets x h v w l)

pub taken-strictly : (c d : Cache) (sets x : ℕ) → TakesFewer c d → takes_frame d x ≡ true → takes_frame c x ≡ false → x < block_count →
    frames_taken c sets x < frames_taken d sets x
unfolding frames_taken
taken-strictly c d sets x h v w l = strict_lt block_count c d sets x h v w l

-- what a change of one line means for a block

present_step : (ls : List Line) (x b : ℕ) (l : Line) → is_present (line_at (set ls x l) b).state ≡ true →
    (is_present (line_at ls b).state || (nat_eq x b && is_present l.state)) ≡ true
present_step ls x b l h = ⊎_elim
    (λ (e : x ≡ b). ⊎_elim
    (λ (i : x < length ls). let q : line_at (set ls x l) x ≡ l = get_or-set_same ls x l no_line i in
    let h2 : is_present (line_at (set ls x l) x).state
    ≡ true = subst (λ (y : ℕ). is_present (line_at (set ls x l) y).state ≡ true) (sym e) h in
    let r : is_present l.state ≡ true = subst (λ (m : Line). is_present m.state ≡ true) q h2 in
    let t : nat_eq x b ≡ true = grind (arith, nat_tests) in grind arith)
    (λ (i : length ls ≤ x). let q : set ls x l ≡ ls = set_past ls x l i in
    let r : is_present (line_at ls b).state ≡ true = subst (λ (ms : List Line). is_present (line_at ms b).state ≡ true) q h in grind arith)
    (cases_lt x (length ls)))
    (λ (e : x ≡ b → ⊥). let q : line_at (set ls x l) b ≡ line_at ls b = get_or-set_other ls x b l no_line (λ f. e (sym f)) in
    let r : is_present (line_at ls b).state ≡ true = subst (λ (m : Line). is_present m.state ≡ true) q h in grind arith)
    (cases_eq x b)

misses_step : (p q m c : Bool) → (p || m) ≡ true → (p ≡ true → (q || c) ≡ true) → (m ≡ true → (q || c) ≡ true) → (q || c) ≡ true
misses_step p q m c h i j = grind arith

either : (p e g m : Bool) → (p || (e && g)) ≡ true → (e ≡ true → g ≡ true → (p || m) ≡ true) → (p || m) ≡ true
either p e g m h u = grind arith

-- a changed line takes a frame only where the block has one, and the miss is on no other block: no other frame is taken
pub fewer-set : (c d : Cache) (x : ℕ) (l : Line) → c.lines ≡ set d.lines x l →
    ((b : ℕ) → misses_on c.miss b ≡ true → takes_frame d b ≡ true) → (is_present l.state ≡ true → takes_frame d x ≡ true) → TakesFewer c d
fewer-set c d x l e m t b h =
    misses_step (is_present (line_at c.lines b).state) (is_present (line_at d.lines b).state) (misses_on c.miss b) (misses_on d.miss b) h
    (λ p. let q : is_present (line_at (set d.lines x l) b).state
    ≡ true = subst (λ (ls : List Line). is_present (line_at ls b).state ≡ true) e p in
    let r = present_step d.lines x b l q in
    let u : nat_eq x b ≡ true → is_present l.state ≡ true → takes_frame d b ≡ true = λ f g. let i : x ≡ b = grind (arith, nat_tests) in
    subst (λ (y : ℕ). takes_frame d y ≡ true) i (t g) in
    either (is_present (line_at d.lines b).state) (nat_eq x b) (is_present l.state) (misses_on d.miss b) r u)
    (m b)

-- blocks of one set

pub taken-of-set : (c : Cache) (sets x y : ℕ) → x % sets ≡ y % sets → frames_taken c sets x ≡ frames_taken c sets y
unfolding frames_taken
taken-of-set c sets x y e = ap (λ s. frames_below block_count c sets s) e

-- a cache without a line takes no frame

pub empty-at : (b : ℕ) → line_at empty_lines b ≡ no_line
unfolding empty_lines
empty-at b =
    ⊎_elim
    (λ (l : b < block_count). get_or-replicate block_count b no_line no_line l)
    (λ (l : block_count ≤ b). get_or_past (replicate block_count no_line) b no_line (omega (arith, length-replicate block_count no_line)))
    (cases_lt b block_count)

no_step : (a : ℕ) (c p : Bool) → a ≡ 0 → p ≡ false → a + (if c && (p || false) then 1 else 0) ≡ 0
no_step a c p h i = grind arith

no_frame : (n sets s : ℕ) → frames_below n (cache_of_lines empty_lines) sets s ≡ 0
no_frame zero sets s = refl
no_frame (suc n) sets s =
    no_step (frames_below n (cache_of_lines empty_lines) sets s) (nat_eq (n % sets) s) (is_present (line_at empty_lines n).state)
    (no_frame n sets s) (ap (λ (l : Line). is_present l.state) (empty-at n))

pub none-taken : (sets b : ℕ) → frames_taken (cache_of_lines empty_lines) sets b ≡ 0
unfolding frames_taken
none-taken sets b = no_frame block_count sets (b % sets)

pub fits-none : (sets ways : ℕ) → FitsSets (cache_of_lines empty_lines) sets ways
fits-none sets ways y = omega (arith, none-taken sets y)
