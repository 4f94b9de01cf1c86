-- What a controller holds of each block after a change of a line, and which maps fit it then.
use Rattle.std.proofs.Common.{◌≡◌, ℕ, ◌<◌, ◌≤◌, Bool, true, false, ◌||◌, ◌⊎◌, inl, inr, List, length, set, refl, sym, ap, ◌∙◌, subst, arith}
use Rattle.std.proofs.Common.{⊎_elim}
use Rattle.std.specs.Prelude.{nat_eq, if◌then◌else◌}
use Rattle.std.proofs.lemmas.Bool.{cases_eq, cases_lt}
use Rattle.std.proofs.lemmas.Bool.Decides.{nat_tests}
use Rattle.std.proofs.lemmas.List.{get_or-set_same, get_or-set_other, set_past}
use Rattle.sn_base.specs.declared.log.Old.{Old}
use Rattle.sn_base.specs.declared.log.Old.TheVariants.{NotOwned, Owned, WasHome, WasCache}
use Rattle.rollback.specs.Unwound.{contents_with_old}
use Rattle.sn_model.specs.declared.cache.LineState.{LineState}
use Rattle.sn_model.specs.declared.cache.LineState.TheVariants.{Absent, Shared, Owned as InOwned, Modified, Exclusive}
use Rattle.sn_model.specs.Caches.{Line, no_line, line_of, is_present, misses_on, takes_frame, block_count, frames_taken, cache_of_lines}
use Rattle.sn_model.specs.Caches.{line_at, FitsSets}
use Rattle.sn_model.specs.Cuts.{owned_content}
use Rattle.mosi_cache.specs.Controller.{CacheData}
use Rattle.mosi_cache.specs.Restored.{old_of, held_of, shared_copy, line_holding, cache_holding, HeldFits}
use Rattle.mosi_cache.specs.PartsFit.{fits-within, holding-at, or-step, fewer-held}
use Rattle.mosi_cache.proofs.Within.{strictly-within}

-- what is held now

held_present : (s : LineState) (x : List ℕ) →
    is_present (line_holding (record { state = s; content = x }) (old_of (owned_content (record { state = s; content = x }) s))).state
    ≡ true → is_present s ≡ true
held_present Absent x h = h
held_present Shared x h = refl
held_present InOwned x h = refl
held_present Modified x h = refl
held_present Exclusive x h = refl

present_held : (s : LineState) (x : List ℕ) → is_present s ≡ true →
    is_present (line_holding (record { state = s; content = x }) (old_of (owned_content (record { state = s; content = x }) s))).state
    ≡ true
present_held Absent x h = h
present_held Shared x h = refl
present_held InOwned x h = refl
present_held Modified x h = refl
present_held Exclusive x h = refl

-- what a controller holds fits it
pub fits-held : (c : CacheData) → FitsSets c.cache c.sets c.ways → HeldFits c (held_of c)
fits-held c f =
    fits-within (cache_holding c.cache (held_of c)) c.cache c.sets c.ways
    (λ b l t.
    or-step (is_present (line_holding (line_of c.cache b) (held_of c b)).state) (is_present (line_of c.cache b).state)
    (misses_on c.cache.miss b)
    (held_present (line_of c.cache b).state (line_of c.cache b).content)
    (subst (λ (x : Line). (is_present x.state || misses_on c.cache.miss b) ≡ true) (holding-at c.cache.lines (held_of c) b l) t)) f

-- one line is changed

abbrev pub changed : CacheData → ℕ → Line → CacheData
changed c x l = record c { cache = record c.cache { lines = set c.cache.lines x l } }

set_either : (ls : List Line) (x b : ℕ) (l : Line) → (line_at (set ls x l) b ≡ l) ⊎ (line_at (set ls x l) b ≡ line_at ls b)
set_either ls x b l =
    ⊎_elim
    (λ (e : x ≡ b). ⊎_elim
    (λ (i : x < length ls). inl (ap (line_at (set ls x l)) (sym e) ∙ get_or-set_same ls x l no_line i))
    (λ (i : length ls ≤ x). inr (ap (λ (ms : List Line). line_at ms b) (set_past ls x l i)))
    (cases_lt x (length ls)))
    (λ (e : x ≡ b → ⊥). inr (get_or-set_other ls x b l no_line (λ f. e (sym f))))
    (cases_eq x b)

no_copy : (l x : Line) (h : Old) → shared_copy l l.state ≡ no_line → is_present (line_holding l h).state ≡ true →
    is_present (line_holding x h).state ≡ true
no_copy l x NotOwned e i = let t : is_present no_line.state ≡ true = subst (λ (m : Line). is_present m.state ≡ true) e i in cc
no_copy l x (Owned content) e i = refl
no_copy l x (WasHome content) e i = let t : is_present no_line.state ≡ true = subst (λ (m : Line). is_present m.state ≡ true) e i in cc
no_copy l x (WasCache node) e i = let t : is_present no_line.state ≡ true = subst (λ (m : Line). is_present m.state ≡ true) e i in cc

set_step : (ls : List Line) (x b : ℕ) (l : Line) (h : Old) → shared_copy l l.state ≡ no_line →
    is_present (line_holding (line_at (set ls x l) b) h).state ≡ true → is_present (line_holding (line_at ls b) h).state ≡ true
set_step ls x b l h e i =
    ⊎_elim
    (λ (q : line_at (set ls x l) b ≡ l). no_copy l (line_at ls b) h e
    (subst (λ (m : Line). is_present (line_holding m h).state ≡ true) q i))
    (λ (q : line_at (set ls x l) b ≡ line_at ls b). subst (λ (m : Line). is_present (line_holding m h).state ≡ true) q i)
    (set_either ls x b l)

-- what fitted before a line that is no Shared copy was set, fits
pub fits-changed : (c d : CacheData) (x : ℕ) (l : Line) (m : ℕ → Old) → d ≡ changed c x l → shared_copy l l.state ≡ no_line → HeldFits c m →
    HeldFits d m
fits-changed c d x l m e n f =
    subst (λ (k : CacheData). HeldFits k m) (sym e)
    (fits-within (cache_holding (changed c x l).cache m) (cache_holding c.cache m) c.sets c.ways
    (fewer-held (changed c x l).cache c.cache m m refl (λ b i. set_step c.cache.lines x b l (m b) n i)) f)

-- room for a block that is put back

restored_step : (e : Bool) (s : LineState) (x content : List ℕ) → is_present s ≡ true →
    is_present (line_holding (record { state = s; content = x })
    (if e then Owned content else old_of (owned_content (record { state = s; content = x }) s))).state ≡ true
restored_step true s x content h = refl
restored_step false s x content h = present_held s x h

none_open : (p q m : Bool) → (p ≡ true → q ≡ true) → (p || false) ≡ true → (q || m) ≡ true
none_open p q m h i = grind arith

abbrev with_block : CacheData → ℕ → List ℕ → ℕ → Old
with_block c x content = contents_with_old false (held_of c) x (Owned content)

plain : (p : Bool) → p ≡ false → (p || false) ≡ false
plain p h = grind arith

taken_step : (x : Line) (t m : Bool) (content : List ℕ) (o : Old) → t ≡ true →
    (is_present (line_holding x (if t then Owned content else o)).state || m) ≡ true
taken_step x true m content o h = refl
taken_step x false m content o h = cc

takes_block : (c : CacheData) (x : ℕ) (content : List ℕ) → x < block_count →
    takes_frame (cache_holding c.cache (with_block c x content)) x ≡ true
takes_block c x content l =
    let t : nat_eq x x ≡ true = grind (arith, nat_tests) in
    subst (λ (y : Line). (is_present y.state || misses_on c.cache.miss x) ≡ true)
    (sym (holding-at c.cache.lines (with_block c x content) x l))
    (taken_step (line_of c.cache x) (nat_eq x x) (misses_on c.cache.miss x) content (held_of c x) t)

-- a block that is put back finds a frame
pub room-held : (c : CacheData) (x : ℕ) (content : List ℕ) → HeldFits c (contents_with_old false (held_of c) x (Owned content)) → x < block_count →
    is_present (line_of c.cache x).state ≡ false → frames_taken (cache_of_lines c.cache.lines) c.sets x < c.ways
room-held c x content f l p =
    let s = strictly-within (cache_of_lines c.cache.lines) (cache_holding c.cache (with_block c x content)) c.sets x
    (λ b m t. subst (λ (y : Line). (is_present y.state || misses_on c.cache.miss b) ≡ true)
    (sym (holding-at c.cache.lines (with_block c x content) b m))
    (none_open (is_present (line_of c.cache b).state) (is_present (line_holding (line_of c.cache b) (with_block c x content b)).state)
    (misses_on c.cache.miss b)
    (restored_step (nat_eq x b) (line_of c.cache b).state (line_of c.cache b).content content) t))
    (takes_block c x content l) (plain (is_present (line_of c.cache x).state) p) l in
    omega (arith, s, f x)

-- and the cache with it fits
put_step : (c : CacheData) (x b : ℕ) (content : List ℕ) → b < block_count →
    is_present (line_at (set c.cache.lines x (record { state = Modified; content = content })) b).state ≡ true →
    is_present (line_holding (line_of c.cache b) (with_block c x content b)).state ≡ true
put_step c x b content l h =
    ⊎_elim
    (λ (i : x ≡ b). let t : nat_eq x b ≡ true = grind (arith, nat_tests) in rw t refl)
    (λ (i : x ≡ b → ⊥).
    restored_step (nat_eq x b) (line_of c.cache b).state (line_of c.cache b).content content
    (subst (λ (m : Line). is_present m.state ≡ true)
    (get_or-set_other c.cache.lines x b (record { state = Modified; content = content }) no_line (λ j. i (sym j))) h))
    (cases_eq x b)

pub fits-put : (c : CacheData) (x : ℕ) (content : List ℕ) → HeldFits c (contents_with_old false (held_of c) x (Owned content)) →
    FitsSets (changed c x (record { state = Modified; content = content })).cache c.sets c.ways
fits-put c x content f =
    fits-within (changed c x (record { state = Modified; content = content })).cache
    (cache_holding c.cache (with_block c x content)) c.sets c.ways
    (λ b l t. subst (λ (y : Line). (is_present y.state || misses_on c.cache.miss b) ≡ true)
    (sym (holding-at c.cache.lines (with_block c x content) b l))
    (or-step (is_present (line_at (set c.cache.lines x (record { state = Modified; content = content })) b).state)
    (is_present (line_holding (line_of c.cache b) (with_block c x content b)).state) (misses_on c.cache.miss b)
    (put_step c x b content l) t)) f
