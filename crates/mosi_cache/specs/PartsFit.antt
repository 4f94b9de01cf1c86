-- What is said of every unwinding into a cache: a part of what fits, fits, and what stays as it is, does so along the way.
use Rattle.std.specs.Prelude.{◌≡◌, ℕ, zero, suc, ◌<◌, ◌≤◌, ◌%◌, Bool, true, false, ◌&&◌, ◌||◌, ◌⊎◌, nat_eq, if◌then◌else◌, List, refl}
use Rattle.std.proofs.Common.{sym, ap, ◌∙◌, subst, inl, inr, zero-add}
use Rattle.std.proofs.Math.Nat.{le_refl, le_trans, le-suc, add-le-add}
use Rattle.std.proofs.lemmas.List.FromFn.{get_or-map-range_with_len}
use Rattle.sn_base.specs.declared.log.Old.{Old}
use Rattle.sn_base.specs.declared.log.Old.TheVariants.{NotOwned, Owned, WasHome, WasCache}
use Rattle.rollback.specs.Unwound.{IsPart, IsBetween}
use Rattle.sn_model.specs.Caches.{Line, Cache, no_line, line_of, is_present, misses_on, takes_frame, block_count, frames_below, line_at}
use Rattle.sn_model.specs.Caches.{frames_taken, FitsSets}
use Rattle.mosi_cache.specs.Controller.{CacheData}
use Rattle.mosi_cache.specs.Restored.{shared_copy, line_holding, lines_holding, cache_holding, HeldFits, StaysAsItIs}

-- whether each of the first blocks that takes a frame of one cache takes one of another
abbrev pub TakesFewerBelow : ℕ → Cache → Cache → Type 0
TakesFewerBelow n c d = (b : ℕ) → b < n → takes_frame c b ≡ true → takes_frame d b ≡ true

one_step : (s t u : Bool) → (t ≡ true → u ≡ true) → (if s && t then 1 else 0) ≤ (if s && u then 1 else 0)
one_step false t u h = le_refl 0
one_step true false true h = le-suc 0
one_step true false false h = le_refl 0
one_step true true u h = subst (λ (v : Bool). 1 ≤ (if v then 1 else 0)) (sym (h refl)) (le_refl 1)

pub fewer-below : (n : ℕ) (c d : Cache) (sets s : ℕ) → TakesFewerBelow n c d → frames_below n c sets s ≤ frames_below n d sets s
fewer-below zero c d sets s h = le_refl 0
fewer-below (suc n) c d sets s h =
    add-le-add (fewer-below n c d sets s (λ b l. h b (le_trans l (le-suc n))))
    (one_step (nat_eq (n % sets) s) (takes_frame c n) (takes_frame d n) (h n (le_refl (suc n))))

-- a cache that takes no other frames than one that fits, fits
pub fits-within : (c d : Cache) (sets ways : ℕ) → TakesFewerBelow block_count c d → FitsSets d sets ways → FitsSets c sets ways
unfolding frames_taken
fits-within c d sets ways h f y = le_trans (fewer-below block_count c d sets (y % sets) h) (f y)

-- the line of a block in a cache that holds so much of each
pub holding-at : (ls : List Line) (m : ℕ → Old) (b : ℕ) → b < block_count →
    line_at (lines_holding ls m) b ≡ line_holding (line_at ls b) (m b)
unfolding lines_holding
holding-at ls m b l = get_or-map-range_with_len (λ (x : ℕ). line_holding (line_at ls x) (m x)) 0 block_count b b no_line l (zero-add b)

or_true : (q m : Bool) → q ≡ true → (q || m) ≡ true
or_true q m h = ap (λ (v : Bool). v || m) h

pub or-step : (p q m : Bool) → (p ≡ true → q ≡ true) → (p || m) ≡ true → (q || m) ≡ true
or-step true q m h i = or_true q m (h refl)
or-step false true m h i = refl
or-step false false m h i = i

-- the caches that hold two maps, beside different Shared copies
pub fewer-held : (c d : Cache) (m n : ℕ → Old) → c.miss ≡ d.miss →
    ((b : ℕ) → is_present (line_holding (line_of c b) (m b)).state ≡ true → is_present (line_holding (line_of d b) (n b)).state ≡ true) →
    TakesFewerBelow block_count (cache_holding c m) (cache_holding d n)
fewer-held c d m n e h b l t =
    let u : (is_present (line_holding (line_of c b) (m b)).state || misses_on d.miss b) ≡ true =
    subst (λ (x : _). (is_present (line_holding (line_of c b) (m b)).state || misses_on x b) ≡ true) e
    (subst (λ (x : Line). (is_present x.state || misses_on c.miss b) ≡ true) (holding-at c.lines m b l) t) in
    subst (λ (x : Line). (is_present x.state || misses_on d.miss b) ≡ true) (sym (holding-at d.lines n b l))
    (or-step (is_present (line_holding (line_of c b) (m b)).state) (is_present (line_holding (line_of d b) (n b)).state)
    (misses_on d.miss b) (h b) u)

-- a map that holds less

beside : (x : Line) (h : Old) → is_present (shared_copy x x.state).state ≡ true → is_present (line_holding x h).state ≡ true
beside x NotOwned i = i
beside x (Owned content) i = refl
beside x (WasHome content) i = i
beside x (WasCache node) i = i

less : (x : Line) (h k : Old) → (h ≡ k) ⊎ (h ≡ NotOwned) → is_present (line_holding x h).state ≡ true →
    is_present (line_holding x k).state ≡ true
less x h k (inl e) i = subst (λ (o : Old). is_present (line_holding x o).state ≡ true) e i
less x h k (inr e) i = beside x k (subst (λ (o : Old). is_present (line_holding x o).state ≡ true) e i)

-- a part of a map that fits, fits
pub fits-part : (c : CacheData) (part whole : ℕ → Old) → HeldFits c whole → IsPart part whole → HeldFits c part
fits-part c part whole f h =
    fits-within (cache_holding c.cache part) (cache_holding c.cache whole) c.sets c.ways
    (fewer-held c.cache c.cache part whole refl (λ b i. less (line_of c.cache b) (part b) (whole b) (h b) i)) f

-- on the way to a map that fits each block is held as it is at last, or not at all
pub fits-way : (c : CacheData) (before after between : ℕ → Old) → HeldFits c before → HeldFits c after →
    IsBetween false before after between → HeldFits c between
fits-way c before after between f g h = fits-part c between after g h

-- what stays as it is

pub stays-same : (c : CacheData) → StaysAsItIs c c
stays-same c = record {
  node = refl;
  nodes = refl;
  sets = refl;
  ways = refl;
  blocks = refl;
  miss = refl;
  put = refl;
  begun = λ h. h;
}

pub stays-along : (c d e : CacheData) → StaysAsItIs c d → StaysAsItIs d e → StaysAsItIs c e
stays-along c d e h i = record {
  node = i.node ∙ h.node;
  nodes = i.nodes ∙ h.nodes;
  sets = i.sets ∙ h.sets;
  ways = i.ways ∙ h.ways;
  blocks = i.blocks ∙ h.blocks;
  miss = i.miss ∙ h.miss;
  put = i.put ∙ h.put;
  begun = λ b. i.begun (h.begun b);
}
