-- A cache once a recovery has begun, and once its log is unwound: just what the machine's recovery leaves.
use Rattle.std.proofs.Common.{◌≡◌, ℕ, zero, suc, ◌+◌, ◌<◌, Bool, true, false, ◌||◌, List, [], ◌∷◌, length, Option, Some, None, refl, sym}
use Rattle.std.proofs.Common.{ap, ◌∙◌, subst, arith}
use Rattle.std.specs.Prelude.{map, unwrap_or}
use Rattle.std.proofs.Math.ListN.{get_or-map, length-map}
use Rattle.std.proofs.lemmas.List.{ext_get_or}
use Rattle.sn_base.specs.declared.log.LogEntry.{LogEntry}
use Rattle.sn_base.specs.declared.log.Old.{Old}
use Rattle.sn_base.specs.declared.log.Old.TheVariants.{NotOwned, Owned, WasHome, WasCache}
use Rattle.log_buffer.specs.Log.{old_at}
use Rattle.rollback.specs.Unwound.{content_unwound}
use Rattle.sn_model.specs.declared.cache.LineState.{LineState}
use Rattle.sn_model.specs.declared.cache.LineState.TheVariants.{Absent, Shared, Owned as InOwned, Modified, Exclusive}
use Rattle.sn_model.specs.Caches.{Line, Cache, Miss, no_line, line_of, is_present, misses_on, block_count, line_at, FitsSets}
use Rattle.sn_model.specs.Cuts.{owned_content, held_by}
use Rattle.sn_model.specs.PointEvents.{restored_line, restored_lines, restored_cache}
use Rattle.mosi_cache.specs.Controller.{CacheData}
use Rattle.mosi_cache.specs.Restored.{begun_line, begun_restore, old_of, held_of, line_holding, lines_holding, cache_holding, HeldFits}
use Rattle.mosi_cache.specs.Restored.{HasOnlyModified, StaysAsItIs}
use Rattle.mosi_cache.specs.PartsFit.{fits-within, holding-at}

-- the lines once a recovery has begun

abbrev pub begun : CacheData → CacheData
begun c = record c { cache = begun_restore c.cache }

pub begun-at : (ls : List Line) (b : ℕ) → line_at (map begun_line ls) b ≡ begun_line (line_at ls b)
begun-at ls b = get_or-map begun_line ls b no_line

restored_again : (o : Option (List ℕ)) → begun_line (restored_line o) ≡ restored_line o
restored_again None = refl
restored_again (Some content) = refl

begun_again : (c : CacheData) → HasOnlyModified (begun c).cache
begun_again c b =
    let l = line_of c.cache b in
    ap begun_line (begun-at c.cache.lines b) ∙ restored_again (owned_content l l.state) ∙ sym (begun-at c.cache.lines b)

begun_present : (s : LineState) (x : List ℕ) → is_present (begun_line (record { state = s; content = x })).state ≡ true →
    is_present s ≡ true
begun_present Absent x h = h
begun_present Shared x h = refl
begun_present InOwned x h = refl
begun_present Modified x h = refl
begun_present Exclusive x h = refl

drop_open : (p q m : Bool) → (p ≡ true → q ≡ true) → (p || false) ≡ true → (q || m) ≡ true
drop_open p q m h i = grind arith

-- they fit where the cache did
pub fits-begun : (c : Cache) (sets ways : ℕ) → FitsSets c sets ways → FitsSets (begun_restore c) sets ways
fits-begun c sets ways f =
    fits-within (begun_restore c) c sets ways
    (λ b l t. drop_open (is_present (line_at (map begun_line c.lines) b).state) (is_present (line_of c b).state) (misses_on c.miss b)
    (λ p. begun_present (line_of c b).state (line_of c b).content
    (subst (λ (m : Line). is_present m.state ≡ true) (begun-at c.lines b) p)) t) f

-- what is held, as a content

abbrev pub content_of : Old → Option (List ℕ)
content_of NotOwned = None
content_of (Owned content) = Some content
content_of (WasHome content) = None
content_of (WasCache node) = None

content_old : (o : Option (List ℕ)) → content_of (old_of o) ≡ o
content_old None = refl
content_old (Some content) = refl

owned_restored : (o : Option (List ℕ)) → owned_content (restored_line o) (restored_line o).state ≡ o
owned_restored None = refl
owned_restored (Some content) = refl

-- a recovery that begins leaves what is held
pub held-begun : (c : CacheData) (b : ℕ) → held_of (begun c) b ≡ held_of c b
held-begun c b =
    let l = line_of c.cache b in
    ap (λ (m : Line). old_of (owned_content m m.state)) (begun-at c.cache.lines b) ∙ ap old_of (owned_restored (owned_content l l.state))

unwound_content : (l : Line) (o : Option Old) (h : Old) → h ≡ old_of (owned_content l l.state) → content_of (unwrap_or o h) ≡ held_by o l
unwound_content l None h e = ap content_of e ∙ content_old (owned_content l l.state)
unwound_content l (Some NotOwned) h e = refl
unwound_content l (Some (Owned content)) h e = refl
unwound_content l (Some (WasHome content)) h e = refl
unwound_content l (Some (WasCache node)) h e = refl

-- the content that a block has after the unwinding, by the line that it had before the recovery
content_then : (c : CacheData) (log : List LogEntry) (k b : ℕ) →
    content_of (content_unwound log false k (held_of (begun c)) b) ≡ held_by (old_at log false b k) (line_of c.cache b)
content_then c log k b = unwound_content (line_of c.cache b) (old_at log false b k) (held_of (begun c) b) (held-begun c b)

-- the machine's lines after a recovery

length_restored : (log : List LogEntry) (k s : ℕ) (ls : List Line) → length (restored_lines log k s ls) ≡ length ls
length_restored log k s [] = refl
length_restored log k s (l ∷ ls) = omega (arith, length_restored log k (s + 1) ls)

restored_at : (log : List LogEntry) (k s i b : ℕ) (ls : List Line) → i < length ls → s + i ≡ b →
    line_at (restored_lines log k s ls) i ≡ restored_line (held_by (old_at log false b k) (line_at ls i))
restored_at log k s i b [] h e = absurd (omega arith)
restored_at log k s zero b (l ∷ ls) h e = let q : s ≡ b = omega arith in ap (λ (n : ℕ). restored_line (held_by (old_at log false n k) l)) q
restored_at log k s (suc i) b (l ∷ ls) h e = restored_at log k (s + 1) i b ls (omega arith) (omega arith)

-- the lines after the unwinding

line_then : (e : CacheData) (b : ℕ) → HasOnlyModified e.cache → line_of e.cache b ≡ restored_line (content_of (held_of e b))
line_then e b h =
    let l = line_of e.cache b in
    sym (h b) ∙ ap restored_line (sym (content_old (owned_content l l.state)))

lines_then : (c e : CacheData) (log : List LogEntry) (k : ℕ) → ((b : ℕ) → held_of e b ≡ content_unwound log false k (held_of (begun c)) b) →
    StaysAsItIs (begun c) e → e.cache.lines ≡ restored_lines log k 0 c.cache.lines
lines_then c e log k h s =
    let n : length e.cache.lines ≡ length c.cache.lines = s.blocks ∙ length-map c.cache.lines begun_line in
    ext_get_or no_line e.cache.lines (restored_lines log k 0 c.cache.lines) (n ∙ sym (length_restored log k 0 c.cache.lines))
    (λ b l.
    line_then e b (s.begun (begun_again c))
    ∙ ap (λ (o : Old). restored_line (content_of o)) (h b)
    ∙ ap restored_line (content_then c log k b)
    ∙ sym (restored_at log k 0 b b c.cache.lines (omega (arith, n)) (omega arith)))

same_parts : (c e : CacheData) (x : Cache) → e.node ≡ c.node → e.nodes ≡ c.nodes → e.sets ≡ c.sets → e.ways ≡ c.ways →
    e.cache.lines ≡ x.lines → e.cache.miss ≡ x.miss → e.cache.put ≡ x.put → e ≡ record c { cache = x }
same_parts c e x n m s w l i p =
    ap (λ (y : ℕ). record e { node = y }) n
    ∙ ap (λ (y : ℕ). record e { node = c.node; nodes = y }) m
    ∙ ap (λ (y : ℕ). record e { node = c.node; nodes = c.nodes; sets = y }) s
    ∙ ap (λ (y : ℕ). record e { node = c.node; nodes = c.nodes; sets = c.sets; ways = y }) w
    ∙ ap (λ (y : List Line). record c { cache = record e.cache { lines = y } }) l
    ∙ ap (λ (y : Option Miss). record c { cache = record e.cache { lines = x.lines; miss = y } }) i
    ∙ ap (λ (y : _). record c { cache = record x { put = y } }) p

-- what is left after the beginning and the unwinding is what the machine's recovery leaves
pub unwound-restored : (c d e : CacheData) (log : List LogEntry) (k : ℕ) → d ≡ begun c →
    ((b : ℕ) → held_of e b ≡ content_unwound log false k (held_of d) b) → StaysAsItIs d e → e ≡ record c { cache = restored_cache log k c.cache }
unwound-restored c d e log k q h s =
    let i : (b : ℕ) → held_of e b
    ≡ content_unwound log false k (held_of (begun c)) b = subst
    (λ (x : CacheData). (b : ℕ) → held_of e b ≡ content_unwound log false k (held_of x) b) q h in
    let t : StaysAsItIs (begun c) e = subst (λ (x : CacheData). StaysAsItIs x e) q s in
    same_parts c e (restored_cache log k c.cache) t.node t.nodes t.sets t.ways (lines_then c e log k i t) t.miss t.put

-- what is unwound fits where the cache that is left does

pub holding-restored : (o : Option (List ℕ)) (h : Old) → line_holding (restored_line o) h ≡ restored_line (content_of h)
holding-restored None NotOwned = refl
holding-restored None (Owned content) = refl
holding-restored None (WasHome content) = refl
holding-restored None (WasCache node) = refl
holding-restored (Some x) NotOwned = refl
holding-restored (Some x) (Owned content) = refl
holding-restored (Some x) (WasHome content) = refl
holding-restored (Some x) (WasCache node) = refl

line_wanted : (c : CacheData) (log : List LogEntry) (k b : ℕ) → b < block_count → length c.cache.lines ≡ block_count →
    line_at (lines_holding (map begun_line c.cache.lines) (content_unwound log false k (held_of (begun c)))) b
    ≡ line_at (restored_lines log k 0 c.cache.lines) b
line_wanted c log k b l n =
    let x = line_of c.cache b in
    let m = content_unwound log false k (held_of (begun c)) in
    holding-at (map begun_line c.cache.lines) m b l
    ∙ ap (λ (y : Line). line_holding y (m b)) (begun-at c.cache.lines b)
    ∙ holding-restored (owned_content x x.state) (m b)
    ∙ ap restored_line (content_then c log k b)
    ∙ sym (restored_at log k 0 b b c.cache.lines (omega (arith, n)) (omega arith))

pub fits-unwound : (c d : CacheData) (log : List LogEntry) (k : ℕ) → d ≡ begun c → length c.cache.lines ≡ block_count →
    FitsSets (restored_cache log k c.cache) c.sets c.ways → HeldFits d (content_unwound log false k (held_of d))
fits-unwound c d log k q n f =
    subst (λ (x : CacheData). HeldFits x (content_unwound log false k (held_of x))) (sym q)
    (fits-within (cache_holding (begun c).cache (content_unwound log false k (held_of (begun c)))) (restored_cache log k c.cache) c.sets c.ways
    (λ b l t. subst (λ (m : Line). (is_present m.state || false) ≡ true) (line_wanted c log k b l n) t) f)
