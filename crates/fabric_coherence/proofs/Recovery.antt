-- What a block sees of a recovery.
use Rattle.std.proofs.Common.{◌≡◌, ◌⊎◌, inl, inr, ◌∙◌, ℕ, zero, suc, ◌+◌, ◌%◌, ◌<◌, ◌≤◌, nat_lt, nat_le, Bool, true, false, ◌&&◌, cond}
use Rattle.std.proofs.Common.{List, [], ◌∷◌, map, length, replicate, refl, ap, sym, subst, arith, Option, Some, None, if◌then◌else◌, get_or}
use Rattle.std.specs.Prelude.{slice_index_or, ⊤}
use Rattle.std.specs.Option.{option_map}
use Rattle.std.proofs.lemmas.Bool.Decides.{nat_tests}
use Rattle.std.proofs.lemmas.List.{get_or_past, get_or-map, get_or-replicate, length-map, length-replicate}
use Rattle.sn_base.specs.declared.log.Old.TheVariants as old
use Rattle.log_buffer.specs.Log.{LogEntry, Old, is_of_side, is_about, earlier, entry_at, old_at, logged_to}
use Rattle.sn_model.specs.declared.cache.LineState.{LineState}
use Rattle.sn_model.specs.declared.cache.LineState.TheVariants as state
use Rattle.sn_model.specs.Caches.{Line, line_of, is_owned, no_line, empty_lines, block_count}
use Rattle.sn_model.specs.Homes.{Holder, HomeEntry, no_sharers}
use Rattle.sn_model.specs.Fabric.{Fabric, Node, node_at, home_of, first_node, no_entry}
use Rattle.sn_model.specs.PointEvents.{fabric_restored_to, restored_node, restored_line, restored_lines, restored_homes, log_of_home}
use Rattle.sn_model.specs.Cuts.{held_by, owned_content, named_by}
use Rattle.sn_coherence.specs.Block as block
use Rattle.sn_coherence.specs.OtherEvents.{recover}
use Rattle.sn_coherence.specs.Same.{IsSame}
use Rattle.sn_coherence.specs.Log.{was_owned, old_content, was_home, old_cache, old_or_now, told_at}
use Rattle.fabric_coherence.specs.View.{GhostState, block_seen, line_seen, content_held, miss_seen, put_seen, put_issued, is_itself, owner_of}
use Rattle.fabric_coherence.specs.View.{content_of, kind_open, requester_of, begun_of}
use Rattle.fabric_coherence.specs.Steps.{IsShaped}
use Rattle.fabric_coherence.specs.NodeSeen.{ghost_after_recovery}

-- an old content is of the side that is asked for

abbrev pub IsSided : Bool → Option LogEntry → Type 0
IsSided side None = ⊤
IsSided side (Some e) = is_of_side side e.old ≡ true

sided_earlier : (side : Bool) (e : LogEntry) (r : Option LogEntry) → is_of_side side e.old ≡ true → IsSided side r →
    is_of_side side (earlier e r).old ≡ true
sided_earlier side e None h g = h
sided_earlier side e (Some f) h g = choice (nat_le e.interval f.interval)
  where
    choice : (t : Bool) → is_of_side side (if t then e else f).old ≡ true
    choice true = h
    choice false = g

sided_step : (side : Bool) (b k : ℕ) (e : LogEntry) (r : Option LogEntry) (c : Bool) → (is_about side b e && nat_le k e.interval) ≡ c →
    IsSided side r → IsSided side (if c then Some (earlier e r) else r)
sided_step side b k e r true h g = sided_earlier side e r (grind arith) g
sided_step side b k e r false h g = g

pub entry_sided : (es : List LogEntry) (side : Bool) (b k : ℕ) → IsSided side (entry_at es side b k)
entry_sided [] side b k = tt
entry_sided (e ∷ es) side b k =
    sided_step side b k e (entry_at es side b k) (is_about side b e && nat_le k e.interval) refl (entry_sided es side b k)

-- a line that is restored

abbrev old_of : Option LogEntry → Option Old
old_of e = option_map (λ e. e.old) e

state_restored : (o : Old) (line : Line) → is_of_side false o ≡ true →
    line_seen (restored_line (held_by (Some o) line)).state ≡ cond (was_owned o) block.Modified block.NoLine
state_restored old.NotOwned line h = refl
state_restored (old.Owned content) line h = refl
state_restored (old.WasHome content) line h = refl
state_restored (old.WasCache node) line h = refl

state_kept : (s : LineState) (line : Line) →
    line_seen (restored_line (owned_content line s)).state ≡ cond (is_owned s) block.Modified block.NoLine
state_kept state.Absent line = refl
state_kept state.Shared line = refl
state_kept state.Owned line = refl
state_kept state.Modified line = refl
state_kept state.Exclusive line = refl

owned_restored : (o : Old) (line : Line) → is_owned (restored_line (held_by (Some o) line)).state ≡ was_owned o
owned_restored old.NotOwned line = refl
owned_restored (old.Owned content) line = refl
owned_restored (old.WasHome content) line = refl
owned_restored (old.WasCache node) line = refl

owned_kept : (s : LineState) (line : Line) → is_owned (restored_line (owned_content line s)).state ≡ is_owned s
owned_kept state.Absent line = refl
owned_kept state.Shared line = refl
owned_kept state.Owned line = refl
owned_kept state.Modified line = refl
owned_kept state.Exclusive line = refl

content_restored : (o : Old) (line : Line) → is_of_side false o ≡ true → (restored_line (held_by (Some o) line)).content ≡ old_content o
content_restored old.NotOwned line h = refl
content_restored (old.Owned content) line h = refl
content_restored (old.WasHome content) line h = absurd (cc)
content_restored (old.WasCache node) line h = refl

content_kept : (s : LineState) (line : Line) → (restored_line (owned_content line s)).content ≡ (if is_owned s then line.content else [])
content_kept state.Absent line = refl
content_kept state.Shared line = refl
content_kept state.Owned line = refl
content_kept state.Modified line = refl
content_kept state.Exclusive line = refl

pub state_told : (e : Option LogEntry) (line : Line) → IsSided false e →
    line_seen (restored_line (held_by (old_of e) line)).state
    ≡ cond (old_or_now was_owned (old_of e) (is_owned line.state)) block.Modified block.NoLine
state_told None line h = state_kept line.state line
state_told (Some e) line h = state_restored e.old line h

pub owned_told : (e : Option LogEntry) (line : Line) →
    is_owned (restored_line (held_by (old_of e) line)).state ≡ old_or_now was_owned (old_of e) (is_owned line.state)
owned_told None line = owned_kept line.state line
owned_told (Some e) line = owned_restored e.old line

pub content_told : (e : Option LogEntry) (line : Line) → IsSided false e →
    (restored_line (held_by (old_of e) line)).content ≡ old_or_now old_content (old_of e) (content_held line)
content_told None line h = content_kept line.state line
content_told (Some e) line h = content_restored e.old line h

-- the content of a restored line is held where it is owned
pub held_content : (c : Option (List ℕ)) → content_held (restored_line c) ≡ (restored_line c).content
held_content None = refl
held_content (Some content) = refl

-- a home that is restored

itself_restored : (o : Old) (holder : Holder) → is_of_side true o ≡ true → is_itself (named_by (Some o) holder) ≡ was_home o
itself_restored old.NotOwned holder h = absurd (cc)
itself_restored (old.Owned content) holder h = absurd (cc)
itself_restored (old.WasHome content) holder h = refl
itself_restored (old.WasCache node) holder h = refl

owner_restored : (o : Old) (holder : Holder) → is_of_side true o ≡ true → owner_of (named_by (Some o) holder) ≡ old_cache o
owner_restored old.NotOwned holder h = absurd (cc)
owner_restored (old.Owned content) holder h = absurd (cc)
owner_restored (old.WasHome content) holder h = refl
owner_restored (old.WasCache node) holder h = refl

kept_restored : (o : Old) (holder : Holder) → is_of_side true o ≡ true → content_of (named_by (Some o) holder) ≡ old_content o
kept_restored old.NotOwned holder h = absurd (cc)
kept_restored (old.Owned content) holder h = absurd (cc)
kept_restored (old.WasHome content) holder h = refl
kept_restored (old.WasCache node) holder h = refl

pub itself_told : (e : Option LogEntry) (holder : Holder) → IsSided true e →
    is_itself (named_by (old_of e) holder) ≡ old_or_now was_home (old_of e) (is_itself holder)
itself_told None holder h = refl
itself_told (Some e) holder h = itself_restored e.old holder h

pub owner_told : (e : Option LogEntry) (holder : Holder) → IsSided true e →
    owner_of (named_by (old_of e) holder) ≡ old_or_now old_cache (old_of e) (owner_of holder)
owner_told None holder h = refl
owner_told (Some e) holder h = owner_restored e.old holder h

pub kept_told : (e : Option LogEntry) (holder : Holder) → IsSided true e →
    content_of (named_by (old_of e) holder) ≡ old_or_now old_content (old_of e) (content_of holder)
kept_told None holder h = refl
kept_told (Some e) holder h = kept_restored e.old holder h

-- the lists that are restored, at each place

pub lines_at : (log : List LogEntry) (k start : ℕ) (lines : List Line) (i : ℕ) → i < length lines →
    slice_index_or (restored_lines log k start lines) i no_line
    ≡ restored_line (held_by (old_at log false (start + i) k) (slice_index_or lines i no_line))
lines_at log k start [] i l = absurd (omega arith)
lines_at log k start (line ∷ lines) zero l =
    let e : start ≡ start + zero = omega arith in ap (λ c. restored_line (held_by (old_at log false c k) line)) e
lines_at log k start (line ∷ lines) (suc i) l =
    let e : start + 1 + i ≡ start + suc i = omega arith in
    lines_at log k (start + 1) lines i (omega arith)
    ∙ ap (λ c. restored_line (held_by (old_at log false c k) (slice_index_or lines i no_line))) e

abbrev restored_entry : Fabric → ℕ → ℕ → HomeEntry → HomeEntry
restored_entry s k block entry =
    record { holder = named_by (old_at (log_of_home s block) true block k) entry.holder; sharers = no_sharers; transaction = None }

pub homes_at : (s : Fabric) (k start : ℕ) (homes : List HomeEntry) (i : ℕ) → i < length homes →
    slice_index_or (restored_homes s k start homes) i no_entry ≡ restored_entry s k (start + i) (slice_index_or homes i no_entry)
homes_at s k start [] i l = absurd (omega arith)
homes_at s k start (entry ∷ homes) zero l = let e : start ≡ start + zero = omega arith in ap (λ c. restored_entry s k c entry) e
homes_at s k start (entry ∷ homes) (suc i) l =
    let e : start + 1 + i ≡ start + suc i = omega arith in
    homes_at s k (start + 1) homes i (omega arith) ∙ ap (λ c. restored_entry s k c (slice_index_or homes i no_entry)) e

-- each node, one that is there and one that isn't

below_or : (m n : ℕ) → (m < n) ⊎ (n ≤ m)
below_or m n = by_test (nat_lt m n) refl
  where
    by_test : (t : Bool) → nat_lt m n ≡ t → (m < n) ⊎ (n ≤ m)
    by_test true e = inl (grind (arith, nat_tests))
    by_test false e = inr (grind (arith, nat_tests))

pub each_node : (P : ℕ → Node → Node → Type 0) (s : Fabric) →
    ((m : ℕ) → m < length s.nodes → P m (node_at s m) (restored_node s.point (node_at s m))) →
    ((m : ℕ) → length s.nodes ≤ m → P m first_node first_node) →
    (m : ℕ) → P m (node_at s m) (slice_index_or (map (restored_node s.point) s.nodes) m first_node)
each_node P s f g m = at (below_or m (length s.nodes))
  where
    at : (m < length s.nodes) ⊎ (length s.nodes ≤ m) → P m (node_at s m) (slice_index_or (map (restored_node s.point) s.nodes) m first_node)
    at (inl l) = subst (P m (node_at s m)) (sym (get_or-map (restored_node s.point) s.nodes m first_node first_node l)) (f m l)
    at (inr l) = subst (P m (node_at s m)) (sym (get_or_past (map (restored_node s.point) s.nodes) m first_node (rw length-map l)))
        (subst (λ x. P m x first_node) (sym (get_or_past s.nodes m first_node l)) (g m l))

-- a list of one value
pub replicated : {A : Type 0} (n i : ℕ) (x : A) → get_or (replicate n x) i x ≡ x
replicated n i x = at (below_or i n)
  where
    at : (i < n) ⊎ (n ≤ i) → get_or (replicate n x) i x ≡ x
    at (inl l) = get_or-replicate n i x x l
    at (inr l) = get_or_past (replicate n x) i x (rw length-replicate l)

pub no_line_at : (b : ℕ) → slice_index_or empty_lines b no_line ≡ no_line
unfolding empty_lines
no_line_at b = replicated block_count b no_line

-- the fields of a restored node and of a restored home

pub restored_line_at : (k b : ℕ) (node : Node) → b < length node.cache.lines →
    line_of (restored_node k node).cache b ≡ restored_line (held_by (old_at node.log false b k) (line_of node.cache b))
restored_line_at k b node l =
    let e : 0 + b ≡ b = omega arith in
    lines_at node.log k 0 node.cache.lines b l ∙ ap (λ c. restored_line (held_by (old_at node.log false c k) (line_of node.cache b))) e

pub restored_home_at : (s : Fabric) (k b : ℕ) → b < length s.homes →
    slice_index_or (restored_homes s k 0 s.homes) b no_entry ≡ restored_entry s k b (home_of s b)
restored_home_at s k b l = let e : 0 + b ≡ b = omega arith in homes_at s k 0 s.homes b l ∙ ap (λ c. restored_entry s k c (home_of s b)) e

module _ (s : Fabric) (t : GhostState) (b : ℕ) (shape : IsShaped s) (within : b < block_count) where
  abbrev new_node : ℕ → Node
  new_node m = slice_index_or (map (restored_node s.point) s.nodes) m first_node

  abbrev new_home : HomeEntry
  new_home = slice_index_or (restored_homes s s.point 0 s.homes) b no_entry

  lines_within : (m : ℕ) → m < length s.nodes → b < length (node_at s m).cache.lines
  lines_within m l = subst (λ k. b < k) (sym (shape.lines m l)) within

  new_line : (m : ℕ) → m < length s.nodes →
      line_of (restored_node s.point (node_at s m)).cache b
      ≡ restored_line (held_by (old_at (node_at s m).log false b s.point) (line_of (node_at s m).cache b))
  new_line m l = restored_line_at s.point b (node_at s m) (lines_within m l)

  line_is : (m : ℕ) → line_seen (line_of (new_node m).cache b).state ≡ cond ((block_seen s t b).holds m s.point) block.Modified block.NoLine
  line_is =
      each_node (λ m x y. line_seen (line_of y.cache b).state
      ≡ cond (told_at was_owned x.log false b (is_owned (line_of x.cache b).state) s.point) block.Modified block.NoLine) s
      (λ m l. ap (λ (x : Line). line_seen x.state) (new_line m l)
      ∙ state_told (entry_at (node_at s m).log false b s.point) (line_of (node_at s m).cache b)
      (entry_sided (node_at s m).log false b s.point))
      (λ m l. subst (λ (x : Line). line_seen x.state ≡ cond (is_owned x.state) block.Modified block.NoLine) (sym (no_line_at b)) refl)

  content_is : (m : ℕ) → (line_of (new_node m).cache b).content ≡ (block_seen s t b).held m s.point
  content_is =
      each_node (λ m x y. (line_of y.cache b).content ≡ told_at old_content x.log false b (content_held (line_of x.cache b)) s.point) s
      (λ m l. ap (λ (x : Line). x.content) (new_line m l)
      ∙ content_told (entry_at (node_at s m).log false b s.point) (line_of (node_at s m).cache b)
      (entry_sided (node_at s m).log false b s.point))
      (λ m l. subst (λ (x : Line). x.content ≡ content_held x) (sym (no_line_at b)) refl)

  holds_is : (j m : ℕ) → told_at was_owned (new_node m).log false b (is_owned (line_of (new_node m).cache b).state) j
      ≡ (block_seen s t b).holds m s.point
  holds_is j =
      each_node (λ m x y. told_at was_owned y.log false b (is_owned (line_of y.cache b).state) j
      ≡ told_at was_owned x.log false b (is_owned (line_of x.cache b).state) s.point) s
      (λ m l. ap (λ (x : Line). is_owned x.state) (new_line m l)
      ∙ owned_told (entry_at (node_at s m).log false b s.point) (line_of (node_at s m).cache b))
      (λ m l. refl)

  held_is : (j m : ℕ) → told_at old_content (new_node m).log false b (content_held (line_of (new_node m).cache b)) j
      ≡ (block_seen s t b).held m s.point
  held_is j =
      each_node (λ m x y. told_at old_content y.log false b (content_held (line_of y.cache b)) j
      ≡ told_at old_content x.log false b (content_held (line_of x.cache b)) s.point) s
      (λ m l. ap content_held (new_line m l)
      ∙ (held_content (held_by (old_at (node_at s m).log false b s.point) (line_of (node_at s m).cache b))
      ∙ content_told (entry_at (node_at s m).log false b s.point) (line_of (node_at s m).cache b)
      (entry_sided (node_at s m).log false b s.point)))
      (λ m l. refl)

  nothing_logged : (m : ℕ) → (new_node m).log ≡ []
  nothing_logged = each_node (λ m x y. y.log ≡ []) s (λ m l. refl) (λ m l. refl)

  home_is : new_home ≡ restored_entry s s.point b (home_of s b)
  home_is = restored_home_at s s.point b (subst (λ k. b < k) (sym shape.homes) within)

  at_home_is : is_itself new_home.holder ≡ (block_seen s t b).named_home s.point
  at_home_is =
      ap (λ (e : HomeEntry). is_itself e.holder) home_is
      ∙ itself_told (entry_at (log_of_home s b) true b s.point) (home_of s b).holder (entry_sided (log_of_home s b) true b s.point)

  owner_is : owner_of new_home.holder ≡ (block_seen s t b).named s.point
  owner_is =
      ap (λ (e : HomeEntry). owner_of e.holder) home_is
      ∙ owner_told (entry_at (log_of_home s b) true b s.point) (home_of s b).holder (entry_sided (log_of_home s b) true b s.point)

  home_content_is : content_of new_home.holder ≡ (block_seen s t b).home_held s.point
  home_content_is =
      ap (λ (e : HomeEntry). content_of e.holder) home_is
      ∙ kept_told (entry_at (log_of_home s b) true b s.point) (home_of s b).holder (entry_sided (log_of_home s b) true b s.point)

  abbrev place : ℕ
  place = b % length (map (restored_node s.point) s.nodes)

  -- a recovery is that of each block
  pub recovery-seen : IsSame (block_seen (fabric_restored_to s s.point) (ghost_after_recovery t) b) (recover (length s.nodes) (block_seen s t b))
  unfolding fabric_restored_to
  recovery-seen = record {
    point = refl;
    home = ap (λ k. b % k) (length-map s.nodes (restored_node s.point));
    now =
        each_node (λ m x y. y.now ≡ cond (nat_lt m (length s.nodes)) s.point x.now) s (λ m l. grind (arith, nat_tests))
        (λ m l. grind (arith, nat_tests));
    known =
        each_node (λ m x y. y.known ≡ cond (nat_lt m (length s.nodes)) s.point x.known) s (λ m l. grind (arith, nat_tests))
        (λ m l. grind (arith, nat_tests));
    line = line_is;
    content = content_is;
    miss = each_node (λ m x y. miss_seen b y.cache.miss ≡ block.no_miss) s (λ m l. refl) (λ m l. refl);
    putting = each_node (λ m x y. put_seen b y.cache.put ≡ block.NoPut) s (λ m l. refl) (λ m l. refl);
    put_issued = each_node (λ m x y. put_issued y.cache.put ≡ 0) s (λ m l. refl) (λ m l. refl);
    at_home = at_home_is;
    owner = owner_is;
    home_content = home_content_is;
    sharers = λ m. ap (λ (e : HomeEntry). slice_index_or e.sharers m false) home_is ∙ replicated 16 m false;
    kind = ap (λ (e : HomeEntry). kind_open e.transaction) home_is;
    requester = ap (λ (e : HomeEntry). requester_of e.transaction) home_is;
    begun = ap (λ (e : HomeEntry). begun_of e.transaction) home_is;
    net = λ i. refl;
    next = refl;
    holds = λ m j. holds_is j m;
    held = λ m j. held_is j m;
    last = λ m. ap (λ l. logged_to l false b) (nothing_logged m);
    named_home = λ j. ap (λ l. told_at was_home l true b (is_itself new_home.holder) j) (nothing_logged place) ∙ at_home_is;
    named = λ j. ap (λ l. told_at old_cache l true b (owner_of new_home.holder) j) (nothing_logged place) ∙ owner_is;
    home_held = λ j. ap (λ l. told_at old_content l true b (content_of new_home.holder) j) (nothing_logged place) ∙ home_content_is;
    home_last = ap (λ l. logged_to l true b) (nothing_logged place);
    stage = refl;
    at = refl;
    waited = λ m. refl;
    framed = λ m j. refl;
  }
