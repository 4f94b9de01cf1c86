-- The fabric after a row of a cache, as a block sees it.
use Rattle.std.proofs.Common.{◌≡◌, ◌≢◌, ◌∙◌, ℕ, ◌+◌, ◌%◌, ◌<◌, ◌≤◌, Bool, true, false, not, ◌&&◌, ◌||◌, cond, List, [], ◌∷◌, length, refl}
use Rattle.std.proofs.Common.{ap, inl, inr, arith, ◌==◌, length-set}
use Rattle.std.proofs.lemmas.Bool.Decides.{nat_tests}
use Rattle.std.specs.Prelude.{slice_index_or, slice_set, nat_eq, if◌then◌else◌}
use Rattle.sn_msg.specs.declared.Message.{Message}
use Rattle.sn_base.specs.declared.log.Old.TheVariants.{NotOwned, Owned}
use Rattle.route_plan.specs.Distances.{Switches}
use Rattle.log_buffer.specs.Log.{LogEntry, logged_to, log_with_note}
use Rattle.sn_model.specs.declared.cache.Out.{Out}
use Rattle.sn_model.specs.Caches.{Line, line_of, is_owned}
use Rattle.sn_model.specs.CacheRows.{CacheReply}
use Rattle.sn_model.specs.Fabric.{Fabric, Node, Net, Flight, node_at, home_of, first_node}
use Rattle.sn_model.specs.Net.{net_after_sends, is_lost, message_of, without_flight}
use Rattle.sn_model.specs.NetEvents.{node_after}
use Rattle.sn_coherence.specs.Block.{Block, Message as Seen, no_message, set, set_row}
use Rattle.sn_coherence.specs.Same.{IsSame}
use Rattle.sn_coherence.specs.Log.{was_owned, old_content, was_home, old_cache, told_at}
use Rattle.sn_coherence.proofs.Log.{note_law}
use Rattle.fabric_coherence.specs.View.{GhostState, block_seen, line_seen, content_held, miss_seen, put_seen, put_issued, net_seen, is_for_all}
use Rattle.fabric_coherence.specs.View.{message_seen, is_itself, owner_of, content_of}
use Rattle.fabric_coherence.specs.Steps.{after_cache, ghost_with, losing, Below}
use Rattle.fabric_coherence.specs.CacheSeen.{cache_seen, KeepsHomeSide, KeepsCacheSide, with_row, IsRow}
use Rattle.fabric_coherence.proofs.Base.{read_set, seen-answered}

-- blocks

pub same_self : (a : Block) → IsSame a a
same_self a = record {
  point = refl;
  home = refl;
  now = λ n. refl;
  known = λ n. refl;
  line = λ n. refl;
  content = λ n. refl;
  miss = λ n. refl;
  putting = λ n. refl;
  put_issued = λ n. refl;
  at_home = refl;
  owner = refl;
  home_content = refl;
  sharers = λ n. refl;
  kind = refl;
  requester = refl;
  begun = refl;
  net = λ i. refl;
  next = refl;
  holds = λ n j. refl;
  held = λ n j. refl;
  last = λ n. refl;
  named_home = λ j. refl;
  named = λ j. refl;
  home_held = λ j. refl;
  home_last = refl;
  stage = refl;
  at = refl;
  waited = λ n. refl;
  framed = λ n j. refl;
}

pub same_then : (a b c : Block) → IsSame a b → IsSame b c → IsSame a c
same_then a b c f g = record {
  point = f.point ∙ g.point;
  home = f.home ∙ g.home;
  now = λ n. f.now n ∙ g.now n;
  known = λ n. f.known n ∙ g.known n;
  line = λ n. f.line n ∙ g.line n;
  content = λ n. f.content n ∙ g.content n;
  miss = λ n. f.miss n ∙ g.miss n;
  putting = λ n. f.putting n ∙ g.putting n;
  put_issued = λ n. f.put_issued n ∙ g.put_issued n;
  at_home = f.at_home ∙ g.at_home;
  owner = f.owner ∙ g.owner;
  home_content = f.home_content ∙ g.home_content;
  sharers = λ n. f.sharers n ∙ g.sharers n;
  kind = f.kind ∙ g.kind;
  requester = f.requester ∙ g.requester;
  begun = f.begun ∙ g.begun;
  net = λ i. f.net i ∙ g.net i;
  next = f.next ∙ g.next;
  holds = λ n j. f.holds n j ∙ g.holds n j;
  held = λ n j. f.held n j ∙ g.held n j;
  last = λ n. f.last n ∙ g.last n;
  named_home = λ j. f.named_home j ∙ g.named_home j;
  named = λ j. f.named j ∙ g.named j;
  home_held = λ j. f.home_held j ∙ g.home_held j;
  home_last = f.home_last ∙ g.home_last;
  stage = f.stage ∙ g.stage;
  at = f.at ∙ g.at;
  waited = λ n. f.waited n ∙ g.waited n;
  framed = λ n j. f.framed n j ∙ g.framed n j;
}

-- a change to what was there
pub set_kept : {A : Type 0} (f : ℕ → A) (k : ℕ) (v : A) (n : ℕ) → v ≡ f k → set f k v n ≡ f n
set_kept f k v n e = grind (arith, nat_tests)

pub set_here : {A : Type 0} (f : ℕ → A) (k : ℕ) (v : A) → set f k v k ≡ v
set_here f k v = grind (arith, nat_tests)

pub set_there : {A : Type 0} (f : ℕ → A) (k : ℕ) (v : A) (n : ℕ) → n ≢ k → set f k v n ≡ f n
set_there f k v n d = grind (arith, nat_tests)

-- a choice, read
pub chosen : {A B : Type 0} (f : A → B) (c : Bool) (x y : A) → f (cond c x y) ≡ cond c (f x) (f y)
chosen f true x y = refl
chosen f false x y = refl

-- a node after a row
module _ (s : Fabric) (t : GhostState) (m : Message) (reply : CacheReply) (o : ℕ) (line : Line) (to : m.to < length s.nodes) where
  abbrev after : Node
  after = node_after (node_at s m.to) reply

  abbrev nodes_after : List Node
  nodes_after = slice_set s.nodes m.to after

  through : {A : Type 0} (f : Node → A) (n : ℕ) → f (slice_index_or nodes_after n first_node) ≡ set (λ k. f (node_at s k)) m.to (f after) n
  through f n = ap f (read_set s.nodes m.to n after first_node to) ∙ chosen f (n == m.to) after (node_at s n)

  kept : {A : Type 0} (f : Node → A) (n : ℕ) → f after ≡ f (node_at s m.to) → f (slice_index_or nodes_after n first_node) ≡ f (node_at s n)
  kept f n e = through f n ∙ set_kept (λ k. f (node_at s k)) m.to (f after) n e

  as_many : length nodes_after ≡ length s.nodes
  as_many = length-set s.nodes m.to after

  kept_at_home : {A : Type 0} (f : Node → A) → f after ≡ f (node_at s m.to) →
      f (slice_index_or nodes_after (o % length nodes_after) first_node) ≡ f (node_at s (o % length s.nodes))
  kept_at_home f e = ap (λ k. f (slice_index_or nodes_after (o % k) first_node)) as_many ∙ kept f (o % length s.nodes) e

  pub row_seen : line_of reply.after.cache o ≡ line → KeepsHomeSide (node_at s m.to).log reply.after.log o →
      IsSame (block_seen (after_cache s m reply).fabric t o) (cache_seen s t m reply line o)
  row_seen e k = record {
    point = refl;
    home = ap (λ n. o % n) as_many;
    now = λ n. kept (λ x. x.now) n refl;
    known = λ n. kept (λ x. x.known) n refl;
    line = λ n. through (λ x. line_seen (line_of x.cache o).state) n ∙ ap (λ l. set (block_seen s t o).line m.to (line_seen l.state) n) e;
    content = λ n. through (λ x. (line_of x.cache o).content) n ∙ ap (λ l. set (block_seen s t o).content m.to l.content n) e;
    miss = through (λ x. miss_seen o x.cache.miss);
    putting = through (λ x. put_seen o x.cache.put);
    put_issued = through (λ x. put_issued x.cache.put);
    at_home = refl;
    owner = refl;
    home_content = refl;
    sharers = λ n. refl;
    kind = refl;
    requester = refl;
    begun = refl;
    net = λ i. refl;
    next = refl;
    holds =
        λ n j. through (λ x. told_at was_owned x.log false o (is_owned (line_of x.cache o).state) j) n
        ∙ ap (λ l. set_row (block_seen s t o).holds m.to (told_at was_owned reply.after.log false o (is_owned l.state)) n j) e;
    held =
        λ n j. through (λ x. told_at old_content x.log false o (content_held (line_of x.cache o)) j) n
        ∙ ap (λ l. set_row (block_seen s t o).held m.to (told_at old_content reply.after.log false o (content_held l)) n j) e;
    last = through (λ x. logged_to x.log false o);
    named_home =
        λ j. kept_at_home (λ x. told_at was_home x.log true o (is_itself (home_of s o).holder) j)
        (k.home (is_itself (home_of s o).holder) j);
    named =
        λ j. kept_at_home (λ x. told_at old_cache x.log true o (owner_of (home_of s o).holder) j)
        (k.cache (owner_of (home_of s o).holder) j);
    home_held =
        λ j. kept_at_home (λ x. told_at old_content x.log true o (content_of (home_of s o).holder) j)
        (k.content (content_of (home_of s o).holder) j);
    home_last = kept_at_home (λ x. logged_to x.log true o) k.newest;
    stage = refl;
    at = refl;
    waited = λ n. refl;
    framed = λ n j. refl;
  }

  -- a row that is seen like this is the row of its own block
  pub own_row : (row : Block) → line_of reply.after.cache o ≡ line → KeepsHomeSide (node_at s m.to).log reply.after.log o →
      IsRow (cache_seen s t m reply line o) row →
      IsSame (block_seen (after_cache s m reply).fabric (ghost_with t o row) o) (with_row (block_seen s t o) row)
  own_row row e k h = record {
    point = r.point;
    home = r.home;
    now = r.now;
    known = r.known;
    line = λ n. r.line n ∙ h.line n;
    content = λ n. r.content n ∙ h.content n;
    miss = λ n. r.miss n ∙ h.miss n;
    putting = λ n. r.putting n ∙ h.putting n;
    put_issued = λ n. r.put_issued n ∙ h.put_issued n;
    at_home = refl;
    owner = refl;
    home_content = refl;
    sharers = λ n. refl;
    kind = refl;
    requester = refl;
    begun = refl;
    net = h.net;
    next = h.next;
    holds = λ n j. r.holds n j ∙ h.holds n j;
    held = λ n j. r.held n j ∙ h.held n j;
    last = λ n. r.last n ∙ h.last n;
    named_home = r.named_home;
    named = r.named;
    home_held = r.home_held;
    home_last = r.home_last;
    stage = set_here t.stage o row.stage;
    at = set_here t.at o row.at;
    waited = λ n. set_here (λ k. t.waited k n) o (row.waited n);
    framed = λ n j. refl;
  }
    where
      r : IsSame (block_seen (after_cache s m reply).fabric t o) (cache_seen s t m reply line o)
      r = row_seen e k

  -- the interval under which the row sends
  pub sent_under : (slice_index_or nodes_after m.to first_node).now ≡ (node_at s m.to).now
  sent_under = kept (λ x. x.now) m.to refl

-- logs

pub home_side_same : (log : List LogEntry) (o : ℕ) → KeepsHomeSide log log o
home_side_same log o = record { home = λ was j. refl; cache = λ was j. refl; content = λ was j. refl; newest = refl }

true_not_false : true ≢ false
true_not_false e = grind arith

pub home_side_noted_owned : (log : List LogEntry) (i b : ℕ) (old : List ℕ) (o : ℕ) → logged_to log false b ≤ i + 1 →
    KeepsHomeSide log (log_with_note log i b (Owned old)) o
home_side_noted_owned log i b old o l = record {
  home = λ was j. (note_law Bool was_home log i b (Owned old) false false l refl).others true o j was (inl true_not_false);
  cache = λ was j. (note_law ℕ old_cache log i b (Owned old) 0 0 l refl).others true o j was (inl true_not_false);
  content = λ was j. (note_law (List ℕ) old_content log i b (Owned old) old old l refl).others true o j was (inl true_not_false);
  newest = (note_law ℕ old_cache log i b (Owned old) 0 0 l refl).others_newest true o (inl true_not_false);
}

pub home_side_noted_not : (log : List LogEntry) (i b o : ℕ) → logged_to log false b ≤ i + 1 → KeepsHomeSide log (log_with_note log i b NotOwned) o
home_side_noted_not log i b o l = record {
  home = λ was j. (note_law Bool was_home log i b NotOwned false false l refl).others true o j was (inl true_not_false);
  cache = λ was j. (note_law ℕ old_cache log i b NotOwned 0 0 l refl).others true o j was (inl true_not_false);
  content = λ was j. (note_law (List ℕ) old_content log i b NotOwned [] [] l refl).others true o j was (inl true_not_false);
  newest = (note_law ℕ old_cache log i b NotOwned 0 0 l refl).others_newest true o (inl true_not_false);
}

pub cache_side_same : (log : List LogEntry) (o : ℕ) → KeepsCacheSide log log o
cache_side_same log o = record { owned = λ was j. refl; content = λ was j. refl; newest = refl }

-- a note of a block is none of another
pub cache_side_noted_owned : (log : List LogEntry) (i b : ℕ) (old : List ℕ) (o : ℕ) → logged_to log false b ≤ i + 1 → o ≢ b →
    KeepsCacheSide log (log_with_note log i b (Owned old)) o
cache_side_noted_owned log i b old o l d = record {
  owned = λ was j. (note_law Bool was_owned log i b (Owned old) true true l refl).others false o j was (inr d);
  content = λ was j. (note_law (List ℕ) old_content log i b (Owned old) old old l refl).others false o j was (inr d);
  newest = (note_law Bool was_owned log i b (Owned old) true true l refl).others_newest false o (inr d);
}

pub cache_side_noted_not : (log : List LogEntry) (i b o : ℕ) → logged_to log false b ≤ i + 1 → o ≢ b →
    KeepsCacheSide log (log_with_note log i b NotOwned) o
cache_side_noted_not log i b o l d = record {
  owned = λ was j. (note_law Bool was_owned log i b NotOwned false false l refl).others false o j was (inr d);
  content = λ was j. (note_law (List ℕ) old_content log i b NotOwned [] [] l refl).others false o j was (inr d);
  newest = (note_law Bool was_owned log i b NotOwned false false l refl).others_newest false o (inr d);
}

-- messages

fresh_step : (f : Flight) (fs : List Flight) (b n : ℕ) → f.message.id < n → net_seen b fs n ≡ no_message → net_seen b (f ∷ fs) n ≡ no_message
fresh_step f fs b n l h = grind (arith, nat_tests)

pub seen-fresh : (fs : List Flight) (b n : ℕ) → Below fs n → net_seen b fs n ≡ no_message
seen-fresh [] b n l = refl
seen-fresh (f ∷ fs) b n l = fresh_step f fs b n l.0 (seen-fresh fs b n l.1)

-- a block loses the one message that a row sent, or it doesn't
pub losing_one : (a block : Block) (lost : Bool) (id : ℕ) →
    IsSame a (record block { net = λ i. cond (lost && (i == id)) no_message (block.net i) }) →
    IsSame a (losing block (if lost then id ∷ [] else []))
losing_one a block true id h = h
losing_one a block false id h = h

answered : (lost : Bool) (i id next : ℕ) (m : Seen) (net : ℕ → Seen) → net next ≡ no_message →
    cond ((i == next) && (true && not lost)) m (cond (i == id) no_message (net i))
    ≡ cond (lost && (i == next)) no_message (set (set net id no_message) next m i)
answered lost i id next m net e = grind (arith, nat_tests)

pub eq_self : (b : ℕ) → nat_eq b b ≡ true
eq_self b = grind (arith, nat_tests)

seen_own : (c : Bool) (b : ℕ) → (c || nat_eq b b) ≡ true
seen_own true b = refl
seen_own false b = eq_self b

-- a message of the block is taken, and one is sent, unless it is lost at once
pub answered_here : (routes : Switches) (net : Net) (id from tag block : ℕ) (out : Out) (i : ℕ) → Below net.flights net.next_id →
    net_seen block (net_after_sends routes (without_flight net id) from tag block (out ∷ [])).flights i
    ≡ cond (is_lost routes net (message_of net from tag block out) && (i == net.next_id)) no_message
    (set (set (net_seen block net.flights) id no_message) net.next_id (message_seen (message_of net from tag block out) out.body) i)
answered_here routes net id from tag block out i l =
    seen-answered routes net id from tag block out block i l
    ∙ (λ p. cond ((i == net.next_id)
    && (seen_own (is_for_all out.body) block p && not (is_lost routes net (message_of net from tag block out))))
    (message_seen (message_of net from tag block out) out.body) (cond (i == id) no_message (net_seen block net.flights i)))
    ∙ answered (is_lost routes net (message_of net from tag block out)) i id net.next_id
    (message_seen (message_of net from tag block out) out.body) (net_seen block net.flights) (seen-fresh net.flights block net.next_id l)

pub eq_other : (b o : ℕ) → o ≢ b → nat_eq b o ≡ false
eq_other b o d = grind (arith, nat_tests)

unseen : (c : Bool) (b o : ℕ) → c ≡ false → o ≢ b → (c || nat_eq b o) ≡ false
unseen c b o e d = grind (arith, nat_tests)

never : (c : Bool) (m n : Seen) (d : Bool) → cond (c && (false && d)) m n ≡ n
never true m n d = refl
never false m n d = refl

-- another block sees only that the message is no longer there
pub answered_elsewhere : (routes : Switches) (net : Net) (id from tag block : ℕ) (out : Out) (o i : ℕ) → Below net.flights net.next_id →
    is_for_all out.body ≡ false → o ≢ block →
    net_seen o (net_after_sends routes (without_flight net id) from tag block (out ∷ [])).flights i ≡ set (net_seen o net.flights) id no_message i
answered_elsewhere routes net id from tag block out o i l e d =
    seen-answered routes net id from tag block out o i l
    ∙ (λ p. cond ((i == net.next_id)
    && (unseen (is_for_all out.body) block o e d p && not (is_lost routes net (message_of net from tag block out))))
    (message_seen (message_of net from tag block out) out.body) (cond (i == id) no_message (net_seen o net.flights i)))
    ∙ never (i == net.next_id) (message_seen (message_of net from tag block out) out.body) (cond (i == id) no_message (net_seen o net.flights i))
    (not (is_lost routes net (message_of net from tag block out)))
