-- What a block sees of the fabric after a row of a home, field by field: its own block, and another.
use Rattle.std.proofs.Common.{◌≡◌, ◌≢◌, ◌∙◌, ℕ, ◌+◌, ◌<◌, ◌≤◌, Bool, true, false, not, ◌&&◌, ◌||◌, cond, List, [], ◌∷◌, ◌++◌, length, refl}
use Rattle.std.proofs.Common.{sym, subst, arith, ◌==◌, length-set, if◌then◌else◌, nat_eq}
use Rattle.std.proofs.lemmas.Bool.Decides.{nat_tests}
use Rattle.std.specs.Prelude.{slice_index_or, ◌%◌}
use Rattle.route_plan.specs.Distances.{Switches}
use Rattle.log_buffer.specs.Log.{LogEntry, logged_to}
use Rattle.sn_msg.specs.declared.Message.{Message}
use Rattle.sn_model.specs.declared.cache.Out.{Out}
use Rattle.sn_model.specs.Caches.{block_count, line_of, is_owned}
use Rattle.sn_model.specs.HomeRows.{HomeReply}
use Rattle.sn_model.specs.Fabric.{Fabric, Net, Flight, node_at, first_node, home_of, home_node, no_entry, with_net}
use Rattle.sn_model.specs.Net.{net_after_send, net_after_sends, sent_by, is_lost, message_of, entry_of, without_flight, routes_of}
use Rattle.sn_model.specs.NetEvents.{home_after}
use Rattle.sn_coherence.specs.Block as block
use Rattle.sn_coherence.specs.Same.{IsSame}
use Rattle.sn_coherence.specs.Log.{told_at, was_owned, old_content, was_home, old_cache}
use Rattle.sn_coherence.specs.OtherEvents.{lose}
use Rattle.fabric_coherence.specs.View.{GhostState, block_seen, home_log, net_seen, is_seen, is_for_all, message_seen, line_seen, content_held}
use Rattle.fabric_coherence.specs.View.{miss_seen, put_seen, put_issued, is_itself, owner_of, content_of, kind_open, requester_of, begun_of}
use Rattle.fabric_coherence.specs.Steps.{after_home, ghost_with, losing, lost_at_once, elsewhere, IsShaped, Below}
use Rattle.fabric_coherence.specs.HomeSeen.{net_losing, with_home_side, IsSameCaches, IsSameHome, LeavesHome}
use Rattle.fabric_coherence.specs.Sends.{NoneForAll}
use Rattle.fabric_coherence.proofs.Base.{read_set, seen-without, seen-answered}

-- the block after losses is the block with what they leave of the net
pub losing_is : (b : block.Block) (ids : List ℕ) → losing b ids ≡ record b { net = net_losing b.net ids }
losing_is b [] = refl
losing_is b (id ∷ ids) = losing_is (lose b id) ids

pub same_losing : (a b : block.Block) (ids : List ℕ) → IsSame a (record b { net = net_losing b.net ids }) → IsSame a (losing b ids)
same_losing a b ids h = subst (λ x. IsSame a x) (sym (losing_is b ids)) h

-- a node after a row of a home is the node with another log, where it is the row's
noted_node : (s : Fabric) (k n : ℕ) (log : List LogEntry) →
    cond (n == k) (record (node_at s k) { log = log }) (node_at s n) ≡ record (node_at s n) { log = cond (n == k) log (node_at s n).log }
noted_node s k n log = grind (arith, nat_tests)

-- the chosen log says what the one does that it replaces
caches_chosen : (c : Bool) (new was old : List LogEntry) (o : ℕ) → (c ≡ true → old ≡ was) → IsSameCaches new was o →
    IsSameCaches (cond c new old) old o
caches_chosen true new was old o h same = subst (λ x. IsSameCaches new x o) (sym (h refl)) same
caches_chosen false new was old o h same = record { holds = λ x j. refl; held = λ x j. refl; last = refl }

home_chosen : (c : Bool) (new was old : List LogEntry) (o : ℕ) → (c ≡ true → old ≡ was) → IsSameHome new was o →
    IsSameHome (cond c new old) old o
home_chosen true new was old o h same = subst (λ x. IsSameHome new x o) (sym (h refl)) same
home_chosen false new was old o h same = record { named_home = λ x j. refl; named = λ x j. refl; home_held = λ x j. refl; home_last = refl }

-- a block doesn't see what is sent of another
push_unseen : (fs : List Flight) (f : Flight) (o i : ℕ) → is_seen o f.message ≡ false → net_seen o (fs ++ f ∷ []) i ≡ net_seen o fs i
push_unseen [] f o i h = grind (arith, nat_tests)
push_unseen (g ∷ fs) f o i h =
    λ p. if nat_eq g.message.id i && is_seen o g.message then message_seen g.message g.message.body else push_unseen fs f o i h p

post_unseen : (c : Bool) (fs : List Flight) (f : Flight) (o i : ℕ) → is_seen o f.message ≡ false →
    net_seen o (if c then fs else fs ++ f ∷ []) i ≡ net_seen o fs i
post_unseen true fs f o i h = refl
post_unseen false fs f o i h = push_unseen fs f o i h

unseen : (x : Bool) (b o : ℕ) → o ≢ b → x ≡ false → (x || nat_eq b o) ≡ false
unseen x b o n h = grind (arith, nat_tests)

pub posted-elsewhere : (outs : List Out) (routes : Switches) (net : Net) (from tag b o i : ℕ) → o ≢ b → NoneForAll outs →
    net_seen o (net_after_sends routes net from tag b outs).flights i ≡ net_seen o net.flights i
posted-elsewhere [] routes net from tag b o i n h = refl
posted-elsewhere (out ∷ outs) routes net from tag b o i n h =
    posted-elsewhere outs routes (net_after_send routes net (message_of net from tag b out)) from tag b o i n h.1
    ∙ post_unseen (is_lost routes net (message_of net from tag b out)) net.flights
    (record { message = message_of net from tag b out; place = entry_of routes (message_of net from tag b out) }) o i
    (unseen (is_for_all out.body) b o n h.0)

pub posted-next : (outs : List Out) (routes : Switches) (net : Net) (from tag b : ℕ) →
    (net_after_sends routes net from tag b outs).next_id ≡ net.next_id + length outs
posted-next [] routes net from tag b = omega arith
posted-next (out ∷ outs) routes net from tag b =
    posted-next outs routes (net_after_send routes net (message_of net from tag b out)) from tag b ∙ omega arith

-- no number from the next one on is seen
fresh_step : (f : Flight) (fs : List Flight) (n b i : ℕ) → f.message.id < n → n ≤ i → net_seen b fs i ≡ block.no_message →
    net_seen b (f ∷ fs) i ≡ block.no_message
fresh_step f fs n b i l m h = grind (arith, nat_tests)

pub fresh : (fs : List Flight) (n b i : ℕ) → Below fs n → n ≤ i → net_seen b fs i ≡ block.no_message
fresh [] n b i l m = refl
fresh (f ∷ fs) n b i l m = fresh_step f fs n b i l.0 m (fresh fs n b i l.1 m)

-- a message is taken, and one is sent, which may be lost at once
one_step : (c seen : Bool) (f : ℕ → block.Message) (n i : ℕ) (x y : block.Message) → f n ≡ block.no_message → seen ≡ true → x ≡ y →
    cond ((i == n) && (seen && not c)) x (f i) ≡ net_losing (block.set f n y) (if c then n ∷ [] else []) i
one_step true seen f n i x y g h e = grind (arith, nat_tests)
one_step false seen f n i x y g h e = grind (arith, nat_tests)

pub one-sent : (routes : Switches) (net : Net) (id from tag b : ℕ) (out : Out) (i : ℕ) (y : block.Message) → Below net.flights net.next_id →
    message_seen (message_of net from tag b out) out.body ≡ y →
    net_seen b (net_after_sends routes (without_flight net id) from tag b (out ∷ [])).flights i
    ≡ net_losing (block.set (block.set (net_seen b net.flights) id block.no_message) net.next_id y)
    (lost_at_once (sent_by routes (without_flight net id) from tag b (out ∷ []))) i
one-sent routes net id from tag b out i y l e =
    seen-answered routes net id from tag b out b i l
    ∙ one_step (is_lost routes net (message_of net from tag b out)) (is_for_all out.body || nat_eq b b)
    (λ j. cond (j == id) block.no_message (net_seen b net.flights j)) net.next_id i (message_seen (message_of net from tag b out) out.body) y
    (grind (arith, nat_tests, fresh net.flights net.next_id b net.next_id l)) (grind (arith, nat_tests)) e

-- a message is taken, and none is sent
pub none-sent : (routes : Switches) (net : Net) (id from tag b i : ℕ) →
    net_seen b (net_after_sends routes (without_flight net id) from tag b []).flights i
    ≡ net_losing (block.set (net_seen b net.flights) id block.no_message) (lost_at_once (sent_by routes (without_flight net id) from tag b [])) i
none-sent routes net id from tag b i = seen-without net.flights id b i

-- what the proof alone knows, at the row's block and at another
set_here : {A : Type 0} (f : ℕ → A) (k : ℕ) (v : A) → block.set f k v k ≡ v
set_here f k v = grind (arith, nat_tests)

set_there : {A : Type 0} (f : ℕ → A) (k o : ℕ) (v : A) → o ≢ k → block.set f k v o ≡ f o
set_there f k o v n = grind (arith, nat_tests)

set_row_here : {A : Type 0} (f : ℕ → ℕ → A) (k : ℕ) (v : ℕ → A) (n : ℕ) → block.set_row f k v k n ≡ v n
set_row_here f k v n = grind (arith, nat_tests)

set_row_there : {A : Type 0} (f : ℕ → ℕ → A) (k o : ℕ) (v : ℕ → A) (n : ℕ) → o ≢ k → block.set_row f k v o n ≡ f o n
set_row_there f k o v n h = grind (arith, nat_tests)

module _ (s : Fabric) (m : Message) (reply : HomeReply) (shape : IsShaped s) (to : m.to < length s.nodes) (low : m.block < block_count) where
  pub node_seen : (n : ℕ) →
      node_at (after_home s m reply).fabric n ≡ record (node_at s n) { log = cond (n == m.to) reply.after.log (node_at s n).log }
  node_seen n =
      read_set s.nodes m.to n (record (node_at s m.to) { log = reply.after.log }) first_node to ∙ noted_node s m.to n reply.after.log

  pub entry_seen : (b : ℕ) → home_of (after_home s m reply).fabric b ≡ cond (b == m.block) reply.after.entry (home_of s b)
  entry_seen b = read_set s.homes m.block b reply.after.entry no_entry (subst (λ x. m.block < x) (sym shape.homes) low)

  pub home_seen : (b : ℕ) → home_node (after_home s m reply).fabric b ≡ home_node s b
  home_seen b = λ p. b % (length-set s.nodes m.to (record (node_at s m.to) { log = reply.after.log }) p)

  -- the home's log
  pub home_log_seen : (b : ℕ) → home_log (after_home s m reply).fabric b ≡ cond (home_node s b == m.to) reply.after.log (home_log s b)
  home_log_seen b = (λ p. (node_at (after_home s m reply).fabric (home_seen b p)).log) ∙ (λ p. (node_seen (home_node s b) p).log)

  now_seen : (n : ℕ) → (node_at (after_home s m reply).fabric n).now ≡ (node_at s n).now
  now_seen n = λ p. (node_seen n p).now

  -- its own block
  module _ (t : GhostState) (e : block.Block) (home : m.to ≡ home_node s m.block) (caches : IsSameCaches reply.after.log (node_at s m.to).log m.block) (leaves : LeavesHome s m reply e) where
    entry_own : home_of (after_home s m reply).fabric m.block ≡ reply.after.entry
    entry_own = entry_seen m.block ∙ grind (arith, nat_tests)

    log_own : home_log (after_home s m reply).fabric m.block ≡ reply.after.log
    log_own = home_log_seen m.block ∙ grind (arith, nat_tests, home)

    net_own : (i : ℕ) → net_seen m.block (after_home s m reply).fabric.net.flights i
        ≡ net_losing e.net (lost_at_once (after_home s m reply).sent) i
    net_own i =
        subst (λ x. net_seen m.block
        (net_after_sends (routes_of (with_net (home_after s m.to m.block reply) (without_flight s.net m.id)))
        (without_flight s.net m.id) m.to x m.block reply.sends).flights i
        ≡ net_losing e.net (lost_at_once
        (sent_by (routes_of (with_net (home_after s m.to m.block reply) (without_flight s.net m.id)))
        (without_flight s.net m.id) m.to x m.block reply.sends)) i)
        (sym (now_seen m.to)) (leaves.net (routes_of (with_net (home_after s m.to m.block reply) (without_flight s.net m.id))) i)

    next_own : (after_home s m reply).fabric.net.next_id ≡ e.next
    next_own =
        subst (λ x. (net_after_sends (routes_of (with_net (home_after s m.to m.block reply) (without_flight s.net m.id)))
        (without_flight s.net m.id) m.to x m.block reply.sends).next_id ≡ e.next)
        (sym (now_seen m.to)) (leaves.next (routes_of (with_net (home_after s m.to m.block reply) (without_flight s.net m.id))))

    caches_own : (n : ℕ) → IsSameCaches (node_at (after_home s m reply).fabric n).log (node_at s n).log m.block
    caches_own n = subst (λ x. IsSameCaches x.log (node_at s n).log m.block) (sym (node_seen n))
        (caches_chosen (n == m.to) reply.after.log (node_at s m.to).log (node_at s n).log m.block (λ h. grind (arith, nat_tests)) caches)

    pub own_kept : IsSame (block_seen (after_home s m reply).fabric (ghost_with t m.block e) m.block)
        (record (with_home_side (block_seen s t m.block) e) { net = net_losing e.net (lost_at_once (after_home s m reply).sent) })
    own_kept = record {
      point = refl;
      home = home_seen m.block;
      now = now_seen;
      known = λ n p. (node_seen n p).known;
      line = λ n p. line_seen (line_of (node_seen n p).cache m.block).state;
      content = λ n p. (line_of (node_seen n p).cache m.block).content;
      miss = λ n p. miss_seen m.block (node_seen n p).cache.miss;
      putting = λ n p. put_seen m.block (node_seen n p).cache.put;
      put_issued = λ n p. put_issued (node_seen n p).cache.put;
      at_home = (λ p. is_itself (entry_own p).holder) ∙ leaves.at_home;
      owner = (λ p. owner_of (entry_own p).holder) ∙ leaves.owner;
      home_content = (λ p. content_of (entry_own p).holder) ∙ leaves.home_content;
      sharers = λ n. (λ p. slice_index_or (entry_own p).sharers n false) ∙ leaves.sharers n;
      kind = (λ p. kind_open (entry_own p).transaction) ∙ leaves.kind;
      requester = (λ p. requester_of (entry_own p).transaction) ∙ leaves.requester;
      begun = (λ p. begun_of (entry_own p).transaction) ∙ leaves.begun;
      net = net_own;
      next = next_own;
      holds =
          λ n j. (λ p. told_at was_owned (node_at (after_home s m reply).fabric n).log false m.block
          (is_owned (line_of (node_seen n p).cache m.block).state) j)
          ∙ (caches_own n).holds (is_owned (line_of (node_at s n).cache m.block).state) j;
      held =
          λ n j. (λ p. told_at old_content (node_at (after_home s m reply).fabric n).log false m.block
          (content_held (line_of (node_seen n p).cache m.block)) j)
          ∙ (caches_own n).held (content_held (line_of (node_at s n).cache m.block)) j;
      last = λ n. (caches_own n).last;
      named_home = λ j. (λ p. told_at was_home (log_own p) true m.block (is_itself (entry_own p).holder) j) ∙ leaves.named_home j;
      named = λ j. (λ p. told_at old_cache (log_own p) true m.block (owner_of (entry_own p).holder) j) ∙ leaves.named j;
      home_held = λ j. (λ p. told_at old_content (log_own p) true m.block (content_of (entry_own p).holder) j) ∙ leaves.home_held j;
      home_last = (λ p. logged_to (log_own p) true m.block) ∙ leaves.home_last;
      stage = set_here t.stage m.block e.stage;
      at = set_here t.at m.block e.at;
      waited = λ n. set_row_here t.waited m.block e.waited n;
      framed = λ n j. refl;
    }

    pub own-seen : IsSame (block_seen (after_home s m reply).fabric (ghost_with t m.block e) m.block)
        (losing (with_home_side (block_seen s t m.block) e) (lost_at_once (after_home s m reply).sent))
    own-seen =
        same_losing (block_seen (after_home s m reply).fabric (ghost_with t m.block e) m.block) (with_home_side (block_seen s t m.block) e)
        (lost_at_once (after_home s m reply).sent) own_kept

  -- another block
  module _ (t : GhostState) (e : block.Block) (o : ℕ) (other : o ≢ m.block) (caches : IsSameCaches reply.after.log (node_at s m.to).log o) (logs : IsSameHome reply.after.log (node_at s m.to).log o) (sends : NoneForAll reply.sends) where
    entry_other : home_of (after_home s m reply).fabric o ≡ home_of s o
    entry_other = entry_seen o ∙ grind (arith, nat_tests)

    caches_other : (n : ℕ) → IsSameCaches (node_at (after_home s m reply).fabric n).log (node_at s n).log o
    caches_other n = subst (λ x. IsSameCaches x.log (node_at s n).log o) (sym (node_seen n))
        (caches_chosen (n == m.to) reply.after.log (node_at s m.to).log (node_at s n).log o (λ h. grind (arith, nat_tests)) caches)

    logs_other : IsSameHome (home_log (after_home s m reply).fabric o) (home_log s o) o
    logs_other = subst (λ x. IsSameHome x (home_log s o) o) (sym (home_log_seen o))
        (home_chosen (home_node s o == m.to) reply.after.log (node_at s m.to).log (home_log s o) o (λ h. grind (arith, nat_tests)) logs)

    net_other : (i : ℕ) → net_seen o (after_home s m reply).fabric.net.flights i ≡ cond (i == m.id) block.no_message (net_seen o s.net.flights i)
    net_other i =
        posted-elsewhere reply.sends (routes_of (with_net (home_after s m.to m.block reply) (without_flight s.net m.id)))
        (without_flight s.net m.id) m.to
        (node_at (with_net (home_after s m.to m.block reply) (without_flight s.net m.id)) m.to).now m.block o i other sends
        ∙ seen-without s.net.flights m.id o i

    next_other : (after_home s m reply).fabric.net.next_id ≡ s.net.next_id + length reply.sends
    next_other =
        posted-next reply.sends (routes_of (with_net (home_after s m.to m.block reply) (without_flight s.net m.id)))
        (without_flight s.net m.id) m.to
        (node_at (with_net (home_after s m.to m.block reply) (without_flight s.net m.id)) m.to).now m.block

    pub other-seen : IsSame (block_seen (after_home s m reply).fabric (ghost_with t m.block e) o)
        (elsewhere (block_seen s t o) m.id (length reply.sends))
    other-seen = record {
      point = refl;
      home = home_seen o;
      now = now_seen;
      known = λ n p. (node_seen n p).known;
      line = λ n p. line_seen (line_of (node_seen n p).cache o).state;
      content = λ n p. (line_of (node_seen n p).cache o).content;
      miss = λ n p. miss_seen o (node_seen n p).cache.miss;
      putting = λ n p. put_seen o (node_seen n p).cache.put;
      put_issued = λ n p. put_issued (node_seen n p).cache.put;
      at_home = λ p. is_itself (entry_other p).holder;
      owner = λ p. owner_of (entry_other p).holder;
      home_content = λ p. content_of (entry_other p).holder;
      sharers = λ n p. slice_index_or (entry_other p).sharers n false;
      kind = λ p. kind_open (entry_other p).transaction;
      requester = λ p. requester_of (entry_other p).transaction;
      begun = λ p. begun_of (entry_other p).transaction;
      net = net_other;
      next = next_other;
      holds =
          λ n j. (λ p. told_at was_owned (node_at (after_home s m reply).fabric n).log false o
          (is_owned (line_of (node_seen n p).cache o).state) j) ∙ (caches_other n).holds (is_owned (line_of (node_at s n).cache o).state) j;
      held =
          λ n j. (λ p. told_at old_content (node_at (after_home s m reply).fabric n).log false o
          (content_held (line_of (node_seen n p).cache o)) j) ∙ (caches_other n).held (content_held (line_of (node_at s n).cache o)) j;
      last = λ n. (caches_other n).last;
      named_home =
          λ j. (λ p. told_at was_home (home_log (after_home s m reply).fabric o) true o (is_itself (entry_other p).holder) j)
          ∙ logs_other.named_home (is_itself (home_of s o).holder) j;
      named =
          λ j. (λ p. told_at old_cache (home_log (after_home s m reply).fabric o) true o (owner_of (entry_other p).holder) j)
          ∙ logs_other.named (owner_of (home_of s o).holder) j;
      home_held =
          λ j. (λ p. told_at old_content (home_log (after_home s m reply).fabric o) true o (content_of (entry_other p).holder) j)
          ∙ logs_other.home_held (content_of (home_of s o).holder) j;
      home_last = logs_other.home_last;
      stage = set_there t.stage m.block o e.stage other;
      at = set_there t.at m.block o e.at other;
      waited = λ n. set_row_there t.waited m.block o e.waited n other;
      framed = λ n j. refl;
    }
