-- The events of messages and switches that are no row, and a validation, as each block sees them.
use Rattle.std.proofs.Common.{◌≡◌, ◌∙◌, ℕ, suc, ◌+◌, ◌-◌, ◌<◌, ◌≤◌, Bool, true, false, not, ◌&&◌, cond, max, List, [], ◌∷◌, length, refl}
use Rattle.std.proofs.Common.{ap, sym, subst, arith, ◌==◌, if◌then◌else◌, nat_eq, filter, map, length-set}
use Rattle.std.specs.Prelude.{nat_lt, nat_le, ◌%◌}
use Rattle.std.proofs.lemmas.Bool.Decides.{nat_tests}
use Rattle.sn_msg.specs.declared.Message.{Message as Sent}
use Rattle.sn_base.specs.declared.event.Answer.TheVariants.{Validated}
use Rattle.log_buffer.specs.Log.{LogEntry, Old, entries_from, logged_to}
use Rattle.sn_model.specs.Caches.{Cache, line_of, is_owned}
use Rattle.sn_model.specs.Fabric.{Fabric, Node, Flight, Net, node_at, with_node, home_of, home_node, first_node, with_net}
use Rattle.sn_model.specs.Net.{net_after_sends, sent_by, routes_of, without_flight, flight_in_switch, net_with_flight_in, sending}
use Rattle.sn_model.specs.NetEvents.{node_after_news}
use Rattle.sn_model.specs.PointEvents.{advances}
use Rattle.sn_model.specs.declared.cache.Out.{Out}
use Rattle.sn_coherence.specs.Block.{Block, Message, Advance, no_message, with_number, freed_below_cut, newest_freed, set, set_row, net_without, tells_all}
use Rattle.sn_coherence.specs.OtherEvents.{lose, deliver_ready, deliver_advance, validate}
use Rattle.sn_coherence.specs.Same.{IsSame}
use Rattle.sn_coherence.specs.Log.{was_owned, old_content, was_home, old_cache, told_at}
use Rattle.sn_coherence.proofs.Log.{free_law}
use Rattle.fabric_coherence.specs.View.{GhostState, block_seen, net_seen, line_seen, miss_seen, put_seen, put_issued, content_held, home_log}
use Rattle.fabric_coherence.specs.View.{is_itself, owner_of, content_of}
use Rattle.fabric_coherence.specs.Steps.{Below, losing, lost_at_once}
use Rattle.fabric_coherence.specs.Sends.{sent_at, is_among}
use Rattle.fabric_coherence.specs.Flights.{From, Rising, standing}
use Rattle.fabric_coherence.proofs.Base.{read_set, seen-without}
use Rattle.fabric_coherence.proofs.NetSends.{lost_same, seen-posted, seen-fresh, next-posted}

-- a block that is seen as before but for the net
with_net-seen : (s : Fabric) (t : GhostState) (o : ℕ) (net : Net) (f : ℕ → Message) (taken_to : ℕ) →
    ((i : ℕ) → net_seen o net.flights i ≡ f i) → net.next_id ≡ taken_to →
    IsSame (block_seen (with_net s net) t o) (record (block_seen s t o) { net = f; next = taken_to })
with_net-seen s t o net f taken_to e next = record {
  point = refl;
  home = refl;
  now = λ n. refl;
  known = λ n. refl;
  line = λ n. refl;
  content = λ n. refl;
  miss = λ n. refl;
  putting = λ n. refl;
  put_issued = λ n. refl;
  at_home = refl;
  owner = refl;
  home_content = refl;
  sharers = λ n. refl;
  kind = refl;
  requester = refl;
  begun = refl;
  net = e;
  next = next;
  holds = λ n j. refl;
  held = λ n j. refl;
  last = λ n. refl;
  named_home = λ j. refl;
  named = λ j. refl;
  home_held = λ j. refl;
  home_last = refl;
  stage = refl;
  at = refl;
  waited = λ n. refl;
  framed = λ n j. refl;
}

with_same_net : (s : Fabric) (t : GhostState) (o : ℕ) (net : Net) (f : ℕ → Message) → ((i : ℕ) → net_seen o net.flights i ≡ f i) →
    net.next_id ≡ s.net.next_id →
    IsSame (block_seen (with_net s net) t o) (record (block_seen s t o) { net = f })
with_same_net s t o net f e next = with_net-seen s t o net f s.net.next_id e next

-- a loss
pub lose-seen : (s : Fabric) (t : GhostState) (o id : ℕ) →
    IsSame (block_seen (with_net s (without_flight s.net id)) t o) (lose (block_seen s t o) id)
lose-seen s t o id =
    with_same_net s t o (without_flight s.net id) (set (net_seen o s.net.flights) id no_message) (seen-without s.net.flights id o) refl

-- a hop
moved_step : (f : Flight) (fs gs : List Flight) (id place b i : ℕ) → net_seen b gs i ≡ net_seen b fs i →
    net_seen b (flight_in_switch id place f ∷ gs) i ≡ net_seen b (f ∷ fs) i
moved_step f fs gs id place b i e = grind (arith, nat_tests)

pub seen-moved : (fs : List Flight) (id place b i : ℕ) → net_seen b (map (flight_in_switch id place) fs) i ≡ net_seen b fs i
seen-moved [] id place b i = refl
seen-moved (f ∷ fs) id place b i = moved_step f fs (map (flight_in_switch id place) fs) id place b i (seen-moved fs id place b i)

pub move-seen : (s : Fabric) (t : GhostState) (o id place : ℕ) → IsSame (block_seen (with_net s (net_with_flight_in s.net id place)) t o) (block_seen s t o)
move-seen s t o id place = with_same_net s t o (net_with_flight_in s.net id place) (net_seen o s.net.flights) (seen-moved s.net.flights id place o) refl

same_self : (s : Fabric) (t : GhostState) (o : ℕ) → IsSame (block_seen s t o) (block_seen s t o)
same_self s t o = with_same_net s t o s.net (net_seen o s.net.flights) (λ i. refl) refl

-- a kill
from_gone_step : (f : Flight) (fs : List Flight) (n b i : ℕ) → n ≤ f.message.id → i < n → net_seen b fs i ≡ no_message →
    net_seen b (f ∷ fs) i ≡ no_message
from_gone_step f fs n b i l m e = grind (arith, nat_tests)

pub seen-from : (fs : List Flight) (n b i : ℕ) → From fs n → i < n → net_seen b fs i ≡ no_message
seen-from [] n b i l m = refl
seen-from (f ∷ fs) n b i l m = from_gone_step f fs n b i l.0 m (seen-from fs n b i l.1 m)

not_standing_step : (there : Bool) (id : ℕ) (ids : List ℕ) (n i : ℕ) → n ≤ id → i < n → is_among ids i ≡ false →
    is_among (if there then id ∷ ids else ids) i ≡ false
not_standing_step true id ids n i l m e = grind (arith, nat_tests)
not_standing_step false id ids n i l m e = e

pub not_standing : (switch : ℕ) (fs : List Flight) (n i : ℕ) → From fs n → i < n → is_among (standing switch fs) i ≡ false
not_standing switch [] n i l m = refl
not_standing switch (f ∷ fs) n i l m =
    not_standing_step (nat_eq f.place switch) f.message.id (standing switch fs) n i l.0 m (not_standing switch fs n i l.1 m)

killed_step : (there : Bool) (f : Flight) (fs gs : List Flight) (ids : List ℕ) (b i : ℕ) →
    net_seen b gs i ≡ cond (is_among ids i) no_message (net_seen b fs i) →
    (i < f.message.id + 1 → is_among ids i ≡ false) → (i < f.message.id + 1 → net_seen b fs i ≡ no_message) →
    net_seen b (if not there then f ∷ gs else gs) i
    ≡ cond (is_among (if there then f.message.id ∷ ids else ids) i) no_message (net_seen b (f ∷ fs) i)
killed_step true f fs gs ids b i e g h = grind (arith, nat_tests)
killed_step false f fs gs ids b i e g h = grind (arith, nat_tests)

pub seen-killed : (switch : ℕ) (fs : List Flight) (b i : ℕ) → Rising fs →
    net_seen b (filter (λ f. not (nat_eq f.place switch)) fs) i ≡ cond (is_among (standing switch fs) i) no_message (net_seen b fs i)
seen-killed switch [] b i r = refl
seen-killed switch (f ∷ fs) b i r =
    killed_step (nat_eq f.place switch) f fs (filter (λ f. not (nat_eq f.place switch)) fs) (standing switch fs) b i
    (seen-killed switch fs b i r.1)
    (λ q. not_standing switch fs (f.message.id + 1) i r.0 q) (λ q. seen-from fs (f.message.id + 1) b i r.0 q)

pub kill-seen : (s : Fabric) (t : GhostState) (o switch : ℕ) (dead : List Bool) → Rising s.net.flights →
    IsSame (block_seen (with_net s (record s.net { dead = dead; flights = filter (λ f. not (nat_eq f.place switch)) s.net.flights })) t o)
    (losing (block_seen s t o) (standing switch s.net.flights))
kill-seen s t o switch dead r =
    lost_same _ (block_seen s t o) (standing switch s.net.flights)
    (with_same_net s t o (record s.net { dead = dead; flights = filter (λ f. not (nat_eq f.place switch)) s.net.flights })
    (λ i. cond (is_among (standing switch s.net.flights) i) no_message (net_seen o s.net.flights i))
    (λ i. seen-killed switch s.net.flights o i r) refl)

-- Ready at the controller
pub ready-seen : (s : Fabric) (t : GhostState) (o id : ℕ) →
    IsSame (block_seen (with_net s (without_flight s.net id)) t o) (deliver_ready (block_seen s t o) id)
ready-seen s t o id =
    with_same_net s t o (without_flight s.net id) (set (net_seen o s.net.flights) id no_message) (seen-without s.net.flights id o) refl

-- Advance at a node

-- the block after a message that says Advance
abbrev advanced_by : Block → ℕ → Message → Block
advanced_by b i m =
    record b {
      known = set b.known m.to (max (b.known m.to) m.number);
      holds = set_row b.holds m.to (freed_below_cut (b.holds m.to) m.number);
      held = set_row b.held m.to (freed_below_cut (b.held m.to) m.number);
      last = set b.last m.to (newest_freed (b.last m.to) m.number);
      named_home = λ j. cond (m.to == b.home) (freed_below_cut b.named_home m.number j) (b.named_home j);
      named = λ j. cond (m.to == b.home) (freed_below_cut b.named m.number j) (b.named j);
      home_held = λ j. cond (m.to == b.home) (freed_below_cut b.home_held m.number j) (b.home_held j);
      home_last = cond (m.to == b.home) (newest_freed b.home_last m.number) b.home_last;
      net = net_without b i;
    }

module _ (s : Fabric) (n : ℕ) (node : Node) (l : n < length s.nodes) where
  -- what is read at a node after one is replaced
  read_at : (A : Type 0) (says : Node → A) (m : ℕ) → says (node_at (with_node s n node) m) ≡ cond (m == n) (says node) (says (node_at s m))
  read_at A says m = ap says (read_set s.nodes n m node first_node l) ∙ either (m == n)
    where
      either : (t : Bool) → says (cond t node (node_at s m)) ≡ cond t (says node) (says (node_at s m))
      either true = refl
      either false = refl

  -- where it says the same of both, nothing changes
  read_same : (A : Type 0) (says : Node → A) (m : ℕ) → says node ≡ says (node_at s n) →
      says (node_at (with_node s n node) m) ≡ says (node_at s m)
  read_same A says m e = read_at A says m ∙ either (m == n) (λ q. e ∙ ap (λ k. says (node_at s k)) (sym (equal q)))
    where
      equal : (m == n) ≡ true → m ≡ n
      equal q = grind (arith, nat_tests)

      either : (t : Bool) → (t ≡ true → says node ≡ says (node_at s m)) → cond t (says node) (says (node_at s m)) ≡ says (node_at s m)
      either true h = h refl
      either false h = refl

  home_same : (o : ℕ) → home_node (with_node s n node) o ≡ home_node s o
  home_same o = ap (λ k. o % k) (length-set s.nodes n node)

same_test : (a b : ℕ) → (a == b) ≡ (b == a)
same_test a b = grind (arith, nat_tests)

module _ (s : Fabric) (t : GhostState) (o id from to tag k : ℕ) (l : to < length s.nodes) where
  abbrev after : Fabric
  after = with_net (with_node s to (node_after_news (node_at s to) k)) (without_flight s.net id)

  abbrev told : Block
  told = advanced_by (block_seen s t o) id (with_number Advance from to tag k)

  -- what is read at a node
  says_at : (A : Type 0) (says : Node → A) (m : ℕ) →
      says (node_at after m) ≡ cond (m == to) (says (node_after_news (node_at s to) k)) (says (node_at s m))
  says_at = read_at s to (node_after_news (node_at s to) k) l

  says_same : (A : Type 0) (says : Node → A) (m : ℕ) → says (node_after_news (node_at s to) k) ≡ says (node_at s to) →
      says (node_at after m) ≡ says (node_at s m)
  says_same = read_same s to (node_after_news (node_at s to) k) l

  -- what the log of the block's home says
  home_says : (A : Type 0) (says : List LogEntry → A) →
      says (home_log after o) ≡ cond (to == home_node s o) (says (entries_from k (home_log s o))) (says (home_log s o))
  home_says A says =
      ap (λ h. says (node_at after h).log) (home_same s to (node_after_news (node_at s to) k) l o)
      ∙ (says_at A (λ node. says node.log) (home_node s o)
      ∙ (ap (λ c. cond c (says (entries_from k (node_at s to).log)) (says (home_log s o))) (same_test (home_node s o) to)
      ∙ either (to == home_node s o) equal))
    where
      equal : (to == home_node s o) ≡ true → to ≡ home_node s o
      equal q = grind (arith, nat_tests)

      either : (c : Bool) → (c ≡ true → to ≡ home_node s o) →
          cond c (says (entries_from k (node_at s to).log)) (says (home_log s o))
          ≡ cond c (says (entries_from k (home_log s o))) (says (home_log s o))
      either true h = ap (λ n. says (entries_from k (node_at s n).log)) (h refl)
      either false h = refl

  home_cuts : (A : Type 0) (says : Old → A) (now : A) (j : ℕ) →
      told_at says (home_log after o) true o now j
      ≡ cond (to == home_node s o) (freed_below_cut (told_at says (home_log s o) true o now) k j) (told_at says (home_log s o) true o now j)
  home_cuts A says now j =
      home_says A (λ log. told_at says log true o now j)
      ∙ ap (λ x. cond (to == home_node s o) x (told_at says (home_log s o) true o now j))
      ((free_law A says (home_log s o) k true o now).cuts j)

  cuts : (A : Type 0) (says : Old → A) (now : Cache → A) (n j : ℕ) →
      told_at says (node_at after n).log false o (now (node_at after n).cache) j
      ≡ cond (n == to) (freed_below_cut (told_at says (node_at s to).log false o (now (node_at s to).cache)) k j)
      (told_at says (node_at s n).log false o (now (node_at s n).cache) j)
  cuts A says now n j =
      says_at A (λ node. told_at says node.log false o (now node.cache) j) n
      ∙ ap (λ x. cond (n == to) x (told_at says (node_at s n).log false o (now (node_at s n).cache) j))
      ((free_law A says (node_at s to).log k false o (now (node_at s to).cache)).cuts j)

  advanced : IsSame (block_seen after t o) told
  advanced = record {
    point = refl;
    home = home_same s to (node_after_news (node_at s to) k) l o;
    now = λ n. says_same _ (λ node. node.now) n refl;
    known = λ n. says_at _ (λ node. node.known) n;
    line = λ n. says_same _ (λ node. line_seen (line_of node.cache o).state) n refl;
    content = λ n. says_same _ (λ node. (line_of node.cache o).content) n refl;
    miss = λ n. says_same _ (λ node. miss_seen o node.cache.miss) n refl;
    putting = λ n. says_same _ (λ node. put_seen o node.cache.put) n refl;
    put_issued = λ n. says_same _ (λ node. put_issued node.cache.put) n refl;
    at_home = refl;
    owner = refl;
    home_content = refl;
    sharers = λ n. refl;
    kind = refl;
    requester = refl;
    begun = refl;
    net = seen-without s.net.flights id o;
    next = refl;
    holds = cuts Bool was_owned (λ cache. is_owned (line_of cache o).state);
    held = cuts _ old_content (λ cache. content_held (line_of cache o));
    last =
        λ n. says_at ℕ (λ node. logged_to node.log false o) n
        ∙ ap (λ x. cond (n == to) x (logged_to (node_at s n).log false o))
        ((free_law Bool was_owned (node_at s to).log k false o true).newest);
    named_home = home_cuts Bool was_home (is_itself (home_of s o).holder);
    named = home_cuts ℕ old_cache (owner_of (home_of s o).holder);
    home_held = home_cuts _ old_content (content_of (home_of s o).holder);
    home_last =
        home_says ℕ (λ log. logged_to log true o)
        ∙ ap (λ x. cond (to == home_node s o) x (logged_to (home_log s o) true o))
        ((free_law Bool was_home (home_log s o) k true o true).newest);
    stage = refl;
    at = refl;
    waited = λ n. refl;
    framed = λ n j. refl;
  }

-- for each block that sees the message
pub advance-seen : (s : Fabric) (t : GhostState) (o : ℕ) (m : Sent) (k : ℕ) → m.to < length s.nodes →
    net_seen o s.net.flights m.id ≡ with_number Advance m.from m.to m.tag k →
    IsSame (block_seen (with_net (with_node s m.to (node_after_news (node_at s m.to) k)) (without_flight s.net m.id)) t o)
    (deliver_advance (block_seen s t o) m.id)
advance-seen s t o m k l e =
    subst (λ x. IsSame (block_seen (with_net (with_node s m.to (node_after_news (node_at s m.to) k)) (without_flight s.net m.id)) t o)
    (advanced_by (block_seen s t o) m.id x)) (sym e) (advanced s t o m.id m.from m.to m.tag k l)

-- a validation
tells_step : (tag k to next len i : ℕ) (x rest : Message) →
    rest ≡ cond (nat_le (next + 1) i && nat_lt i (next + 1 + len)) (with_number Advance 0 (to + 1 + (i - (next + 1))) tag k) x →
    cond ((i == next) && true) (with_number Advance 0 to tag k) rest
    ≡ cond (nat_le next i && nat_lt i (next + suc len)) (with_number Advance 0 (to + (i - next)) tag k) x
tells_step tag k to next len i x rest e = grind (arith, nat_tests)

no_tells : (to tag k next i : ℕ) (x : Message) →
    x ≡ cond (nat_le next i && nat_lt i (next + 0)) (with_number Advance 0 (to + (i - next)) tag k) x
no_tells to tag k next i x = grind (arith, nat_tests)

pub sent_at-advances : (o tag block k to next : ℕ) (ns : List Node) (i : ℕ) (x : Message) →
    sent_at o 0 tag block next (advances k to ns) i x
    ≡ cond (nat_le next i && nat_lt i (next + length ns)) (with_number Advance 0 (to + (i - next)) tag k) x
sent_at-advances o tag block k to next [] i x = no_tells to tag k next i x
sent_at-advances o tag block k to next (node ∷ ns) i x =
    tells_step tag k to next (length ns) i x (sent_at o 0 tag block (next + 1) (advances k (to + 1) ns) i x)
    (sent_at-advances o tag block k (to + 1) (next + 1) ns i x)

pub length-advances : (k to : ℕ) (ns : List Node) → length (advances k to ns) ≡ length ns
length-advances k to [] = refl
length-advances k to (node ∷ ns) = ap suc (length-advances k (to + 1) ns)

tells_same : (i next n tag k : ℕ) (x : Message) → (next ≤ i → x ≡ no_message) →
    cond (nat_le next i && nat_lt i (next + n)) (with_number Advance 0 (0 + (i - next)) tag k) x
    ≡ cond (nat_lt i next) x (cond (nat_lt i (next + n)) (with_number Advance 0 (i - next) tag k) no_message)
tells_same i next n tag k x e = grind (arith, nat_tests)

module _ (s : Fabric) (t : GhostState) (o : ℕ) (below : Below s.net.flights s.net.next_id) where
  abbrev tells : List Out
  tells = advances (s.point + 1) 0 s.nodes

  abbrev tells_lost : List ℕ
  tells_lost = lost_at_once (sent_by (routes_of s) s.net 0 (node_at s 0).now 0 tells)

  tells_net : (i : ℕ) → net_seen o (net_after_sends (routes_of s) s.net 0 (node_at s 0).now 0 tells).flights i
      ≡ cond (is_among tells_lost i) no_message (tells_all (block_seen s t o) (length s.nodes) (s.point + 1) i)
  tells_net i =
      seen-posted (routes_of s) s.net 0 (node_at s 0).now 0 tells o i below
      ∙ ap (cond (is_among tells_lost i) no_message)
      (sent_at-advances o (node_at s 0).now 0 (s.point + 1) 0 s.net.next_id s.nodes i (net_seen o s.net.flights i)
      ∙ tells_same i s.net.next_id (length s.nodes) (node_at s 0).now (s.point + 1) (net_seen o s.net.flights i)
      (λ q. seen-fresh s.net.flights s.net.next_id o i below q))

  pub validate-seen : IsSame (block_seen (sending (record s { point = s.point + 1 }) 0 0 tells (Validated (s.point + 1))).fabric t o)
      (losing (validate (length s.nodes) (block_seen s t o))
      (lost_at_once (sending (record s { point = s.point + 1 }) 0 0 tells (Validated (s.point + 1))).sent))
  validate-seen =
      lost_same _ (validate (length s.nodes) (block_seen s t o)) tells_lost
      (with_net-seen (record s { point = s.point + 1 }) t o (net_after_sends (routes_of s) s.net 0 (node_at s 0).now 0 tells)
      (λ i. cond (is_among tells_lost i) no_message (tells_all (block_seen s t o) (length s.nodes) (s.point + 1) i))
      (s.net.next_id + length s.nodes) tells_net
      (next-posted (routes_of s) s.net 0 (node_at s 0).now 0 tells ∙ ap (λ n. s.net.next_id + n) (length-advances (s.point + 1) 0 s.nodes)))
