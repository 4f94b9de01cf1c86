-- What a block sees where one node is replaced by another, and perhaps one message is sent.
use Rattle.std.proofs.Common.{subst, ◌≡◌, ◌≢◌, ◌∙◌, ℕ, ◌%◌, ◌<◌, ◌≤◌, Bool, true, false, not, ◌&&◌, cond, List, [], ◌∷◌, length, refl, ap}
use Rattle.std.proofs.Common.{sym, arith, ◌==◌, length-set, if◌then◌else◌, nat_eq}
use Rattle.std.proofs.lemmas.Bool.Decides.{nat_tests}
use Rattle.route_plan.specs.Distances.{Switches}
use Rattle.log_buffer.specs.Log.{logged_to}
use Rattle.sn_model.specs.declared.cache.Out.{Out}
use Rattle.sn_model.specs.Caches.{line_of, is_owned}
use Rattle.sn_model.specs.Fabric.{Fabric, Node, Net, Flight, node_at, with_node, home_node, first_node}
use Rattle.sn_model.specs.Net.{net_after_send, net_after_sends, sent_by, is_lost, message_of, routes_of, sending}
use Rattle.sn_msg.specs.declared.Message.{Message as Sent}
use Rattle.sn_base.specs.declared.event.Answer.{Answer}
use Rattle.sn_coherence.specs.Block.{Block, Message, no_message, set}
use Rattle.sn_coherence.specs.Same.{IsSame}
use Rattle.sn_coherence.specs.Log.{was_owned, old_content, was_home, old_cache, told_at}
use Rattle.fabric_coherence.specs.View.{GhostState, block_seen, net_seen, is_seen, message_seen, line_seen, content_held, miss_seen, put_seen}
use Rattle.fabric_coherence.specs.View.{put_issued}
use Rattle.fabric_coherence.specs.Steps.{Below, losing, lost_at_once}
use Rattle.fabric_coherence.specs.NodeSeen.{block_with_node, carried_by, IsSameAtHome}
use Rattle.fabric_coherence.proofs.Base.{read_set, seen-post}

-- blocks that are the same at each place

pub same_then : (a b c : Block) → IsSame a b → IsSame b c → IsSame a c
same_then a b c x y = record {
  point = x.point ∙ y.point;
  home = x.home ∙ y.home;
  now = λ n. x.now n ∙ y.now n;
  known = λ n. x.known n ∙ y.known n;
  line = λ n. x.line n ∙ y.line n;
  content = λ n. x.content n ∙ y.content n;
  miss = λ n. x.miss n ∙ y.miss n;
  putting = λ n. x.putting n ∙ y.putting n;
  put_issued = λ n. x.put_issued n ∙ y.put_issued n;
  at_home = x.at_home ∙ y.at_home;
  owner = x.owner ∙ y.owner;
  home_content = x.home_content ∙ y.home_content;
  sharers = λ n. x.sharers n ∙ y.sharers n;
  kind = x.kind ∙ y.kind;
  requester = x.requester ∙ y.requester;
  begun = x.begun ∙ y.begun;
  net = λ i. x.net i ∙ y.net i;
  next = x.next ∙ y.next;
  holds = λ n j. x.holds n j ∙ y.holds n j;
  held = λ n j. x.held n j ∙ y.held n j;
  last = λ n. x.last n ∙ y.last n;
  named_home = λ j. x.named_home j ∙ y.named_home j;
  named = λ j. x.named j ∙ y.named j;
  home_held = λ j. x.home_held j ∙ y.home_held j;
  home_last = x.home_last ∙ y.home_last;
  stage = x.stage ∙ y.stage;
  at = x.at ∙ y.at;
  waited = λ n. x.waited n ∙ y.waited n;
  framed = λ n j. x.framed n j ∙ y.framed n j;
}

-- one node is replaced

pub chosen : {A B : Type 0} (f : A → B) (t : Bool) (v w : A) → f (cond t v w) ≡ cond t (f v) (f w)
chosen f true v w = refl
chosen f false v w = refl

pub set_self : {A : Type 0} (f : ℕ → A) (n m : ℕ) (v : A) → v ≡ f n → set f n v m ≡ f m
set_self f n m v e = grind (arith, nat_tests)

pub set_with : {A : Type 0} (f : ℕ → A) (n m : ℕ) (v w : A) → v ≡ w → set f n v m ≡ set f n w m
set_with f n m v w e = ap (λ x. set f n x m) e

pub replaced_at : {B : Type 0} (f : Node → B) (s : Fabric) (n m : ℕ) (v : Node) → n < length s.nodes →
    f (node_at (with_node s n v) m) ≡ cond (m == n) (f v) (f (node_at s m))
replaced_at f s n m v l = ap f (read_set s.nodes n m v first_node l) ∙ chosen f (m == n) v (node_at s m)

pub home_still : (s : Fabric) (n b : ℕ) (v : Node) → home_node (with_node s n v) b ≡ home_node s b
home_still s n b v = ap (λ k. b % k) (length-set s.nodes n v)

pub same_at_home : {B : Type 0} (f : Node → B) (s : Fabric) (n b : ℕ) (v : Node) → n < length s.nodes → f v ≡ f (node_at s n) →
    f (node_at (with_node s n v) (home_node (with_node s n v) b)) ≡ f (node_at s (home_node s b))
same_at_home f s n b v l e =
    ap (λ h. f (node_at (with_node s n v) h)) (home_still s n b v)
    ∙ (replaced_at f s n (home_node s b) v l ∙ set_self (λ m. f (node_at s m)) n (home_node s b) (f v) e)

pub node_changed : (s : Fabric) (t : GhostState) (n b : ℕ) (v : Node) (net : Net) → n < length s.nodes → IsSameAtHome b v (node_at s n) →
    IsSame (block_seen (record (with_node s n v) { net = net }) t b) (carried_by (block_with_node (block_seen s t b) b n v) b net)
node_changed s t n b v net l h = record {
  point = refl;
  home = home_still s n b v;
  now = λ m. replaced_at (λ x. x.now) s n m v l;
  known = λ m. replaced_at (λ x. x.known) s n m v l;
  line = λ m. replaced_at (λ x. line_seen (line_of x.cache b).state) s n m v l;
  content = λ m. replaced_at (λ x. (line_of x.cache b).content) s n m v l;
  miss = λ m. replaced_at (λ x. miss_seen b x.cache.miss) s n m v l;
  putting = λ m. replaced_at (λ x. put_seen b x.cache.put) s n m v l;
  put_issued = λ m. replaced_at (λ x. put_issued x.cache.put) s n m v l;
  at_home = refl;
  owner = refl;
  home_content = refl;
  sharers = λ m. refl;
  kind = refl;
  requester = refl;
  begun = refl;
  net = λ i. refl;
  next = refl;
  holds = λ m j. replaced_at (λ x. told_at was_owned x.log false b (is_owned (line_of x.cache b).state) j) s n m v l;
  held = λ m j. replaced_at (λ x. told_at old_content x.log false b (content_held (line_of x.cache b)) j) s n m v l;
  last = λ m. replaced_at (λ x. logged_to x.log false b) s n m v l;
  named_home =
      λ j. same_at_home (λ x. told_at was_home x.log true b (block_seen s t b).at_home j) s n b v l
      (h.named_home (block_seen s t b).at_home j);
  named = λ j. same_at_home (λ x. told_at old_cache x.log true b (block_seen s t b).owner j) s n b v l (h.named (block_seen s t b).owner j);
  home_held =
      λ j. same_at_home (λ x. told_at old_content x.log true b (block_seen s t b).home_content j) s n b v l
      (h.held (block_seen s t b).home_content j);
  home_last = same_at_home (λ x. logged_to x.log true b) s n b v l h.newest;
  stage = refl;
  at = refl;
  waited = λ m. refl;
  framed = λ m j. refl;
}

-- the home's side of a log that is as it was
pub log_same : (b : ℕ) (x y : Node) → x.log ≡ y.log → IsSameAtHome b x y
log_same b x y e = record {
  named_home = λ was j. ap (λ l. told_at was_home l true b was j) e;
  named = λ was j. ap (λ l. told_at old_cache l true b was j) e;
  held = λ was j. ap (λ l. told_at old_content l true b was j) e;
  newest = ap (λ l. logged_to l true b) e;
}

-- one message is sent

fresh_step : (f : Flight) (fs : List Flight) (b i next : ℕ) → f.message.id < next → next ≤ i → net_seen b fs i ≡ no_message →
    net_seen b (f ∷ fs) i ≡ no_message
fresh_step f fs b i next l k h = grind (arith, nat_tests)

pub seen-fresh : (fs : List Flight) (b i next : ℕ) → Below fs next → next ≤ i → net_seen b fs i ≡ no_message
seen-fresh [] b i next l k = refl
seen-fresh (f ∷ fs) b i next l k = fresh_step f fs b i next l.0 k (seen-fresh fs b i next l.1 k)

-- the net with a message under the next number, and then without it where it was lost at once
own_net : (x : ℕ → Message) (m : Message) (next i : ℕ) (seen lost : Bool) → seen ≡ true → (next ≤ i → x i ≡ no_message) →
    cond ((i == next) && (seen && not lost)) m (x i) ≡ cond (lost && (i == next)) no_message (set x next m i)
own_net x m next i seen lost s h = grind (arith, nat_tests)

other_net : (x : ℕ → Message) (m : Message) (next i : ℕ) (seen lost : Bool) → seen ≡ false → (next ≤ i → x i ≡ no_message) →
    cond ((i == next) && (seen && not lost)) m (x i) ≡ cond (lost && (i == next)) no_message (x i)
other_net x m next i seen lost s h = grind (arith, nat_tests)

-- a block that loses what was lost at once
abbrev pub without_lost : Block → Bool → ℕ → Block
without_lost block lost id = record block { net = λ i. cond (lost && (i == id)) no_message (block.net i) }

pub lost_same : (a block : Block) (lost : Bool) (id : ℕ) → IsSame a (without_lost block lost id) →
    IsSame a (losing block (if lost then id ∷ [] else []))
lost_same a block true id h = h
lost_same a block false id h = h

pub own_post : (routes : Switches) (net : Net) (m : Sent) (b i : ℕ) → m.id ≡ net.next_id → Below net.flights net.next_id →
    is_seen b m ≡ true →
    net_seen b (net_after_send routes net m).flights i
    ≡ cond (is_lost routes net m && (i == net.next_id)) no_message (set (net_seen b net.flights) net.next_id (message_seen m m.body) i)
own_post routes net m b i e l s =
    seen-post routes net m b i e l
    ∙ own_net (net_seen b net.flights) (message_seen m m.body) net.next_id i (is_seen b m) (is_lost routes net m) s
    (seen-fresh net.flights b i net.next_id l)

pub other_post : (routes : Switches) (net : Net) (m : Sent) (b i : ℕ) → m.id ≡ net.next_id → Below net.flights net.next_id →
    is_seen b m ≡ false →
    net_seen b (net_after_send routes net m).flights i ≡ cond (is_lost routes net m && (i == net.next_id)) no_message (net_seen b net.flights i)
other_post routes net m b i e l s =
    seen-post routes net m b i e l
    ∙ other_net (net_seen b net.flights) (message_seen m m.body) net.next_id i (is_seen b m) (is_lost routes net m) s
    (seen-fresh net.flights b i net.next_id l)

-- one node is replaced, and it sends one message

pub tag_is : (s : Fabric) (n : ℕ) (v : Node) → n < length s.nodes → v.now ≡ (node_at s n).now →
    (node_at (with_node s n v) n).now ≡ (node_at s n).now
tag_is s n v l e = replaced_at (λ x. x.now) s n n v l ∙ set_self (λ m. (node_at s m).now) n n v.now e

abbrev pub sends : Fabric → ℕ → ℕ → Out → Sent
sends s n about out = message_of s.net n (node_at s n).now about out

abbrev pub routes_with : Fabric → ℕ → Node → Switches
routes_with s n v = routes_of (with_node s n v)

module _ (s : Fabric) (t : GhostState) (n b about : ℕ) (v : Node) (out : Out) (answer : Answer) (l : n < length s.nodes) (home : IsSameAtHome b v (node_at s n)) (now : v.now ≡ (node_at s n).now) where
  pub sent_same : (c : Block) →
      IsSame (carried_by (block_with_node (block_seen s t b) b n v) b (net_after_send (routes_with s n v) s.net (sends s n about out)))
      (without_lost c (is_lost (routes_with s n v) s.net (sends s n about out)) s.net.next_id) →
      IsSame (block_seen (sending (with_node s n v) n about (out ∷ []) answer).fabric t b)
      (losing c (lost_at_once (sending (with_node s n v) n about (out ∷ []) answer).sent))
  sent_same c h =
      subst (λ tag. IsSame (block_seen (record (with_node s n v) { net = net_after_sends (routes_with s n v) s.net n tag about (out ∷ []) }) t b)
      (losing c (lost_at_once (sent_by (routes_with s n v) s.net n tag about (out ∷ [])))))
      (sym (tag_is s n v l now))
      (lost_same _ c (is_lost (routes_with s n v) s.net (sends s n about out)) s.net.next_id
      (same_then _ (carried_by (block_with_node (block_seen s t b) b n v) b (net_after_send (routes_with s n v) s.net (sends s n about out))) _
      (node_changed s t n b v (net_after_send (routes_with s n v) s.net (sends s n about out)) l home) h))

pub own_block : (b : ℕ) → nat_eq b b ≡ true
own_block b = grind (arith, nat_tests)

pub other_block : (b o : ℕ) → o ≢ b → nat_eq b o ≡ false
other_block b o n = grind (arith, nat_tests)
