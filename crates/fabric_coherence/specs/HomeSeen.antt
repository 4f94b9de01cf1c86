-- What a row of a home leaves, as equations at each place: of its own block, and of the logs.
use Rattle.std.specs.Prelude.{◌≡◌, ℕ, Bool, true, false, List, [], ◌∷◌, length, slice_index_or}
use Rattle.route_plan.specs.Distances.{Switches}
use Rattle.log_buffer.specs.Log.{LogEntry, logged_to}
use Rattle.sn_msg.specs.declared.Message.{Message as Sent}
use Rattle.sn_model.specs.HomeRows.{HomeReply, others}
use Rattle.sn_model.specs.Fabric.{Fabric, node_at}
use Rattle.sn_model.specs.Net.{net_after_sends, sent_by, without_flight}
use Rattle.sn_coherence.specs.Block.{Block, Message, Content, no_message, set}
use Rattle.sn_coherence.specs.Log.{was_owned, old_content, was_home, old_cache, told_at}
use Rattle.fabric_coherence.specs.View.{GhostState, block_seen, net_seen, is_itself, owner_of, content_of, kind_open, requester_of, begun_of}
use Rattle.sn_coherence.specs.Same.{IsSame}
use Rattle.fabric_coherence.specs.Sends.{targets}
use Rattle.fabric_coherence.specs.Steps.{after_home, ghost_with, losing, lost_at_once, elsewhere}

-- the net without these messages
abbrev pub net_losing : (ℕ → Message) → List ℕ → ℕ → Message
net_losing net [] = net
net_losing net (id ∷ ids) = net_losing (set net id no_message) ids

-- the block with the home's side, the net and the proof's own of another
abbrev pub with_home_side : Block → Block → Block
with_home_side b e = record b {
  at_home = e.at_home;
  owner = e.owner;
  home_content = e.home_content;
  sharers = e.sharers;
  kind = e.kind;
  requester = e.requester;
  begun = e.begun;
  net = e.net;
  next = e.next;
  named_home = e.named_home;
  named = e.named;
  home_held = e.home_held;
  home_last = e.home_last;
  stage = e.stage;
  at = e.at;
  waited = e.waited;
}

-- two logs say the same of the caches' side of a block, and of the home's side
pub record IsSameCaches (new old : List LogEntry) (b : ℕ) : Type 0 where
  pub holds : (now : Bool) (j : ℕ) → told_at was_owned new false b now j ≡ told_at was_owned old false b now j
  pub held : (now : Content) (j : ℕ) → told_at old_content new false b now j ≡ told_at old_content old false b now j
  pub last : logged_to new false b ≡ logged_to old false b

pub record IsSameHome (new old : List LogEntry) (b : ℕ) : Type 0 where
  pub named_home : (now : Bool) (j : ℕ) → told_at was_home new true b now j ≡ told_at was_home old true b now j
  pub named : (now j : ℕ) → told_at old_cache new true b now j ≡ told_at old_cache old true b now j
  pub home_held : (now : Content) (j : ℕ) → told_at old_content new true b now j ≡ told_at old_content old true b now j
  pub home_last : logged_to new true b ≡ logged_to old true b

-- what a row of a home leaves of its own block is the home's side of this one
pub record LeavesHome (s : Fabric) (m : Sent) (reply : HomeReply) (e : Block) : Type 0 where
  pub at_home : is_itself reply.after.entry.holder ≡ e.at_home
  pub owner : owner_of reply.after.entry.holder ≡ e.owner
  pub home_content : content_of reply.after.entry.holder ≡ e.home_content
  pub sharers : (n : ℕ) → slice_index_or reply.after.entry.sharers n false ≡ e.sharers n
  pub kind : kind_open reply.after.entry.transaction ≡ e.kind
  pub requester : requester_of reply.after.entry.transaction ≡ e.requester
  pub begun : begun_of reply.after.entry.transaction ≡ e.begun
  pub net : (routes : Switches) (i : ℕ) →
      net_seen m.block (net_after_sends routes (without_flight s.net m.id) m.to (node_at s m.to).now m.block reply.sends).flights i
      ≡ net_losing e.net (lost_at_once (sent_by routes (without_flight s.net m.id) m.to (node_at s m.to).now m.block reply.sends)) i
  pub next : (routes : Switches) →
      (net_after_sends routes (without_flight s.net m.id) m.to (node_at s m.to).now m.block reply.sends).next_id ≡ e.next
  pub named_home : (j : ℕ) → told_at was_home reply.after.log true m.block (is_itself reply.after.entry.holder) j ≡ e.named_home j
  pub named : (j : ℕ) → told_at old_cache reply.after.log true m.block (owner_of reply.after.entry.holder) j ≡ e.named j
  pub home_held : (j : ℕ) → told_at old_content reply.after.log true m.block (content_of reply.after.entry.holder) j ≡ e.home_held j
  pub home_last : logged_to reply.after.log true m.block ≡ e.home_last

-- the nodes that get an Inv, in order: the sharers beside this node
abbrev pub other_targets : List Bool → ℕ → ℕ → ℕ
other_targets sharers r k = slice_index_or (targets 0 (others sharers r)) k 0

-- a row of a home is this row of its block, and then the loss of what was lost at once
abbrev pub IsHomeRow : Fabric → GhostState → Sent → HomeReply → Block → Type 0
IsHomeRow s t m reply e =
    IsSame (block_seen (after_home s m reply).fabric (ghost_with t m.block e) m.block)
    (losing e (lost_at_once (after_home s m reply).sent))

-- another block sees that the message is gone, and that numbers were taken
abbrev pub IsHomeElsewhere : Fabric → GhostState → Sent → HomeReply → Block → ℕ → Type 0
IsHomeElsewhere s t m reply e o =
    IsSame (block_seen (after_home s m reply).fabric (ghost_with t m.block e) o) (elsewhere (block_seen s t o) m.id (length reply.sends))
