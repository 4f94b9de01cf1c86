-- What an event of the fabric is for one block: a row or another event of that block, and then the loss of what was lost
-- at once in a dead entry switch; for the other blocks a loss and new numbers.
use Rattle.std.specs.Prelude.{◌≡◌, ℕ, ◌<◌, ◌≤◌, if◌then◌else◌, List, [], ◌∷◌, length, ⊤}
use Rattle.sn_base.specs.declared.event.Answer.TheVariants.{Delivered}
use Rattle.sn_msg.specs.declared.Message.{Message}
use Rattle.sn_msg.specs.declared.Body.{Body}
use Rattle.sn_msg.specs.declared.Body.TheVariants.{FwdGetS, FwdGetM, Inv}
use Rattle.sn_model.specs.declared.net.Sent.{Sent}
use Rattle.sn_model.specs.Caches.{block_count}
use Rattle.sn_model.specs.CacheRows.{CacheReply}
use Rattle.sn_model.specs.HomeRows.{HomeReply}
use Rattle.sn_model.specs.Fabric.{Fabric, Flight, node_at, with_node, home_of, FabricStep, with_net}
use Rattle.sn_model.specs.Net.{without_flight, sending}
use Rattle.sn_model.specs.NetEvents.{node_after, home_after, copy_lost}
use Rattle.sn_coherence.specs.Block.{Block, set, set_row}
use Rattle.sn_coherence.specs.OtherEvents.{lose, numbers_elsewhere}
use Rattle.fabric_coherence.specs.View.{GhostState, net_seen, message_seen}
use Rattle.fabric_coherence.specs.Flights.{Rising}

-- the fabric after a row of a cache, and after a row of a home, for a message
abbrev pub after_cache : Fabric → Message → CacheReply → FabricStep
after_cache s m reply =
    record (sending (with_net (with_node s m.to (node_after (node_at s m.to) reply))
    (without_flight s.net m.id)) m.to m.block reply.sends Delivered) {
      told = copy_lost m.to reply;
    }

abbrev pub after_home : Fabric → Message → HomeReply → FabricStep
after_home s m reply = sending (with_net (home_after s m.to m.block reply) (without_flight s.net m.id)) m.to m.block reply.sends Delivered

-- what the proof alone knows, where one block goes on to another
abbrev pub ghost_with : GhostState → ℕ → Block → GhostState
ghost_with t b block = record t { stage = set t.stage b block.stage; at = set t.at b block.at; waited = set_row t.waited b block.waited }

-- the numbers of the messages that were lost at once
abbrev pub lost_at_once : List Sent → List ℕ
lost_at_once [] = []
lost_at_once (sent ∷ sents) = if sent.lost then sent.message.id ∷ lost_at_once sents else lost_at_once sents

-- the block after it loses these messages
abbrev pub losing : Block → List ℕ → Block
losing block [] = block
losing block (id ∷ ids) = losing (lose block id) ids

-- another block: message i is no longer there, and so many numbers were taken
abbrev pub elsewhere : Block → ℕ → ℕ → Block
elsewhere block i count = numbers_elsewhere (lose block i) count

-- the shape of the fabric's lists

-- all numbers in flight are below this one
abbrev pub Below : List Flight → ℕ → Type 0
Below [] next = ⊤
Below (f ∷ fs) next = (f.message.id < next) × Below fs next

-- the node that a message names beside its sender and receiver
abbrev pub node_in_body : Body → ℕ
node_in_body (FwdGetS r) = r
node_in_body (FwdGetM r due) = r
node_in_body (Inv r) = r
node_in_body _ = 0

-- each message is between nodes that are there, about a block of memory
abbrev pub Within : List Flight → ℕ → Type 0
Within [] nodes = ⊤
Within (f ∷ fs) nodes =
    ((f.message.from < nodes) × (f.message.to < nodes) × (f.message.block < block_count) × (node_in_body f.message.body < nodes)) × Within fs nodes

pub record IsShaped (s : Fabric) : Type 0 where
  pub some : 1 ≤ length s.nodes
  pub few : length s.nodes ≤ 16
  pub lines : (n : ℕ) → n < length s.nodes → length (node_at s n).cache.lines ≡ block_count
  pub homes : length s.homes ≡ block_count
  pub sharers : (b : ℕ) → b < block_count → length (home_of s b).sharers ≡ 16
  pub below : Below s.net.flights s.net.next_id
  pub within : Within s.net.flights (length s.nodes)
  pub rising : Rising s.net.flights

-- a message that is in flight: its block sees it under its number, and it is between nodes that are there
pub record IsInFlight (s : Fabric) (m : Message) : Type 0 where
  pub seen : net_seen m.block s.net.flights m.id ≡ message_seen m m.body
  pub known : m.id < s.net.next_id
  pub from : m.from < length s.nodes
  pub to : m.to < length s.nodes
  pub block : m.block < block_count
