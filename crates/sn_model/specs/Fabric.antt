-- The fabric as a value: what carries and keeps the blocks. A map from blocks is a list in order of block numbers, and what
-- nodes have stands in order of their numbers; a look-up past the end gives something that is nobody's. It knows no core.
use Rattle.std.specs.Prelude.{ℕ, zero, suc, ◌+◌, ◌*◌, ◌%◌, Bool, false, List, [], ◌∷◌, ◌++◌, slice_index_or, slice_set, replicate, length}
use Rattle.std.specs.Prelude.{Option, None}
use Rattle.sn_base.specs.Blocks.{ram_start}
use Rattle.sn_base.specs.Image.{ImageData, bytes_from}
use Rattle.sn_base.specs.declared.log.LogEntry.{LogEntry}
use Rattle.sn_base.specs.declared.event.Answer.{Answer}
use Rattle.sn_msg.specs.declared.Message.{Message}
use Rattle.sn_model.specs.declared.net.Sent.{Sent}
use Rattle.sn_model.specs.declared.net.News.{News}
use Rattle.sn_model.specs.Caches.{Cache, Line, line_of, empty_cache, block_count}
use Rattle.sn_model.specs.Homes.{HomeEntry, Itself, no_sharers}

-- a node: its interval, the recovery point that it knows, its cache, and its log of both sides
pub record Node : Type 0 where
  pub now : ℕ
  pub known : ℕ
  pub cache : Cache
  pub log : List LogEntry

-- a message in flight, and the switch in which it stands
pub record Flight : Type 0 where
  pub message : Message
  pub place : ℕ

-- the network: the messages in flight in order of their numbers, a mark for each dead switch, the marks that stood when
-- the routes were made, and the number of the next message
pub record Net : Type 0 where
  pub flights : List Flight
  pub dead : List Bool
  pub planned : List Bool
  pub next_id : ℕ

-- the fabric: its nodes; the home entry of each block; the network; and the recovery point
pub record Fabric : Type 0 where
  pub nodes : List Node
  pub homes : List HomeEntry
  pub net : Net
  pub point : ℕ

-- the start: every block is owned by its home, and all numbers are 0

abbrev pub first_node : Node
first_node = record { now = 0; known = 0; cache = empty_cache; log = [] }

-- the bytes that a program gives a block
abbrev pub initial_block : ImageData → ℕ → List ℕ
initial_block image block = bytes_from 64 image.segments (ram_start + 64 * block)

abbrev pub first_home : ImageData → ℕ → HomeEntry
first_home image block = record { holder = Itself (initial_block image block); sharers = no_sharers; transaction = None }

abbrev pub homes_below : ℕ → ImageData → List HomeEntry
homes_below zero image = []
homes_below (suc block) image = homes_below block image ++ first_home image block ∷ []

unfoldable pub first_homes : ImageData → List HomeEntry
first_homes image = homes_below block_count image

abbrev pub no_switches : List Bool
no_switches = replicate 32 false

abbrev pub first_fabric : ImageData → ℕ → Fabric
first_fabric image nodes = record {
  nodes = replicate nodes first_node;
  homes = first_homes image;
  net = record { flights = []; dead = no_switches; planned = no_switches; next_id = 1 };
  point = 0;
}

-- look-ups

abbrev pub node_at : Fabric → ℕ → Node
node_at s n = slice_index_or s.nodes n first_node

-- the line of a block in a node's cache
abbrev pub line_of_node : Fabric → ℕ → ℕ → Line
line_of_node s n b = line_of (node_at s n).cache b

abbrev pub with_node : Fabric → ℕ → Node → Fabric
with_node s n node = record s { nodes = slice_set s.nodes n node }

abbrev pub no_entry : HomeEntry
no_entry = record { holder = Itself []; sharers = no_sharers; transaction = None }

abbrev pub home_of : Fabric → ℕ → HomeEntry
home_of s block = slice_index_or s.homes block no_entry

abbrev pub with_home : Fabric → ℕ → HomeEntry → Fabric
with_home s block entry = record s { homes = slice_set s.homes block entry }

-- the node whose home keeps a block
abbrev pub home_node : Fabric → ℕ → ℕ
home_node s block = block % length s.nodes

abbrev pub with_net : Fabric → Net → Fabric
with_net s net = record s { net = net }

-- what an event of the fabric comes to: the fabric after it, its answer, the messages sent, and what the layer above has
-- to hear of it
pub record FabricStep : Type 0 where
  pub fabric : Fabric
  pub answer : Answer
  pub sent : List Sent
  pub told : Option News

-- the answer of an event that changes nothing
abbrev pub step_refused : Fabric → Answer → FabricStep
step_refused s answer = record { fabric = s; answer = answer; sent = []; told = None }

-- the answer of an event that sends nothing
abbrev pub step_with_answer : Fabric → Answer → FabricStep
step_with_answer s answer = record { fabric = s; answer = answer; sent = []; told = None }
