-- What the fabric's code relies on to do each event without a refusal of its own: how much its logs, its network and its
-- caches hold at most, now and at each checkpoint that a recovery may go back to.
use Rattle.std.specs.Prelude.{◌≡◌, ℕ, ◌<◌, ◌≤◌, Bool, true, false, List, [], ◌∷◌, length, ⊤}
use Rattle.sn_base.specs.declared.config.Config.{Config}
use Rattle.sn_msg.specs.declared.Body.{Body}
use Rattle.sn_msg.specs.declared.Body.TheVariants.{DataS, DataM, DataE}
use Rattle.rv_core.specs.Core.{block_of}
use Rattle.sn_model.specs.declared.cache.Need.TheVariants.{Write as ToWrite}
use Rattle.sn_model.specs.Access.{lacks_room}
use Rattle.sn_model.specs.Caches.{Cache, block_count, takes_frame, FitsSets}
use Rattle.sn_model.specs.Fabric.{Fabric, Node, node_at}
use Rattle.sn_model.specs.FabricEvents.{FabricEvent, Write, moved_by}
use Rattle.sn_model.specs.Net.{net_limit}
use Rattle.sn_model.specs.PointEvents.{restored_cache}
use Rattle.fabric_coherence.specs.Coherent.{FabricInvariant}
use Rattle.fabric_coherence.specs.Events.{MayBe}
use Rattle.fabric_coherence.specs.View.{GhostState}

-- a cache fits: in no set more blocks take a frame than it has ways
abbrev pub CacheFits : Config → Cache → Type 0
CacheFits config cache = FitsSets cache config.sets config.ways

-- the cache that a recovery to checkpoint k leaves a node
abbrev pub cache_at : Node → ℕ → Cache
cache_at node k = restored_cache node.log k node.cache

-- the blocks that had frames of node n at its edge to interval j are some that fit: those of a cache that does
abbrev pub EdgeFits : Config → GhostState → ℕ → ℕ → Type 0
EdgeFits config t n j =
    (cache : Cache) × CacheFits config cache × ((b : ℕ) → b < block_count → t.framed b n j ≡ true → takes_frame cache b ≡ true)

-- no log has more entries than it may, no more messages are in flight than may be, each cache fits, and so did the blocks
-- that had frames at each edge
pub record IsBounded (config : Config) (s : Fabric) (t : GhostState) : Type 0 where
  pub logs : (n : ℕ) → n < length s.nodes → length (node_at s n).log ≤ config.log
  pub net : length s.net.flights ≤ net_limit
  pub frames : (n : ℕ) → n < length s.nodes → CacheFits config (node_at s n).cache
  pub edges : (n j : ℕ) → n < length s.nodes → EdgeFits config t n j

-- all sentences of coherence and these bounds, with something beside the fabric
abbrev pub KeepsBounds : Config → Fabric → Type 0
KeepsBounds config s = (t : GhostState) × FabricInvariant s t × IsBounded config s t

-- a write was served: the log has the room for what it notes
abbrev pub HasLogRoom : Config → Fabric → FabricEvent → Type 0
HasLogRoom config s (Write n w) = lacks_room config (node_at s n) (block_of w.address) ToWrite ≡ false
HasLogRoom config s _ = ⊤

-- each event of the list can happen when its turn comes, and each write was served
abbrev pub IsServedRun : Config → Fabric → List FabricEvent → Type 0
IsServedRun config s [] = ⊤
IsServedRun config s (event ∷ events) =
    (MayBe s event × HasLogRoom config s event) × IsServedRun config (moved_by config s event).fabric events

-- the messages that bring a line to a cache
abbrev pub brings_line : Body → Bool
brings_line (DataS content) = true
brings_line (DataM content due) = true
brings_line (DataE content) = true
brings_line _ = false
