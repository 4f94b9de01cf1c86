-- The coherence theorem's sentences of every block of the fabric.
use Rattle.std.specs.Prelude.{◌≡◌, ℕ, ◌+◌, ◌<◌, ◌≤◌, false, length}
use Rattle.sn_model.specs.Caches.{block_count}
use Rattle.sn_model.specs.Cuts.{is_unfinished}
use Rattle.sn_model.specs.Fabric.{Fabric, node_at}
use Rattle.sn_coherence.specs.Invariant.{BlockInvariant}
use Rattle.fabric_coherence.specs.View.{GhostState, block_seen}
use Rattle.fabric_coherence.specs.Steps.{IsShaped}

-- the fabric's lists have their shape, and of each block all sentences hold, with this beside the fabric
pub record FabricInvariant (s : Fabric) (t : GhostState) : Type 0 where
  pub shape : IsShaped s
  pub blocks : (b : ℕ) → b < block_count → BlockInvariant (length s.nodes) (block_seen s t b)

-- the same with something beside it
abbrev pub Keeps : Fabric → Type 0
Keeps s = (t : GhostState) × FabricInvariant s t

-- each node has reached k, and nothing that was begun in an interval below k is unfinished
pub record NothingUnfinished (s : Fabric) (k : ℕ) : Type 0 where
  pub now : (n : ℕ) → n < length s.nodes → k ≤ (node_at s n).now
  pub none : is_unfinished s k ≡ false

-- a node knows a point that is at most the recovery point, which its interval has reached; and it has at most four
-- checkpoints above the point that it knows
pub record IsInTime (s : Fabric) (n : ℕ) : Type 0 where
  pub known : (node_at s n).known ≤ s.point
  pub reached : s.point ≤ (node_at s n).now
  pub few : (node_at s n).now ≤ (node_at s n).known + 4
