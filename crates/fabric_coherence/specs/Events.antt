-- When an event of the fabric can happen. What is delivered, lost or killed may be anything.
use Rattle.std.specs.Prelude.{◌≡◌, ℕ, ◌+◌, ◌<◌, true, false, length}
use Rattle.sn_base.specs.declared.block.Write.{Write as Written}
use Rattle.rv_core.specs.Core.{block_of}
use Rattle.sn_model.specs.Access.{has_miss}
use Rattle.sn_model.specs.Fabric.{Fabric, node_at}
use Rattle.sn_model.specs.Caches.{block_count, line_of, is_writable_state, puts_on}
use Rattle.sn_model.specs.FabricEvents.{FabricEvent, Access, Write, Evict, Edge, Report, Advance, Recover}
use Rattle.fabric_coherence.specs.Coherent.{NothingUnfinished}

-- node n can use its line of block b: it has no miss open, and no put of the block
pub record CanUse (s : Fabric) (n b : ℕ) : Type 0 where
  pub node : n < length s.nodes
  pub block : b < block_count
  pub no_miss : has_miss (node_at s n).cache.miss ≡ false
  pub no_put : puts_on (node_at s n).cache.put b ≡ false

-- node n can write what w says: besides, the line of its block may be written
pub record CanWrite (s : Fabric) (n : ℕ) (w : Written) : Type 0 where
  pub line : CanUse s n (block_of w.address)
  pub writable : is_writable_state (line_of (node_at s n).cache (block_of w.address)).state ≡ true

abbrev pub MayBe : Fabric → FabricEvent → Type 0
MayBe s (Access n block need) = (n < length s.nodes) × (block < block_count)
MayBe s (Write n w) = CanWrite s n w
MayBe s (Evict n block) = (n < length s.nodes) × (block < block_count)
MayBe s (Edge n) = n < length s.nodes
MayBe s (Report n) = n < length s.nodes
MayBe s (Advance k) = (k ≡ s.point + 1) × NothingUnfinished s k
MayBe s (Recover k) = k ≡ s.point
MayBe s _ = Unit {0}
