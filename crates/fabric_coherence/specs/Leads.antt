-- How one block goes on to another by its own events, and the fabric with all its blocks.
use Rattle.std.specs.Prelude.{◌≡◌, ◌⊎◌, ℕ, ◌<◌, Bool, length}
use Rattle.sn_model.specs.Caches.{block_count}
use Rattle.sn_model.specs.Fabric.{Fabric, FabricStep}
use Rattle.sn_coherence.specs.Block.{Block, has_frame}
use Rattle.sn_coherence.specs.Invariant.{BlockInvariant}
use Rattle.sn_coherence.specs.RecordsInvariant.{RecordsInvariant}
use Rattle.sn_coherence.specs.Records.{Records}
use Rattle.fabric_coherence.specs.View.{GhostState, block_seen}
use Rattle.fabric_coherence.specs.Steps.{IsShaped}
use Rattle.fabric_coherence.specs.Recorded.{heard_by}

-- block b leads to block c, and f is what becomes of its records: all sentences that hold before hold after
pub record Leads (N : ℕ) (b : Block) (f : Records → Records) (c : Block) : Type 0 where
  pub kept : BlockInvariant N b → BlockInvariant N c
  pub records : (r : Records) → BlockInvariant N b → RecordsInvariant b r → RecordsInvariant c (f r)

-- whether a block has a frame of node n
abbrev pub is_framed : Block → ℕ → Bool
is_framed block n = has_frame (block.line n) (block.miss n).want

-- at each edge of a node those blocks had frames that had them before, or, at a new edge, those that have them
abbrev pub KeepsFrames : Fabric → GhostState → GhostState → Type 0
KeepsFrames s t u = (n j : ℕ) → ((b : ℕ) → u.framed b n j ≡ t.framed b n j) ⊎ ((b : ℕ) → u.framed b n j ≡ is_framed (block_seen s t b) n)

-- the fabric goes on, and each block leads to what it is then; u is what stands beside the fabric after that
pub record Goes (s : Fabric) (t : GhostState) (f : ℕ → Records → Records) (after : Fabric) (u : GhostState) : Type 0 where
  pub shape : IsShaped after
  pub count : length after.nodes ≡ length s.nodes
  pub frames : KeepsFrames s t u
  pub blocks : (b : ℕ) → b < block_count → Leads (length s.nodes) (block_seen s t b) (f b) (block_seen after u b)

-- the fabric goes on to what an event comes to, and the records hear what it tells
abbrev pub Moves : Fabric → GhostState → FabricStep → Type 0
Moves s t moved = (u : GhostState) × Goes s t (heard_by moved.told) moved.fabric u
