-- What a checkpoint of the machine stands for, and what a recovery leaves: both tied to a state of the flat machine.
use Rattle.std.specs.Prelude.{◌≡◌, ◌≢◌, ℕ, ◌-◌, ◌*◌, ◌<◌, ◌≤◌, List, [], length, take, drop, slice_get, slice_index, Some, None}
use Rattle.rv_core.specs.declared.state.CoreState.{CoreState}
use Rattle.rv_core.specs.Core.{bare}
use Rattle.rv_core.specs.Flat.{FlatState, core_at}
use Rattle.rv_core.specs.Execution.{in_of}
use Rattle.sn_model.specs.declared.cache.LineState.TheVariants.{Absent, Modified}
use Rattle.sn_model.specs.Caches.{line_of, block_count}
use Rattle.sn_model.specs.Homes.{Holder, Itself, OfCache, no_sharers}
use Rattle.sn_model.specs.Fabric.{Fabric, Node, node_at, home_of}
use Rattle.sn_model.specs.Cuts.{holds_at, names_at}
use Rattle.sn_model.specs.Machine.{State, Processor, processor_at}
use Rattle.sn_model.specs.Instructions.{taken_by}

-- a block of the flat machine's memory
abbrev pub block_in : List ℕ → ℕ → List ℕ
block_in memory block = take 64 (drop (64 * block) memory)

-- the node keeps register checkpoint k, and it is this core in its program counter, registers and end, without a
-- reservation
pub record KeepsCheckpoint (node : Node) (processor : Processor) (k : ℕ) (core : CoreState) : Type 0 where
  pub kept : node.known ≤ k
  pub reached : k ≤ node.now
  pub same : slice_get processor.checkpoints (k - node.known) ≡ Some (bare core)

-- exactly one holder: the home itself, which names itself, while no cache holds the block; or the one cache that it names
abbrev pub HasOneHolderWith : Fabric → ℕ → ℕ → List ℕ → Holder → Type 0
HasOneHolderWith s block k content (Itself named) = (named ≡ content) × ((n : ℕ) → n < length s.nodes → holds_at s n block k ≡ None)
HasOneHolderWith s block k content (OfCache owner) =
    (owner < length s.nodes) × (holds_at s owner block k ≡ Some content)
    × ((n : ℕ) → n < length s.nodes → n ≢ owner → holds_at s n block k ≡ None)

-- checkpoint k of the machine is this state of the flat machine: each register checkpoint, and one holder of each block
-- with its content there
pub record IsCut (s : State) (k : ℕ) (flat : FlatState) : Type 0 where
  pub cores : (n : ℕ) → n < length s.fabric.nodes → KeepsCheckpoint (node_at s.fabric n) (processor_at s n) k (core_at flat n)
  pub blocks : (block : ℕ) → block < block_count →
      HasOneHolderWith s.fabric block k (block_in flat.memory block) (names_at s.fabric block k)

-- a node after a recovery to its point: nothing of a transaction is left
pub record IsRestoredNode (node : Node) (point : ℕ) : Type 0 where
  pub now : node.now ≡ point
  pub known : node.known ≡ point
  pub log : node.log ≡ []
  pub miss : node.cache.miss ≡ None
  pub put : node.cache.put ≡ None

-- a block after a recovery: its home or one cache has it, in Modified and with this content, and no other cache has a line
abbrev pub IsOwned : Fabric → ℕ → List ℕ → Holder → Type 0
IsOwned s block content (Itself named) =
    (named ≡ content) × ((n : ℕ) → n < length s.nodes → (line_of (node_at s n).cache block).state ≡ Absent)
IsOwned s block content (OfCache owner) =
    (owner < length s.nodes) × (line_of (node_at s owner).cache block ≡ record { state = Modified; content = content })
    × ((n : ℕ) → n < length s.nodes → n ≢ owner → (line_of (node_at s n).cache block).state ≡ Absent)

-- the machine begins at its recovery point with this state of the flat machine: each core is its checkpoint, a node has
-- taken just what its committed records read, and nothing is in flight or waits
pub record IsRestored (s : State) (flat : FlatState) : Type 0 where
  pub nodes : (n : ℕ) → n < length s.fabric.nodes → IsRestoredNode (node_at s.fabric n) s.fabric.point
  pub registers : (n : ℕ) → n < length s.fabric.nodes → (processor_at s n).core ≡ bare (core_at flat n)
  pub reported : (n : ℕ) → n < length s.fabric.nodes → slice_index s.reported n ≡ s.fabric.point
  pub taken : (n : ℕ) → n < length s.fabric.nodes → taken_by s n ≡ length (in_of n s.committed)
  pub blocks : (block : ℕ) → block < block_count → IsOwned s.fabric block (block_in flat.memory block) (home_of s.fabric block).holder
  pub sharers : (block : ℕ) → block < block_count → (home_of s.fabric block).sharers ≡ no_sharers
  pub transactions : (block : ℕ) → block < block_count → (home_of s.fabric block).transaction ≡ None
  pub net : s.fabric.net.flights ≡ []
  pub pending : s.pending ≡ []
  pub held : s.held ≡ []
