-- The register checkpoints of a node, by their numbers.
use Rattle.std.specs.Prelude.{ℕ, ◌+◌, ◌-◌, ◌<◌, ◌≤◌, ◌^◌, List, length, take, drop, max, Option, None, slice_get}
pub use Rattle.rv_core.specs.declared.state.CoreState.{CoreState}

-- the number of the oldest checkpoint that is kept, and the cores, one for each number from there on
pub record Checkpoints : Type 0 where
  pub first : ℕ
  pub cores : List CoreState

-- a core as a checkpoint keeps it
abbrev pub without_reservation : CoreState → CoreState
without_reservation core = record core { reservation = None }

-- the number after that of the newest checkpoint
abbrev pub next : Checkpoints → ℕ
next kept = kept.first + length kept.cores

-- checkpoint k is kept
pub record HasCheckpoint (kept : Checkpoints) (k : ℕ) : Type 0 where
  pub from : kept.first ≤ k
  pub below : k < next kept

-- the core of checkpoint k
abbrev pub core_at : Checkpoints → ℕ → Option CoreState
core_at kept k = slice_get kept.cores (k - kept.first)

-- without the checkpoints below k, and without those above it
abbrev pub freed_below : Checkpoints → ℕ → Checkpoints
freed_below kept k = record { first = max kept.first k; cores = drop (k - kept.first) kept.cores }

abbrev pub dropped_above : Checkpoints → ℕ → Checkpoints
dropped_above kept k = record kept { cores = take (k + 1 - kept.first) kept.cores }

-- at least one checkpoint is kept, and at most five
pub record IsWithin (kept : Checkpoints) : Type 0 where
  pub some : 1 ≤ length kept.cores
  pub few : length kept.cores ≤ 5
  pub numbers : next kept ≤ 2 ^ 32
