-- How many records of a list, from its first on, each projection passes.
use Rattle.std.specs.Prelude.{ℕ, ◌<◌, ◌≤◌, List, suc, take}
use Rattle.rv_core.specs.declared.step.Record.{Record}
use Rattle.sn_base.specs.Image.{ImageData}
use Rattle.rv_core.specs.Flat.{FlatState, core_at}
use Rattle.sn_consistency.specs.Projections.{CoreGood, BlockGood, block_of_state, entries}

-- the first p are good, and p is the limit, or the first p + 1 are not
pub record Passes (Good : ℕ → Type 0) (limit p : ℕ) : Type 0 where
  pub within : p ≤ limit
  pub good : Good p
  pub bad : p < limit → Good (suc p) → ⊥

-- what holds of more records holds of fewer
abbrev pub HoldsOfFewer : (ℕ → Type 0) → Type 0
HoldsOfFewer Good = (k m : ℕ) → k ≤ m → Good m → Good k

-- core n replays its own of the first k records alone
abbrev pub CorePasses : ImageData → ℕ → ℕ → FlatState → List Record → ℕ → Type 0
CorePasses image N n s rs k = CoreGood image N n (core_at s n) (take k rs)

-- each core does
abbrev pub CoresPass : ImageData → ℕ → FlatState → List Record → ℕ → Type 0
CoresPass image N s rs k = (n : ℕ) → CorePasses image N n s rs k

-- each access to block b among the first k records finds what the earlier ones leave
abbrev pub BlockPasses : ImageData → ℕ → FlatState → List Record → ℕ → Type 0
BlockPasses image b s rs k = BlockGood image b (block_of_state s b) (entries image (core_at s) (take k rs))

-- each access to each block does
abbrev pub BlocksPass : ImageData → FlatState → List Record → ℕ → Type 0
BlocksPass image s rs k = (b : ℕ) → BlockPasses image b s rs k
