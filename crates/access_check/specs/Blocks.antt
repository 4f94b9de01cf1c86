-- Memory as the judge keeps it, and the memory that it stands for.
use Rattle.std.specs.Prelude.{◌≡◌, ℕ, ◌<◌, Bool, not, ◌&&◌, ◌||◌, if◌then◌else◌, ◌==◌, List, length, get_or, Option}
use Rattle.sn_base.specs.Nodes.{has_node}
use Rattle.sn_consistency.specs.Projections.{BlockState}
use Rattle.access_check.specs.declared.cell.Cell.{Cell}
use Rattle.access_check.specs.declared.blocks.Blocks.{Blocks}
use Rattle.access_check.specs.Legal.{MemoryState}

-- a cell has what its block has
pub record Stands (cell : Cell) (v : BlockState) : Type 0 where
  pub content : cell.content ≡ v.content
  pub intact : (n : ℕ) → has_node cell.intact n ≡ v.intact n

-- there is a cell for each block
abbrev pub IsWide : Blocks → Type 0
IsWide blocks = length blocks.cells.items ≡ 65536

-- the cells and the reservations are those of this memory
pub record Shows (blocks : Blocks) (m : MemoryState) : Type 0 where
  pub cells : (b : ℕ) (d : Cell) → b < 65536 → Stands (get_or blocks.cells.items b d) (m.blocks b)
  pub reserved : (n : ℕ) (d : Option ℕ) → n < 16 → get_or blocks.reserved n d ≡ m.reserved n

-- for which cores a block is intact after an access of a core: an LR begins it for its core, a write ends it for the others
abbrev pub still_intact : List Bool → ℕ → Bool → Bool → ℕ → Bool
still_intact intact core reserves writes n =
    if n == core then has_node intact n || reserves else has_node intact n && not writes
