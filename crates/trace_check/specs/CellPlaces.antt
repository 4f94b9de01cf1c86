-- Where the cells of blocks are kept.
use Rattle.std.specs.Prelude.{◌≡◌, ◌≢◌, ℕ, suc, ◌+◌, ◌*◌, ◌↔◌, Bool, true, false, IsTrue, if◌then◌else◌, ◌==◌, [], length, get_or}
use Rattle.std.specs.Prelude.{replicate}
use Rattle.sn_base.specs.Blocks.{ram_start}
use Rattle.sn_base.specs.Image.{ImageData, bytes_from}
use Rattle.rv_core.specs.declared.step.Record.{Record}
use Rattle.trace_check.specs.declared.cell.Cell.{Cell}
use Rattle.trace_check.specs.declared.cells.BlockCell.{BlockCell}
use Rattle.trace_check.specs.declared.cells.Cells.{Cells}
use Rattle.trace_check.specs.Cells.{Finds, IsAfter}
use Rattle.trace_check.specs.EffectData.{EffectData}
use Rattle.trace_check.specs.Tags.{wanted_block}

-- a block's cell at the start: the bytes that the program gives it, and no core has an LR of it
abbrev pub first_cell : ImageData → ℕ → Cell
first_cell image block = record { content = bytes_from 64 image.segments (ram_start + 64 * block); intact = replicate 16 false }

-- what is at a place that there is not: a cell of another block
abbrev pub missing : ℕ → BlockCell
missing block = record { block = suc block; cell = record { content = []; intact = [] } }

-- a block's cell by what is at its place
abbrev pub cell_by : ImageData → ℕ → BlockCell → Cell
cell_by image block kept = if kept.block == block then kept.cell else first_cell image block

-- a block's cell: the one that is kept for it, or that at the start
abbrev pub cell_at : ImageData → Cells → ℕ → Cell
cell_at image cells block = cell_by image block (get_or cells.kept.items (get_or cells.places.items block 0) (missing block))

-- each block has a place
abbrev pub IsWide : Cells → Type 0
IsWide cells = length cells.places.items ≡ 65536

-- an access is replayed: whether it finds what the earlier ones left, and if so, what it leaves
pub record IsReplay (image : ImageData) (old : Cells) (effect : EffectData) (r : Record) (found : Bool) (new : Cells) : Type 0 where
  pub finds : IsTrue found ↔ Finds (cell_at image old (wanted_block effect.want)) effect.want r
  pub after : found ≡ true → IsAfter (cell_at image old (wanted_block effect.want)) effect r (cell_at image new (wanted_block effect.want))
  pub others : (b : ℕ) → b ≢ wanted_block effect.want → cell_at image new b ≡ cell_at image old b
