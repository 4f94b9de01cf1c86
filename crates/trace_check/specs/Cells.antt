-- A block as the checker keeps it: its bytes, and which cores may still do a store-conditional of it.
use Rattle.std.specs.Prelude.{◌≡◌, ℕ, ◌-◌, ◌*◌, ◌/◌, ◌%◌, Bool, true, false, not, ◌&&◌, ◌||◌, if◌then◌else◌, ◌==◌, List, drop, is_some}
use Rattle.byteorder.specs.Endian.{little_number}
use Rattle.sn_base.specs.Blocks.{ram_start}
use Rattle.sn_base.specs.Nodes.{has_node}
use Rattle.rv_core.specs.declared.step.Record.{Record}
use Rattle.rv_core.specs.declared.step.Want.{Want}
use Rattle.rv_core.specs.declared.step.Want.TheVariants.{Nothing, Load, Store, Amo, Lr, Sc, Input}
use Rattle.rv_core.specs.Wanted.{wanted_address}
use Rattle.sn_consistency.specs.Words.{write_block}
use Rattle.sn_consistency.specs.Projections.{BlockState}
use Rattle.trace_check.specs.declared.cell.Cell.{Cell}
use Rattle.trace_check.specs.EffectData.{EffectData}
use Rattle.trace_check.specs.TaggedEffects.{reads_memory}

abbrev pub is_lr : Want → Bool
is_lr Nothing = false
is_lr (Load address) = false
is_lr (Store address) = false
is_lr (Amo address) = false
is_lr (Lr address) = true
is_lr (Sc address) = false
is_lr Input = false

abbrev pub is_sc : Want → Bool
is_sc Nothing = false
is_sc (Load address) = false
is_sc (Store address) = false
is_sc (Amo address) = false
is_sc (Lr address) = false
is_sc (Sc address) = true
is_sc Input = false

-- the aligned word that holds an address, in its block
abbrev pub word_in : List ℕ → ℕ → ℕ
word_in content address = little_number 4 (drop ((address - ram_start) % 64 / 4 * 4) content)

-- an access to the block that the cell has: it saw what is there, and where it is a store-conditional that was done, no
-- other core has written the block since its core's last LR of it
abbrev pub Finds : Cell → Want → Record → Type 0
Finds cell want r =
    (reads_memory want ≡ true → r.seen ≡ word_in cell.content (wanted_address want))
    × (is_sc want ≡ true → r.sc_done ≡ true → has_node cell.intact r.core ≡ true)

-- for which cores the block is untouched by others, after an access of a core: an LR begins it for its core, a write ends
-- it for the others
abbrev pub still_intact : List Bool → ℕ → Bool → Bool → ℕ → Bool
still_intact intact core reserves writes n =
    if n == core then has_node intact n || reserves else has_node intact n && not writes

-- the cell of a block that stands so
pub record Stands (cell : Cell) (v : BlockState) : Type 0 where
  pub content : cell.content ≡ v.content
  pub intact : (n : ℕ) → has_node cell.intact n ≡ v.intact n

-- a cell after an access to its block
abbrev pub IsAfter : Cell → EffectData → Record → Cell → Type 0
IsAfter old effect r new =
    (new.content ≡ write_block effect.write old.content)
    × ((n : ℕ) → has_node new.intact n ≡ still_intact old.intact r.core (is_lr effect.want) (is_some effect.write) n)
