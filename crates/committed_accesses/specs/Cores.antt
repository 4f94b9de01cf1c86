-- The cores of a trace, and which records they may do.
use Rattle.std.specs.Prelude.{◌≡◌, ℕ, true, List, length, get_or, slice_set, Option, Some, None, is_some, Result, Ok}
use Rattle.sn_base.specs.Image.{ImageData}
use Rattle.sn_base.specs.declared.block.Width.TheVariants.{Word}
use Rattle.sn_base.specs.declared.block.Write.{Write}
use Rattle.rv_decode.specs.declared.instr.Instr.{Instr}
use Rattle.rv_decode.specs.declared.instr.Instr.TheVariants.{Sc as ScInstr}
use Rattle.rv_core.specs.declared.state.CoreState.{CoreState}
use Rattle.rv_core.specs.declared.state.Cause.{Cause}
use Rattle.rv_core.specs.declared.step.Record.{Record}
use Rattle.rv_core.specs.declared.step.Want.{Want}
use Rattle.rv_core.specs.declared.step.Want.TheVariants.{Sc}
use Rattle.rv_core.specs.Core.{start_of, register, is_running, is_input, holds_reservation}
use Rattle.rv_core.specs.Step.{want_of, next_of}
use Rattle.sn_consistency.specs.Projections.{CoreGood}

-- the cores, and the line that was written last
pub record RowsState : Type 0 where
  pub cores : List CoreState
  pub line : List ℕ

-- the core of a node; past the last node a core that is nobody's
abbrev pub core_in : List CoreState → ℕ → CoreState
core_in cores node = get_or cores node (start_of 0 0)

-- a core may do a record: it runs, a store-conditional is done only where its block is reserved, and a byte is read just where
-- one is wanted
pub record MayDo (image : ImageData) (core : CoreState) (r : Record) : Type 0 where
  pub running : is_running core.end ≡ true
  pub reserved : r.sc_done ≡ true → holds_reservation core (want_of image core) ≡ true
  pub byte : is_some r.read ≡ is_input (want_of image core)

-- the cores after a record
abbrev pub cores_after : ImageData → List CoreState → Record → List CoreState
cores_after image cores r = slice_set cores r.core (next_of image (core_in cores r.core) r.seen r.sc_done r.read).core

-- each core may do its own among the records, one after another
abbrev pub AreGood : ImageData → List CoreState → List Record → Type 0
AreGood image cores rs = (n : ℕ) → CoreGood image (length cores) n (core_in cores n) rs

-- what a store-conditional writes if it is done
abbrev pub attempt_of : Want → Result Instr Cause → CoreState → Option Write
attempt_of (Sc address) (Ok (ScInstr rd rs1 rs2)) core = Some (record { address = address; width = Word; value = register core rs2 })
attempt_of want instruction core = None
