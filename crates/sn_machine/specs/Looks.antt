-- What is asked of a machine between two events.
use Rattle.std.specs.Prelude.{ℕ, zero, suc, Bool, true, false, not, ◌&&◌, if◌then◌else◌, Option, Some, None}
use Rattle.sn_base.specs.Image.{ImageData}
use Rattle.rv_core.specs.declared.state.CoreState.{CoreState}
use Rattle.rv_core.specs.declared.step.Want.{Want}
use Rattle.rv_core.specs.declared.step.Want.TheVariants.{Nothing, Load, Store, Amo, Lr, Sc, Input}
use Rattle.rv_core.specs.Core.{block_of, is_running}
use Rattle.rv_core.specs.Flat.{FlatState, core_at}
use Rattle.rv_core.specs.Step.{want_of}
use Rattle.sn_model.specs.Machine.{processor_at}
use Rattle.sn_fabric.specs.Fabric.{can_go}
use Rattle.sn_machine.specs.Machine.{MachineData}

-- the block of an access
abbrev pub block_wanted : Want → Option ℕ
block_wanted Nothing = None
block_wanted (Load address) = Some (block_of address)
block_wanted (Store address) = Some (block_of address)
block_wanted (Amo address) = Some (block_of address)
block_wanted (Lr address) = Some (block_of address)
block_wanted (Sc address) = Some (block_of address)
block_wanted Input = None

-- the block that a core's next instruction wants; one that has ended wants none
abbrev pub wanted_block : ImageData → CoreState → Option ℕ
wanted_block image core = if is_running core.end then block_wanted (want_of image core) else None

-- whether an eviction would let a block go from the set of the block that a node wants
abbrev pub may_go_for : MachineData → ℕ → Option ℕ → ℕ → Bool
may_go_for m n None candidate = false
may_go_for m n (Some block) candidate = can_go m.config m.state.fabric n block candidate

abbrev pub can_go_from : MachineData → ℕ → ℕ → Bool
can_go_from m n candidate = may_go_for m n (wanted_block m.image (processor_at m.state n).core) candidate

-- whether the cores of the first so many nodes have ended
abbrev pub have_ended : ℕ → FlatState → Bool
have_ended zero flat = true
have_ended (suc n) flat = have_ended n flat && not (is_running (core_at flat n).end)
