-- A core, and the words by which the flat machine and the caches speak of what it wants.
use Rattle.std.specs.Prelude.{ℕ, ◌-◌, ◌/◌, Bool, true, false, nat_eq, if◌then◌else◌, List, slice_index, slice_set, replicate, Option, Some}
use Rattle.std.specs.Prelude.{None}
use Rattle.sn_base.specs.Blocks.{ram_start}
use Rattle.rv_core.specs.declared.state.CoreState.{CoreState}
use Rattle.rv_core.specs.declared.state.End.{End}
use Rattle.rv_core.specs.declared.state.End.TheVariants.{Running, Exited, Trapped}
use Rattle.rv_core.specs.declared.state.Cause.{Cause}
use Rattle.rv_core.specs.declared.step.Want.{Want}
use Rattle.rv_core.specs.declared.step.Want.TheVariants.{Nothing, Load, Store, Amo, Lr, Sc, Input}

-- a core at the entry, with its number in x10
abbrev pub start_of : ℕ → ℕ → CoreState
start_of core entry = record { pc = entry; x = slice_set (replicate 32 0) 10 core; reservation = None; end = Running }

-- a register's value: x0 reads 0
abbrev pub register : CoreState → ℕ → ℕ
register core number = if nat_eq number 0 then 0 else slice_index core.x number

-- the registers with one of them written: x0 isn't
abbrev pub with_register : CoreState → ℕ → ℕ → List ℕ
with_register core number value = if nat_eq number 0 then core.x else slice_set core.x number value

-- the core without its reservation
abbrev pub bare : CoreState → CoreState
bare core = record core { reservation = None }

-- a trap ends the core and changes nothing else
abbrev pub core_with_trap : CoreState → Cause → CoreState
core_with_trap core cause = record core { end = Trapped cause }

-- the block that has an address of memory
abbrev pub block_of : ℕ → ℕ
block_of address = (address - ram_start) / 64

-- whether the reservation is this block
abbrev pub is_reserved : Option ℕ → ℕ → Bool
is_reserved None block = false
is_reserved (Some reserved) block = nat_eq reserved block

abbrev pub is_running : End → Bool
is_running Running = true
is_running (Exited code) = false
is_running (Trapped cause) = false

abbrev pub is_input : Want → Bool
is_input Nothing = false
is_input (Load address) = false
is_input (Store address) = false
is_input (Amo address) = false
is_input (Lr address) = false
is_input (Sc address) = false
is_input Input = true

-- whether it wants memory at all
abbrev pub is_access : Want → Bool
is_access Nothing = false
is_access (Load address) = true
is_access (Store address) = true
is_access (Amo address) = true
is_access (Lr address) = true
is_access (Sc address) = true
is_access Input = false

-- whether the core wants to do a store-conditional on the block that it has reserved
abbrev pub holds_reservation : CoreState → Want → Bool
holds_reservation core Nothing = false
holds_reservation core (Load address) = false
holds_reservation core (Store address) = false
holds_reservation core (Amo address) = false
holds_reservation core (Lr address) = false
holds_reservation core (Sc address) = is_reserved core.reservation (block_of address)
holds_reservation core Input = false
