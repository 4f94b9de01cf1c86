-- What follows from what an instruction wants.
use Rattle.std.specs.Prelude.{◌≡◌, ℕ, ◌+◌, ◌%◌, ◌≤◌, ◌<◌, Bool, true, false, Option, Some, None, ⊤}
use Rattle.sn_base.specs.Blocks.{ram_start, ram_size, bytes_of}
use Rattle.sn_base.specs.declared.block.Write.{Write}
use Rattle.rv_core.specs.declared.step.Want.{Want}
use Rattle.rv_core.specs.declared.step.Want.TheVariants.{Nothing, Load, Store, Amo, Lr, Sc, Input}
use Rattle.rv_core.specs.Core.{block_of}

-- the address of an access, and 0 where none is wanted
abbrev pub wanted_address : Want → ℕ
wanted_address Nothing = 0
wanted_address (Load address) = address
wanted_address (Store address) = address
wanted_address (Amo address) = address
wanted_address (Lr address) = address
wanted_address (Sc address) = address
wanted_address Input = 0

-- whether memory is written: by a store, an atomic operation, and a store-conditional that is done
abbrev pub writes_memory : Want → Bool → Bool
writes_memory Nothing done = false
writes_memory (Load address) done = false
writes_memory (Store address) done = true
writes_memory (Amo address) done = true
writes_memory (Lr address) done = false
writes_memory (Sc address) done = done
writes_memory Input done = false

-- LR sets the reservation, SC clears it, and all else leaves it
abbrev pub reservation_after : Want → Option ℕ → Option ℕ
reservation_after Nothing old = old
reservation_after (Load address) old = old
reservation_after (Store address) old = old
reservation_after (Amo address) old = old
reservation_after (Lr address) old = Some (block_of address)
reservation_after (Sc address) old = None
reservation_after Input old = old

abbrev pub IsAddress : ℕ → Type 0
IsAddress address = (ram_start ≤ address) × (address < ram_start + ram_size)

-- an access lies in memory
abbrev pub IsInside : Want → Type 0
IsInside Nothing = ⊤
IsInside (Load address) = IsAddress address
IsInside (Store address) = IsAddress address
IsInside (Amo address) = IsAddress address
IsInside (Lr address) = IsAddress address
IsInside (Sc address) = IsAddress address
IsInside Input = ⊤

-- a write is there exactly where one is wanted, at the wanted address, in memory, and at a multiple of its width
abbrev pub WriteFits : Want → Bool → Option Write → Type 0
WriteFits want done None = writes_memory want done ≡ false
WriteFits want done (Some w) =
    (writes_memory want done ≡ true) × (w.address ≡ wanted_address want) × (ram_start ≤ w.address)
    × (w.address + bytes_of w.width ≤ ram_start + ram_size) × (w.address % bytes_of w.width ≡ 0)
