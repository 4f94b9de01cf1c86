-- What the core's step promises of reservations and of what is written.
use Rattle.std.specs.Prelude.{◌≡◌, ℕ, ◌+◌, ◌≤◌, ◌%◌, Bool, true, false, Option, Some, None}
use Rattle.sn_base.specs.Blocks.{ram_start, ram_size, bytes_of}
use Rattle.sn_base.specs.declared.block.Write.{Write}
use Rattle.rv_core.specs.declared.step.Want.{Want}
use Rattle.rv_core.specs.declared.step.Want.TheVariants.{Lr, Sc}
use Rattle.rv_core.specs.Core.{block_of}

-- what an instruction makes of its own core's reservation: LR sets it, SC clears it, all else leaves it
abbrev pub own_reservation : Want → Option ℕ → Option ℕ
own_reservation (Lr address) old = Some (block_of address)
own_reservation (Sc address) old = None
own_reservation _ old = old

-- a write is there exactly where one is wanted, at the wanted address, in memory, and at a multiple of its width
abbrev pub WriteFits : ℕ → Bool → Option Write → Type 0
WriteFits address wanted None = wanted ≡ false
WriteFits address wanted (Some w) =
    (wanted ≡ true) × (w.address ≡ address) × (ram_start ≤ address)
    × (address + bytes_of w.width ≤ ram_start + ram_size) × (address % bytes_of w.width ≡ 0)
