-- Accesses: what each reads and writes of memory, and what it is to a reservation.
use Rattle.std.specs.Prelude.{◌≡◌, ℕ, ◌+◌, ◌%◌, ◌≤◌, Bool, true, false, ◌&&◌, nat_eq, nat_le, Option, Some, None}
use Rattle.sn_base.specs.Blocks.{ram_start, ram_size, bytes_of}
use Rattle.sn_base.specs.declared.block.Width.{Width}
use Rattle.sn_base.specs.declared.block.Width.TheVariants.{Word}
use Rattle.sn_base.specs.declared.block.Write.{Write}
use Rattle.rv_core.specs.Core.{block_of}
use Rattle.access_check.specs.declared.access.Access.{Access}
use Rattle.access_check.specs.declared.access.StartWord.{StartWord}
use Rattle.access_check.specs.declared.access.Operation.{Operation}
use Rattle.access_check.specs.declared.access.Operation.TheVariants.{Read, Write as Wrote, Lr, Sc, ScFail, Amo}

-- so many bytes lie in memory, from a multiple of their number on: so they are of one block
abbrev pub IsFitting : Width → ℕ → Type 0
IsFitting width address =
    (ram_start ≤ address) × (address + bytes_of width ≤ ram_start + ram_size) × (address % bytes_of width ≡ 0)

-- the same as a test
abbrev pub is_fitting : Width → ℕ → Bool
is_fitting width address =
    nat_le ram_start address && nat_le (address + bytes_of width) (ram_start + ram_size) && nat_eq (address % bytes_of width) 0

abbrev pub IsFittingAccess : Access → Type 0
IsFittingAccess a = IsFitting a.width a.address

abbrev pub IsFittingWord : StartWord → Type 0
IsFittingWord w = IsFitting Word w.address

-- the value that it read, if it read one
abbrev pub seen_by : Operation → Option ℕ
seen_by (Read value) = Some value
seen_by (Wrote value) = None
seen_by (Lr value) = Some value
seen_by (Sc value) = None
seen_by (ScFail value) = None
seen_by (Amo new old) = Some old

-- the value that it wrote, if it wrote one
abbrev pub written_by : Operation → Option ℕ
written_by (Read value) = None
written_by (Wrote value) = Some value
written_by (Lr value) = None
written_by (Sc value) = Some value
written_by (ScFail value) = None
written_by (Amo new old) = Some new

-- whether it is a load-reserved
abbrev pub is_lr : Operation → Bool
is_lr (Lr value) = true
is_lr _ = false

-- whether it is a store-conditional, done or not
abbrev pub is_sc : Operation → Bool
is_sc (Sc value) = true
is_sc (ScFail value) = true
is_sc _ = false

-- whether it is a store-conditional that was done
abbrev pub is_done : Operation → Bool
is_done (Sc value) = true
is_done _ = false

-- the block that has its bytes
abbrev pub block_of_access : Access → ℕ
block_of_access a = block_of a.address

-- a value written at its address
abbrev pub write_by : Access → Option ℕ → Option Write
write_by a None = None
write_by a (Some value) = Some (record { address = a.address; width = a.width; value = value })

abbrev pub write_of : Access → Option Write
write_of a = write_by a (written_by a.operation)
