-- Which accesses a program may make.
use Rattle.std.specs.Prelude.{ℕ, ◌+◌, ◌%◌, Bool, not, ◌&&◌, ◌||◌, nat_eq, nat_le, nat_lt, if◌then◌else◌, Option, Some, None}
use Rattle.sn_base.specs.Blocks.{ram_start, ram_size, bytes_of}
use Rattle.sn_base.specs.Image.{ImageData, all_writable}
use Rattle.sn_base.specs.declared.block.Width.{Width}
use Rattle.sn_base.specs.declared.block.Width.TheVariants.{Byte, Half, Word}
use Rattle.rv_decode.specs.declared.operations.LoadOp.{LoadOp}
use Rattle.rv_decode.specs.declared.operations.LoadOp.TheVariants.{Lb, Lh, Lw, Lbu, Lhu}
use Rattle.rv_core.specs.declared.state.Cause.{Cause}
use Rattle.rv_core.specs.declared.state.Cause.TheVariants.{MisalignedAccess, AccessFault}

abbrev pub width_of : LoadOp → Width
width_of Lb = Byte
width_of Lh = Half
width_of Lw = Word
width_of Lbu = Byte
width_of Lhu = Half

abbrev pub is_in_memory : ℕ → Bool
is_in_memory address = nat_le ram_start address && nat_lt address (ram_start + ram_size)

-- why an access traps, where it does: its address isn't a multiple of its width; or it lies outside memory, or writes
-- where the program may not be written
abbrev pub fault_of : ImageData → Width → Bool → ℕ → Option Cause
fault_of image width writes address =
    if not (nat_eq (address % bytes_of width) 0) then Some MisalignedAccess
    else if is_in_memory address && (not writes || all_writable (bytes_of width) image.segments address) then None
    else Some AccessFault
