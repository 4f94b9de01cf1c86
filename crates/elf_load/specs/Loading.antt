-- The image that the bytes of a file are, or the first cause of their refusal.
use Rattle.std.specs.Prelude.{◌≡◌, ℕ, nat_eq, if◌then◌else◌, List, [], ◌∷◌, Result, Err, ⊤}
use Rattle.sn_base.specs.Image.{ImageData}
use Rattle.elf_load.specs.declared.fault.LoadCause.{LoadCause}
use Rattle.elf_load.specs.declared.fault.LoadCause.TheVariants.{Empty}
use Rattle.elf_load.specs.declared.fault.LoadFault.{LoadFault}
use Rattle.elf_load.specs.declared.fault.LoadFault.TheVariants.{Refused, Memory}
use Rattle.elf_load.specs.Hexadecimal.{hexadecimal_image}
use Rattle.elf_load.specs.Elf.{elf_image}

-- a file whose first byte is 7f is an ELF file, and any other a hexadecimal image
unfoldable pub image_of : List ℕ → Result ImageData LoadCause
image_of [] = Err Empty
image_of (byte ∷ bytes) = if nat_eq byte 127 then elf_image (byte ∷ bytes) else hexadecimal_image (byte ∷ bytes)

-- a fault is the refusal that the file has, or want of memory
abbrev pub IsRefusedAs : {A : Type 0} → Result A LoadCause → LoadFault → Type 0
IsRefusedAs {A} answer (Refused cause) = answer ≡ Err cause
IsRefusedAs {A} answer Memory = ⊤
