-- What is read of a program's file is no fault of the store, nor of the words.
use Rattle.std.proofs.Common.{◌≡◌, ℕ, List, length, refl}
use Rattle.std.specs.Prelude.{Option, Some, None, IfSome, Result, Ok, Err, Bool, true, false, nat_lt, if◌then◌else◌}
use Rattle.sn_base.specs.Image.{ImageData}
use Rattle.elf_load.specs.declared.fault.LoadCause.{LoadCause}
use Rattle.elf_load.specs.Loading.{image_of}
use Rattle.call_status.specs.declared.status.ProgramCause.TheVariants.{TooLong as ProgramTooLong}
use Rattle.call_status.specs.declared.status.Status.{Status}
use Rattle.call_status.specs.declared.status.Status.TheVariants.{Usage, StoreFault, BadProgram}
use Rattle.call_files.specs.Files.{program_limit, if_loaded, program_of}

-- what the bytes of files come to is no fault of the store, nor of the words
abbrev pub IsOfBytes : {A : Type 0} → Result A Status → Type 0
IsOfBytes due = (due ≡ Err StoreFault → ⊥) × (due ≡ Err Usage → ⊥)

loaded : (r : Result ImageData LoadCause) (long : Bool) → IsOfBytes (if long then Err (BadProgram ProgramTooLong) else if_loaded r)
loaded r true = (λ e. cc, λ e. cc)
loaded (Ok image) false = (λ e. cc, λ e. cc)
loaded (Err cause) false = (λ e. cc, λ e. cc)

pub program-of_bytes : (bytes : List ℕ) → IsOfBytes (program_of bytes)
program-of_bytes bytes = loaded (image_of bytes) (nat_lt program_limit (length bytes))

pub if_some-intro : {T : Type 0} (o : Option T) (P : T → Type 0) → ((x : T) → o ≡ Some x → P x) → IfSome o P
if_some-intro None P h = tt
if_some-intro (Some x) P h = h x refl
