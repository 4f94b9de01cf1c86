-- What a step writes lies in memory.
use Rattle.std.proofs.Common.{◌≡◌, ℕ, ◌+◌, ◌≤◌, Bool, List, [], ◌∷◌, map, Option, Some, None, refl, ap, ◌∙◌, sym}
use Rattle.std.specs.Prelude.{IfSome}
use Rattle.sn_base.specs.Blocks.{ram_start, ram_size, bytes_of}
use Rattle.sn_base.specs.Image.{ImageData}
use Rattle.sn_base.specs.declared.block.Write.{Write}
use Rattle.rv_core.specs.declared.state.CoreState.{CoreState}
use Rattle.rv_core.specs.declared.step.Want.{Want}
use Rattle.rv_core.specs.Step.{want_of, next_of}
use Rattle.rv_core.specs.Wanted.{WriteFits}
use Rattle.rv_core.specs.Flat.{FlatState, after_write, memory_after_write}
use Rattle.rv_core.proofs.CoreLaws.{write_fits}

abbrev pub IsInMemory : Option Write → Type 0
IsInMemory write = IfSome write (λ w. (ram_start ≤ w.address) × (w.address + bytes_of w.width ≤ ram_start + ram_size))

in-memory-of : (want : Want) (done : Bool) (write : Option Write) → WriteFits want done write → IsInMemory write
in-memory-of want done None h = tt
in-memory-of want done (Some w) h = (h.2, h.3)

pub written-in-memory : (image : ImageData) (core : CoreState) (seen : ℕ) (done : Bool) (read : Option ℕ) →
    IsInMemory (next_of image core seen done read).effect.write
written-in-memory image core seen done read =
    in-memory-of (want_of image core) done (next_of image core seen done read).effect.write (write_fits image core seen done read)

-- without a write the cores stay
pub nothing-written : (cores : List CoreState) → map (after_write None) cores ≡ cores
nothing-written [] = refl
nothing-written (core ∷ cores) = ap (λ rest. core ∷ rest) (nothing-written cores)

pub unwritten : (flat : FlatState) (write : Option Write) → write ≡ None →
    flat ≡ record { memory = memory_after_write flat.memory write; cores = map (after_write write) flat.cores }
unwritten flat write e =
    let start : flat ≡ record { memory = memory_after_write flat.memory None; cores = map (after_write None) flat.cores } = ap
    (λ cores. record { memory = flat.memory; cores = cores }) (sym (nothing-written flat.cores)) in
    start ∙ ap (λ w. record { memory = memory_after_write flat.memory w; cores = map (after_write w) flat.cores }) (sym e)
