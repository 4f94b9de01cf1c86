-- The parts into which the blocks are put: of n parts, part k has the blocks whose number is k modulo n.
use Rattle.std.specs.Prelude.{◌≡◌, ℕ, ◌%◌, ◌<◌, Bool, true, ◌&&◌, nat_eq, List, get_or, slice_get, Some, Result, IfOk}
use Rattle.sn_base.specs.Image.{ImageData}
use Rattle.sn_base.specs.declared.memory.Memory.{Memory}
use Rattle.rv_core.specs.declared.step.Record.{Record}
use Rattle.rv_core.specs.declared.step.Want.{Want}
use Rattle.rv_core.specs.Core.{is_access}
use Rattle.rv_core.specs.Wanted.{IsInside, WriteFits}
use Rattle.rv_core.specs.Flat.{flat_start}
use Rattle.projection_places.specs.Passes.{Passes, BlockPasses}
use Rattle.trace_check.specs.EffectData.{EffectData}
use Rattle.trace_check.specs.declared.cores.Slot.{Slot}
use Rattle.trace_check.specs.Tags.{wanted_block}
use Rattle.trace_check.specs.Slots.{HasEffects, HasTag, access_place}

-- whether it is an access to a block of the part
abbrev pub is_in : ℕ → ℕ → Want → Bool
is_in parts part want = is_access want && nat_eq (wanted_block want % parts) part

-- a effect lies in memory
abbrev pub IsFitting : EffectData → Record → Type 0
IsFitting effect r = IsInside effect.want × WriteFits effect.want r.sc_done effect.write

-- so do the tagged that the slots have for the first records, and they are of accesses
abbrev pub AreFitting : List Record → ℕ → List Slot → Type 0
AreFitting rs count slots =
    (k : ℕ) (r : Record) (d : Slot) (tag : ℕ) (effect : EffectData) → k < count → slice_get rs k ≡ Some r →
    HasTag rs k r (get_or slots r.core d) tag → 0 < tag →
    slice_get (get_or slots r.core d).tagged.accesses.items (access_place rs k r (get_or slots r.core d)) ≡ Some effect →
    (is_access effect.want ≡ true) × IsFitting effect r

-- each access to a block of the part, among the first k records, finds what the earlier ones leave
abbrev pub PartPasses : ImageData → ℕ → ℕ → ℕ → List Record → ℕ → Type 0
PartPasses image N parts part rs k = (b : ℕ) → b % parts ≡ part → BlockPasses image b (flat_start image N) rs k

-- so many records the blocks of the part pass, or memory was lacking
abbrev pub HasPassed : ImageData → ℕ → ℕ → List Record → ℕ → List Slot → Result ℕ Memory → Type 0
HasPassed image parts part rs count slots passed =
    IfOk passed (λ p. (N : ℕ) → HasEffects image N parts rs count slots → Passes (PartPasses image N parts part rs) count p)
