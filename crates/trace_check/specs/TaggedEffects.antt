-- What the records of a trace do in memory: each core's in their order, and all in theirs.
use Rattle.std.specs.Prelude.{◌≡◌, ℕ, Bool, true, false, if◌then◌else◌, List, [], ◌∷◌, ◌==◌, is_some}
use Rattle.sn_base.specs.Image.{ImageData}
use Rattle.rv_core.specs.declared.state.CoreState.{CoreState}
use Rattle.rv_core.specs.declared.step.Record.{Record}
use Rattle.rv_core.specs.declared.step.Want.{Want}
use Rattle.rv_core.specs.declared.step.Want.TheVariants.{Nothing, Load, Store, Amo, Lr, Sc, Input}
use Rattle.rv_core.specs.Core.{is_input, holds_reservation}
use Rattle.rv_core.specs.Step.{want_of, next_of}
use Rattle.sn_consistency.specs.Words.{next}
use Rattle.sn_consistency.specs.Projections.{core_step}
use Rattle.trace_check.specs.EffectData.{EffectData}

-- whether memory is read
abbrev pub reads_memory : Want → Bool
reads_memory Nothing = false
reads_memory (Load address) = true
reads_memory (Store address) = false
reads_memory (Amo address) = true
reads_memory (Lr address) = true
reads_memory (Sc address) = false
reads_memory Input = false

-- a running core that wants this may have done the record by itself, whatever memory has
abbrev pub MayDo : CoreState → Want → Record → Type 0
MayDo c want r =
    (reads_memory want ≡ false → r.seen ≡ 0) × (r.sc_done ≡ true → holds_reservation c want ≡ true)
    × (is_some r.read ≡ is_input want)

-- what a core does by a record
abbrev pub effect_of : ImageData → CoreState → Record → EffectData
effect_of image c r = record { want = want_of image c; write = (next_of image c r.seen r.sc_done r.read).effect.write }

-- what core n does, in order, by its own records
abbrev pub core_effects : ImageData → ℕ → CoreState → List Record → List EffectData
core_effects image n c [] = []
core_effects image n c (r ∷ rs) =
    if n == r.core then effect_of image c r ∷ core_effects image n (next image c r) rs else core_effects image n c rs

-- what all cores do, in the order of the records
abbrev pub effects_of_all : ImageData → (ℕ → CoreState) → List Record → List EffectData
effects_of_all image c [] = []
effects_of_all image c (r ∷ rs) = effect_of image (c r.core) r ∷ effects_of_all image (λ n. core_step image n (c n) r) rs
