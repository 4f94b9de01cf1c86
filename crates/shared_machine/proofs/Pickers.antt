-- A worker's generator from pick to pick.
use Rattle.std.proofs.Common.{◌≡◌, ℕ, ◌+◌, ◌%◌, ◌^◌, List, [], ◌∷◌, ◌++◌, length, sym, ap, ◌∙◌, arith}
use Rattle.std.proofs.lemmas.Grind.{common_steps}
use Rattle.rand_core.specs.Pcg32Seed.{pcg32_seed}
use Rattle.rand_pcg.specs.Lcg.{Lcg}
use Rattle.rand_pcg.specs.Pcg.{pcg32, pcg32_of_seed}
use Rattle.run_journals.proofs.Draws.{generator_at-first, generator_at-next}
use Rattle.shared_machine.specs.declared.picker.Picker.{Picker}
use Rattle.shared_machine.specs.Pickers.{picker_at, AreDrawn}

abbrev picker_by : ℕ × Lcg → Picker
picker_by drawn = record { generator = drawn.1; pick = drawn.0 }

pub picker-first : (seed worker : ℕ) (d : Picker) →
    (d.pick, d.generator) ≡ pcg32 (pcg32_of_seed (pcg32_seed 16 ((seed + worker) % 2 ^ 64))) → d ≡ picker_at seed worker 0
picker-first seed worker d drawn =
    ap picker_by (drawn ∙ ap (λ (g : Lcg). pcg32 g) (sym (generator_at-first seed worker)) ∙ generator_at-next seed worker 0)

pub picker-next : (seed worker picks : ℕ) (old new : Picker) → (new.pick, new.generator) ≡ pcg32 old.generator →
    old ≡ picker_at seed worker picks → new ≡ picker_at seed worker (picks + 1)
picker-next seed worker picks old new drawn is =
    ap picker_by (drawn ∙ ap (λ (d : Picker). pcg32 d.generator) is ∙ generator_at-next seed worker (picks + 1))

pub drawn-none : (seed : ℕ) → AreDrawn seed [] []
drawn-none seed = record { each = λ w x l. absurd (omega (arith, l)) }

pub drawn-push : (seed : ℕ) (pickers : List Picker) (d : Picker) → AreDrawn seed [] pickers → d ≡ picker_at seed (length pickers) 0 →
    AreDrawn seed [] (pickers ++ d ∷ [])
drawn-push seed pickers d drawn is = record { each = λ w x l. let before = drawn.each w x in grind (arith, common_steps, before, is) }
