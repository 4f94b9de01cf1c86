-- What the workers have drawn.
use Rattle.std.proofs.Common.{◌≡◌, ℕ, ◌+◌, ◌%◌, ◌^◌, ◌<◌, Bool, true, false, cond, nat_eq, List, [], ◌∷◌, ◌++◌, length, slice_index_or, slice_set}
use Rattle.std.proofs.Common.{refl, sym, ap, ◌∙◌, arith, get_or-set_same, get_or-set_other, length-set}
use Rattle.std.proofs.lemmas.Bool.Decides.{nat_tests}
use Rattle.std.proofs.lemmas.Grind.{common_steps}
use Rattle.rand_core.specs.Pcg32Seed.{pcg32_seed}
use Rattle.rand_pcg.specs.Lcg.{Lcg}
use Rattle.rand_pcg.specs.Pcg.{pcg32, pcg32_of_seed}
use Rattle.sn_base.specs.declared.event.Event.{Event}
use Rattle.run_journals.specs.declared.entry.JournalEntry.{JournalEntry}
use Rattle.run_journals.specs.Picks.{generator_at, pick_of}
use Rattle.run_journals.specs.Journal.{entry_of, turns_of}
use Rattle.run_journals.proofs.Draws.{generator_at-first, generator_at-next, turns_of-snoc}
use Rattle.turn_orders.specs.Drawn.{AreDrawn}

pub drawn-none : (seed : ℕ) → AreDrawn seed [] []
drawn-none seed = record { each = λ w x l. absurd (omega (arith, l)) }

pub drawn-push : (seed : ℕ) (generators : List Lcg) (g : Lcg) → AreDrawn seed [] generators →
    g ≡ pcg32_of_seed (pcg32_seed 16 ((seed + length generators) % 2 ^ 64)) → AreDrawn seed [] (generators ++ g ∷ [])
drawn-push seed generators g drawn is =
    let at = is ∙ sym (generator_at-first seed (length generators)) in
    record { each = λ w x l. let before = drawn.each w x in grind (arith, common_steps, before, at) }

abbrev drawn_by : ℕ → Lcg → ℕ × Lcg
drawn_by pick next = (pick, next)

-- a worker's next number, and its generator after that
pub drawn-at : (seed worker : ℕ) (journal : List JournalEntry) (generators : List Lcg) (g next : Lcg) (pick : ℕ) →
    AreDrawn seed journal generators →
    worker < length generators → g ≡ slice_index_or generators worker g → drawn_by pick next ≡ pcg32 g →
    drawn_by pick next ≡ drawn_by (pick_of seed worker (turns_of worker journal)) (generator_at seed worker (turns_of worker journal + 1))
drawn-at seed worker journal generators g next pick drawn there is draws =
    draws ∙ ap (λ (x : Lcg). pcg32 x) (is ∙ drawn.each worker g there) ∙ generator_at-next seed worker (turns_of worker journal)

module _ (seed worker : ℕ) (event : Event) (journal : List JournalEntry) (generators : List Lcg) (g : Lcg) (drawn : AreDrawn seed journal generators) (there : worker < length generators) (next : g ≡ generator_at seed worker (turns_of worker journal + 1)) where
  abbrev turns : ℕ → ℕ
  turns w = turns_of w (journal ++ entry_of worker event ∷ [])

  each : (w : ℕ) (x : Lcg) (own : Bool) → nat_eq worker w ≡ own → w < length generators →
      slice_index_or (slice_set generators worker g) w x ≡ generator_at seed w (turns w)
  each w x true is l =
      let same : worker ≡ w = grind (arith, nat_tests) in
      let count : turns w ≡ turns_of w journal + 1 = turns_of-snoc journal worker w event
      ∙ ap (λ (b : Bool). turns_of w journal + cond b 1 0) is in
      ap (λ (i : ℕ). slice_index_or (slice_set generators worker g) i x) (sym same) ∙ get_or-set_same generators worker g x there ∙ next
      ∙ ap (λ (i : ℕ). generator_at seed i (turns_of i journal + 1)) same ∙ ap (generator_at seed w) (sym count)
  each w x false is l =
      let count : turns w ≡ turns_of w journal = turns_of-snoc journal worker w event
      ∙ ap (λ (b : Bool). turns_of w journal + cond b 1 0) is ∙ omega arith in
      get_or-set_other generators worker w g x (grind (arith, nat_tests)) ∙ drawn.each w x l ∙ ap (generator_at seed w) (sym count)

  pub drawn-next : AreDrawn seed (journal ++ entry_of worker event ∷ []) (slice_set generators worker g)
  drawn-next = record { each = λ w x l. each w x (nat_eq worker w) refl (omega (arith, length-set generators worker g, l)) }
