-- What the workers have drawn.
use Rattle.std.proofs.Common.{◌≡◌, ℕ, ◌+◌, ◌<◌, Bool, true, false, cond, nat_eq, List, [], ◌∷◌, ◌++◌, length, slice_index_or, slice_set}
use Rattle.std.proofs.Common.{refl, sym, ap, ◌∙◌, arith, get_or-set_same, get_or-set_other, length-set}
use Rattle.std.proofs.lemmas.Bool.Decides.{nat_tests}
use Rattle.sn_base.specs.declared.event.Event.{Event}
use Rattle.run_journals.specs.declared.entry.JournalEntry.{JournalEntry}
use Rattle.run_journals.specs.Journal.{entry_of, turns_of}
use Rattle.run_journals.proofs.Draws.{turns_of-snoc}
use Rattle.shared_machine.specs.declared.picker.Picker.{Picker}
use Rattle.shared_machine.specs.Pickers.{picker_at, AreDrawn}

module _ (seed worker : ℕ) (event : Event) (journal : List JournalEntry) (pickers : List Picker) (d : Picker) (drawn : AreDrawn seed journal pickers) (there : worker < length pickers) (next : d ≡ picker_at seed worker (turns_of worker journal + 1)) where
  abbrev turns : ℕ → ℕ
  turns w = turns_of w (journal ++ entry_of worker event ∷ [])

  each : (w : ℕ) (x : Picker) (own : Bool) → nat_eq worker w ≡ own → w < length pickers →
      slice_index_or (slice_set pickers worker d) w x ≡ picker_at seed w (turns w)
  each w x true is l =
      let same : worker ≡ w = grind (arith, nat_tests) in
      let count : turns w ≡ turns_of w journal + 1 = turns_of-snoc journal worker w event
      ∙ ap (λ (b : Bool). turns_of w journal + cond b 1 0) is in
      ap (λ (i : ℕ). slice_index_or (slice_set pickers worker d) i x) (sym same) ∙ get_or-set_same pickers worker d x there ∙ next
      ∙ ap (λ (i : ℕ). picker_at seed i (turns_of i journal + 1)) same ∙ ap (picker_at seed w) (sym count)
  each w x false is l =
      let count : turns w ≡ turns_of w journal = turns_of-snoc journal worker w event
      ∙ ap (λ (b : Bool). turns_of w journal + cond b 1 0) is ∙ omega arith in
      get_or-set_other pickers worker w d x (grind (arith, nat_tests)) ∙ drawn.each w x l ∙ ap (picker_at seed w) (sym count)

  pub drawn-next : AreDrawn seed (journal ++ entry_of worker event ∷ []) (slice_set pickers worker d)
  drawn-next = record { each = λ w x l. each w x (nat_eq worker w) refl (omega (arith, length-set pickers worker d, l)) }
