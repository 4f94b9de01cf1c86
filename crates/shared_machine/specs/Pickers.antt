-- What a worker draws next, and its generator after that.
use Rattle.std.specs.Prelude.{◌≡◌, ℕ, ◌+◌, ◌<◌, List, length, slice_index_or}
use Rattle.run_journals.specs.declared.entry.JournalEntry.{JournalEntry}
use Rattle.run_journals.specs.Picks.{generator_at, pick_of}
use Rattle.run_journals.specs.Journal.{turns_of}
use Rattle.shared_machine.specs.declared.picker.Picker.{Picker}

-- after so many picks
abbrev pub picker_at : ℕ → ℕ → ℕ → Picker
picker_at seed worker picks = record { generator = generator_at seed worker (picks + 1); pick = pick_of seed worker picks }

-- each worker has drawn as often as it had turns
pub record AreDrawn (seed : ℕ) (journal : List JournalEntry) (pickers : List Picker) : Type 0 where
  pub each : (w : ℕ) (d : Picker) → w < length pickers → slice_index_or pickers w d ≡ picker_at seed w (turns_of w journal)
