-- The workers' generators after a journal.
use Rattle.std.specs.Prelude.{◌≡◌, ℕ, ◌<◌, List, length, slice_index_or}
use Rattle.rand_pcg.specs.Lcg.{Lcg}
use Rattle.run_journals.specs.declared.entry.JournalEntry.{JournalEntry}
use Rattle.run_journals.specs.Picks.{generator_at}
use Rattle.run_journals.specs.Journal.{turns_of}

-- each worker has drawn as often as it had turns
pub record AreDrawn (seed : ℕ) (journal : List JournalEntry) (generators : List Lcg) : Type 0 where
  pub each : (w : ℕ) (d : Lcg) → w < length generators → slice_index_or generators w d ≡ generator_at seed w (turns_of w journal)
