-- A run that has had its turns, and what a sink has of it that broke.
use Rattle.std.specs.Prelude.{◌≡◌, ◌⊎◌, ℕ, ◌+◌, ◌<◌, Bool, true, List, [], length, get_or, Option, Some, IfSome}
use Rattle.sn_machine.specs.Machine.{MachineData}
use Rattle.sn_console.specs.Handed.{IsHandedOn}
use Rattle.sink_pieces.specs.Pieces.{Ends, Breaks, console_piece}
use Rattle.run_journals.specs.declared.entry.JournalEntry.{JournalEntry}
use Rattle.run_journals.specs.Journal.{events_of}
use Rattle.ordered_run.specs.Finish.{Finish}
use Rattle.ordered_run.specs.Finishes.{IsRunOf, finish_by}
use Rattle.ordered_run.specs.Run.{Run}
use Rattle.ordered_run.specs.RunShowing.{RunShowing}
use Rattle.ordered_run.specs.Pieces.{begins}
use Rattle.ordered_run.specs.Reported.{IsRoomFor, IsUnreported}
use Rattle.ordered_run.specs.Statistics.{statistics_of}
use Rattle.ordered_run.specs.Lines.{statistics_lines}
use Rattle.seed_runs.specs.declared.job.SeedRuns.{SeedRuns}
use Rattle.seed_runs.specs.declared.play.Played.{Played}
use Rattle.seed_runs.specs.Pieces.{statistics_text, run_of, journal_of}

-- the lines of the statistics of a run that left this machine and this journal
abbrev pub statistics_now : MachineData → List JournalEntry → List ℕ
statistics_now m journal = statistics_lines m.config.nodes (statistics_of m.image m.config (events_of journal))

-- it is what a run with this journal left that had all its turns, with the room of its report, and has the run's statistics, where
-- they are asked for
pub record IsPlayed (r : Run) (its : List JournalEntry) (counted : Bool) (p : Played) : Type 0 where
  pub run : IsRunOf (begins r) p.finished.machine p.finished.journal.items p.finished.answers.items
  pub journal : p.finished.journal.items ≡ its
  pub finish : finish_by (begins r) p.finished.journal.items ≡ Some p.finished.finish
  pub room : IsRoomFor p.room p.finished.machine
  pub statistics : counted ≡ true → p.statistics.items ≡ statistics_text r p.finished.journal.items

-- the console broke, and the report has nothing; or the console has all that is released, and the report broke
abbrev pub IsUnput : MachineData → List JournalEntry → Finish → RunShowing → List (List ℕ) → Ends → Ends → Type 0
IsUnput m journal found showing tallies before behind =
    Breaks (console_piece m.state.released) before behind
    ⊎ (IsHandedOn [] m.state.released before.console behind.console
    × IsUnreported m journal found showing tallies before.report behind.report)

-- what the run of a seed left; nothing where memory was lacking for it
abbrev pub IsOfSeed : SeedRuns → ℕ → Option Played → Type 0
IsOfSeed r seed played = IfSome played (λ p. IsPlayed (run_of r seed) (journal_of r seed) r.statistics p)

-- so each, of the seeds from one on
abbrev pub AreOfSeeds : SeedRuns → ℕ → List (Option Played) → Type 0
AreOfSeeds r first slots = (n : ℕ) (d : Option Played) → n < length slots → IsOfSeed r (first + n) (get_or slots n d)
