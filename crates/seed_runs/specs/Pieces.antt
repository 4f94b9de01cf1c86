-- The pieces of a run with its statistics, of a seed's block, and of the blocks of a range.
use Rattle.std.specs.Prelude.{ℕ, zero, suc, ◌+◌, ◌-◌, Bool, true, false, List, [], ◌∷◌, ◌++◌, Option, Some, None}
use Rattle.sn_base.specs.declared.report.RunReport.TheVariants.{Summary}
use Rattle.sn_probe.specs.Probes.{Meter}
use Rattle.sink_pieces.specs.Pieces.{Piece, Report}
use Rattle.run_journals.specs.declared.entry.JournalEntry.{JournalEntry}
use Rattle.run_journals.specs.Journal.{events_of}
use Rattle.ordered_run.specs.Ending.{Ending}
use Rattle.ordered_run.specs.Run.{Run}
use Rattle.ordered_run.specs.Pieces.{begins, run_pieces}
use Rattle.ordered_run.specs.Ordered.{ordered_journal, ordered_end}
use Rattle.ordered_run.specs.Statistics.{statistics_of}
use Rattle.ordered_run.specs.Lines.{statistics_lines}
use Rattle.seed_runs.specs.declared.job.SeedRuns.{SeedRuns}
use Rattle.seed_runs.specs.Text.{seed_line, end_line}

-- the lines of the statistics of a run with this journal
abbrev pub statistics_text : Run → List JournalEntry → List ℕ
statistics_text r journal = statistics_lines r.config.nodes (statistics_of r.program r.config (events_of journal))

-- all that a run with this journal puts, of which these probes are told, and then its statistics
abbrev pub counted_pieces : Run → List Meter → List JournalEntry → List Piece
counted_pieces r probes journal = run_pieces r probes journal ++ Report (statistics_text r journal) ∷ []

-- the run of a seed, whose summary alone is shown, and its journal
abbrev pub run_of : SeedRuns → ℕ → Run
run_of r seed = record {
  program = r.program;
  config = r.config;
  rules = r.rules;
  seed = seed;
  budget = r.budget;
  showing = record { report = Summary; watch = r.watch };
}

abbrev pub journal_of : SeedRuns → ℕ → List JournalEntry
journal_of r seed = ordered_journal r.order (begins (run_of r seed))

-- a text of the report, where it is asked for, and the line of an end
abbrev pub piece_if : Bool → List ℕ → List Piece
piece_if false text = []
piece_if true text = Report text ∷ []

abbrev pub end_pieces : Option Ending → List Piece
end_pieces None = []
end_pieces (Some ending) = Report (end_line ending) ∷ []

-- what a block has behind what its run puts: the statistics, where they are asked for, and how it ended
abbrev pub tail_pieces : SeedRuns → ℕ → List Piece
tail_pieces r seed =
    piece_if r.statistics (statistics_text (run_of r seed) (journal_of r seed)) ++ end_pieces (ordered_end r.order (begins (run_of r seed)))

-- the block of a seed: its line, all that a run with this seed alone puts, and the rest
unfoldable pub seed_pieces : SeedRuns → ℕ → List Piece
seed_pieces r seed = Report (seed_line seed) ∷ (run_pieces (run_of r seed) [] (journal_of r seed) ++ tail_pieces r seed)

-- the blocks of so many seeds, the first of which is this
unfoldable pub seeds_pieces : SeedRuns → ℕ → ℕ → List Piece
seeds_pieces r first zero = []
seeds_pieces r first (suc more) = seed_pieces r first ++ seeds_pieces r (first + 1) more

-- how many seeds the range has, and the blocks of all of them
abbrev pub seeds_in : SeedRuns → ℕ
seeds_in r = r.last - r.first + 1

abbrev pub pieces_due : SeedRuns → List Piece
pieces_due r = seeds_pieces r r.first (seeds_in r)
