-- The pieces that a run puts: what its journal releases, and the report.
use Rattle.std.specs.Prelude.{ℕ, List, [], ◌∷◌, ◌++◌, length, codes}
use Rattle.std.specs.List.{flat_map}
use Rattle.sn_text.specs.Text.{count_line, script_line}
use Rattle.sn_probe.specs.Probes.{Meter}
use Rattle.sink_pieces.specs.Pieces.{Piece, Report, console_piece}
use Rattle.committed_accesses.specs.Rows.{access_rows_of}
use Rattle.committed_accesses.specs.Lines.{access_pieces}
use Rattle.script_replay.specs.declared.job.ReportKind.TheVariants as replayed
use Rattle.script_replay.specs.declared.job.Replay.{Replay}
use Rattle.script_replay.specs.Pieces.{trace_pieces, summary_pieces}
use Rattle.script_replay.specs.Probed.{tallies_due}
use Rattle.node_threads.specs.JournalEntry.{JournalEntry}
use Rattle.node_threads.specs.Journal.{Began, events_of, state_of}
use Rattle.node_run.specs.declared.job.Run.{Run}
use Rattle.sn_base.specs.declared.report.RunReport.{RunReport}
use Rattle.sn_base.specs.declared.report.RunReport.TheVariants.{Summary, Trace, Accesses, Journal}

-- what a run begins with
abbrev pub begins : Run → Began
begins r = record { image = r.program; config = r.config; rules = r.rules; seed = r.seed; budget = r.budget }

-- the replay of a journal's events that shows its summary alone
abbrev pub replay_of : Run → List JournalEntry → Replay
replay_of r journal = record {
  program = r.program;
  config = r.config;
  showing = record { report = replayed.Summary; watch = r.showing.watch };
  script = events_of journal;
}

-- what probes have measured that are told a journal's events
abbrev pub tallies_by : Run → List Meter → List JournalEntry → List (List ℕ)
tallies_by r probes journal = tallies_due (replay_of r journal) probes

-- a turn: its worker in a comment, and its event as a line of a script
unfoldable pub entry_lines : JournalEntry → List ℕ
entry_lines entry = count_line (codes "# ") (codes "worker") entry.worker ++ script_line entry.event

-- a journal as a script
abbrev pub journal_text : List JournalEntry → List ℕ
journal_text journal = flat_map entry_lines journal

-- the same, one piece a turn
unfoldable pub journal_pieces : List JournalEntry → List Piece
journal_pieces [] = []
journal_pieces (entry ∷ entries) = Report (entry_lines entry) ∷ journal_pieces entries

-- the summary, which is that of a replay of the journal's events
abbrev pub summary_by : List ℕ → Run → List Meter → List JournalEntry → List Piece
summary_by before r probes journal =
    summary_pieces before r.program r.config r.showing.watch (tallies_by r probes journal) (length journal) (state_of (begins r) journal)

-- the rows of the committed trace: of each record what it does in memory
abbrev pub rows_by : Run → List JournalEntry → List Piece
rows_by r journal = access_pieces (access_rows_of r.program r.config.nodes (state_of (begins r) journal).committed)

-- the report: the summary; or the committed trace, or its rows, or the journal, and then the summary, marked as comments
abbrev pub report_by : RunReport → Run → List Meter → List JournalEntry → List Piece
report_by Summary r probes journal = summary_by [] r probes journal
report_by Trace r probes journal = trace_pieces (state_of (begins r) journal).committed ++ summary_by (codes "# ") r probes journal
report_by Accesses r probes journal = rows_by r journal ++ summary_by (codes "# ") r probes journal
report_by Journal r probes journal = journal_pieces journal ++ summary_by (codes "# ") r probes journal

-- all that a run with this journal puts, of which these probes are told
abbrev pub run_pieces : Run → List Meter → List JournalEntry → List Piece
run_pieces r probes journal = console_piece (state_of (begins r) journal).released ++ report_by r.showing.report r probes journal
