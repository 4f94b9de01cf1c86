-- What the sinks show of a run.
use Rattle.std.specs.Prelude.{◌≡◌, ◌⊎◌, ℕ, ◌<◌, ◌≤◌, true, List, [], ◌++◌, length, codes, Option, Some, Ok}
use Rattle.std.specs.List.{All}
use Rattle.rv_core.specs.Execution.{IsExecution, out_of}
use Rattle.sn_base.specs.Config.{config_fits}
use Rattle.sn_base.specs.Rules.{AreRules}
use Rattle.consistent_cuts.specs.Runs.{AllFit}
use Rattle.sn_io.specs.Outside.{Rose, followed_by}
use Rattle.sn_text.specs.Script.{script_of}
use Rattle.sn_text.specs.Trace.{trace_of}
use Rattle.sn_text.specs.Written.{trace_text}
use Rattle.sn_probe.specs.Probes.{Meter}
use Rattle.sink_pieces.specs.Pieces.{Ends, after, Breaks, console_text, report_text, HasBeginning}
use Rattle.script_replay.specs.Played.{IsWatchable}
use Rattle.script_replay.specs.Probed.{told_all}
use Rattle.script_replay.specs.Shown.{IsLawful, pieces_due}
use Rattle.node_threads.specs.JournalEntry.{JournalEntry}
use Rattle.node_threads.specs.Journal.{IsDue, events_of, state_of}
use Rattle.node_run.specs.declared.ending.Ending.{Ending}
use Rattle.node_run.specs.declared.job.Run.{Run}
use Rattle.sn_base.specs.declared.report.RunReport.TheVariants.{Trace, Accesses, Journal}
use Rattle.node_run.specs.Endings.{ending_of}
use Rattle.node_run.specs.Pieces.{begins, replay_of, journal_text, rows_by, summary_by, report_by, run_pieces}
use Rattle.sn_base.specs.declared.limits.TheConstants.{EVENTS}

-- a run that may begin: its sizes fit, its rules are ones for so many nodes, there are at most a million events, and it watches a
-- word of memory
pub record MayBegin (r : Run) : Type 0 where
  pub fits : config_fits r.config ≡ true
  pub ruled : AreRules r.rules r.config.nodes
  pub few : r.budget ≤ EVENTS
  pub watched : IsWatchable r.showing.watch

-- the journal of a run: each of its events was due for its worker, which is a node's, and fits the machine, and there are no more
-- than the budget
pub record IsJournal (r : Run) (journal : List JournalEntry) : Type 0 where
  pub due : IsDue (begins r) journal
  pub workers : All (λ e. e.worker < r.config.nodes) journal
  pub fit : AllFit r.config.nodes (events_of journal)
  pub few : length journal ≤ r.budget

-- the bytes that its committed trace puts out
abbrev pub output_by : Run → List JournalEntry → List ℕ
output_by r journal = out_of r.program r.config.nodes (state_of (begins r) journal).committed

-- the committed trace, and then the summary, marked as comments
abbrev pub written_trace : Run → List Meter → List JournalEntry → List ℕ
written_trace r probes journal =
    trace_text (state_of (begins r) journal).committed ++ report_text (summary_by (codes "# ") r probes journal)

-- the report is this text, which is read as the records of an execution of the program
pub record IsTrace (r : Run) (probes : List Meter) (journal : List JournalEntry) (before behind : Option (List ℕ)) : Type 0 where
  pub execution : IsExecution r.program r.config.nodes (state_of (begins r) journal).committed
  pub written : behind ≡ followed_by before (written_trace r probes journal)
  pub read : trace_of r.config.nodes (written_trace r probes journal) ≡ Ok (state_of (begins r) journal).committed

-- the rows of the committed trace, and then the summary, marked as comments
abbrev pub written_rows : Run → List Meter → List JournalEntry → List ℕ
written_rows r probes journal = report_text (rows_by r journal) ++ report_text (summary_by (codes "# ") r probes journal)

-- the report is this text, whose rows are those of an execution of the program
pub record AreRows (r : Run) (probes : List Meter) (journal : List JournalEntry) (before behind : Option (List ℕ)) : Type 0 where
  pub execution : IsExecution r.program r.config.nodes (state_of (begins r) journal).committed
  pub written : behind ≡ followed_by before (written_rows r probes journal)

-- a journal, and then the summary, marked as comments
abbrev pub written_script : Run → List Meter → List JournalEntry → List ℕ
written_script r probes journal = journal_text journal ++ report_text (summary_by (codes "# ") r probes journal)

-- the report is this script, which is read as the journal's events
pub record IsScript (r : Run) (probes : List Meter) (journal : List JournalEntry) (before behind : Option (List ℕ)) : Type 0 where
  pub written : behind ≡ followed_by before (written_script r probes journal)
  pub read : script_of r.config.nodes (written_script r probes journal) ≡ Ok (events_of journal)

-- a replay of the journal's events puts the same bytes to the console, and the same summary to the report
pub record IsReplayedSo (r : Run) (probes : List Meter) (journal : List JournalEntry) : Type 0 where
  pub console : console_text (pieces_due (replay_of r journal) probes) ≡ output_by r journal
  pub report : report_text (pieces_due (replay_of r journal) probes) ≡ report_text (summary_by [] r probes journal)

-- all is written: at every moment of the run the recovery point was a consistent cut, and the console has the output of the committed
-- trace
pub record IsShown (r : Run) (probes : List Meter) (journal : List JournalEntry) (before behind : Ends) : Type 0 where
  pub lawful : IsLawful r.program r.config (events_of journal)
  pub output : behind.console ≡ followed_by before.console (output_by r journal)
  pub traced : r.showing.report ≡ Trace → IsTrace r probes journal before.report behind.report
  pub accessed : r.showing.report ≡ Accesses → AreRows r probes journal before.report behind.report
  pub journaled : r.showing.report ≡ Journal → IsScript r probes journal before.report behind.report
  pub replayed : IsReplayedSo r probes journal

-- the report broke: it has the beginning of its text, and the console has the output
pub record IsShownInPart (r : Run) (probes : List Meter) (journal : List JournalEntry) (before behind : Ends) : Type 0 where
  pub lawful : IsLawful r.program r.config (events_of journal)
  pub output : behind.console ≡ followed_by before.console (output_by r journal)
  pub report : HasBeginning (report_text (report_by r.showing.report r probes journal)) before.report behind.report
  pub replayed : IsReplayedSo r probes journal

-- the console broke, and so the workers were stopped: it has the beginning of the output, and the report has nothing
pub record IsStopped (r : Run) (journal : List JournalEntry) (before behind : Ends) : Type 0 where
  pub journal_is : IsJournal r journal
  pub lawful : IsLawful r.program r.config (events_of journal)
  pub output : HasBeginning (output_by r journal) before.console behind.console
  pub report : behind.report ≡ before.report

-- a run came to its end with this journal, and all is put
pub record IsRunToEnd (r : Run) (probes : List Meter) (ending : Ending) (journal : List JournalEntry) (before behind : Ends) : Type 0 where
  pub journal_is : IsJournal r journal
  pub ended : ending_of (begins r) journal ≡ Some ending
  pub put : behind ≡ after before (run_pieces r probes journal)
  pub shown : IsShown r probes journal before behind

-- a run came to its end with this journal, and then the report broke
pub record IsCutShort (r : Run) (probes : List Meter) (ending : Ending) (journal : List JournalEntry) (before behind : Ends) : Type 0 where
  pub journal_is : IsJournal r journal
  pub ended : ending_of (begins r) journal ≡ Some ending
  pub broken : Breaks (run_pieces r probes journal) before behind
  pub shown : IsShownInPart r probes journal before behind

-- the probes were told the journal's events
abbrev pub KnowAll : Run → List JournalEntry → List Meter → List Meter → Type 0
KnowAll r journal probes told = told ≡ told_all (replay_of r journal) probes

-- what a run with this journal comes to that puts all, and one that a sink broke, which is stopped only where the console's count of faults
-- rose
abbrev pub IsDoneWith : Run → List JournalEntry → List Meter → Ending → Ends → Ends → List Meter → Type 0
IsDoneWith r journal probes ending before behind told = IsRunToEnd r probes ending journal before behind × KnowAll r journal probes told

abbrev pub IsBrokenOffWith : Run → List JournalEntry → List Meter → ℕ → ℕ → Ends → Ends → List Meter → Type 0
IsBrokenOffWith r journal probes was is before behind told = KnowAll r journal probes told × (
    (Rose was is × IsStopped r journal before behind) ⊎ ((ending : Ending) × IsCutShort r probes ending journal before behind))

-- the same with some journal
abbrev pub IsDone : Run → List Meter → Ending → Ends → Ends → List Meter → Type 0
IsDone r probes ending before behind told = (journal : List JournalEntry) × IsDoneWith r journal probes ending before behind told

abbrev pub IsBrokenOff : Run → List Meter → ℕ → ℕ → Ends → Ends → List Meter → Type 0
IsBrokenOff r probes was is before behind told =
    (journal : List JournalEntry) × IsBrokenOffWith r journal probes was is before behind told
