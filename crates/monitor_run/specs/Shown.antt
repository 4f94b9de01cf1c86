-- What the sinks show of a run that is watched.
use Rattle.std.specs.Prelude.{◌≡◌, ℕ, ◌≤◌, true, List, [], ◌++◌, map, Option, Some, unwrap_or}
use Rattle.sn_base.specs.Blocks.{ram_start}
use Rattle.sn_base.specs.Config.{config_fits}
use Rattle.sn_base.specs.Rules.{AreRules}
use Rattle.sn_probe.specs.Probes.{Meter}
use Rattle.sn_io.specs.Outside.{followed_by}
use Rattle.sink_pieces.specs.Pieces.{Piece, Ends, after, Breaks, console_piece, HasBeginning}
use Rattle.script_replay.specs.Played.{IsWatchable}
use Rattle.script_replay.specs.Shown.{IsLawful}
use Rattle.run_journals.specs.declared.entry.JournalEntry.{JournalEntry}
use Rattle.run_journals.specs.Journal.{events_of, state_of}
use Rattle.node_run.specs.declared.ending.Ending.{Ending}
use Rattle.node_run.specs.declared.job.Run.{Run}
use Rattle.sn_base.specs.declared.report.RunReport.TheVariants.{Summary}
use Rattle.node_run.specs.Endings.{ending_of}
use Rattle.node_run.specs.Pieces.{begins, summary_by}
use Rattle.node_run.specs.Shown.{IsJournal, output_by, KnowAll}
use Rattle.snap_board.specs.Snap.{SnapData}
use Rattle.monitor_run.specs.declared.job.Monitor.{Monitor}
use Rattle.monitor_run.specs.Seen.{published_by, IsInRounds, AreSeen, mark_of, seen_pieces}
use Rattle.sn_base.specs.declared.limits.TheConstants.{EVENTS}

-- the run by threads that picks events by the same rules and seed, and shows its summary
abbrev pub run_of : Monitor → Run
run_of r = record {
  program = r.program;
  config = r.config;
  rules = r.rules;
  seed = r.seed;
  budget = r.budget;
  showing = record { report = Summary; watch = r.watch };
}

-- its sizes fit, its rules are ones for so many nodes, there are at most a million events, and it watches a word of memory
pub record MayBegin (r : Monitor) : Type 0 where
  pub fits : config_fits r.config ≡ true
  pub ruled : AreRules r.rules r.config.nodes
  pub few : r.budget ≤ EVENTS
  pub watched : IsWatchable r.watch

-- the word that the snapshots have: the watched one, or the first of memory
abbrev pub watched_word : Option ℕ → ℕ
watched_word watch = unwrap_or watch ram_start

-- all pieces: the released bytes, then what was seen, then the summary
abbrev pub monitor_pieces : Monitor → List Meter → List JournalEntry → List SnapData → List Piece
monitor_pieces r probes journal seen =
    console_piece (state_of (begins (run_of r)) journal).released
    ++ (seen_pieces (map mark_of seen) ++ summary_by [] (run_of r) probes journal)

-- a run whose events were due, in rounds of the workers; at every moment its recovery point was a consistent cut; and what was seen of it
pub record IsWatched (r : Monitor) (journal : List JournalEntry) (seen : List SnapData) : Type 0 where
  pub journal_is : IsJournal (run_of r) journal
  pub rounds : IsInRounds r.config.nodes journal
  pub lawful : IsLawful r.program r.config (events_of journal)
  pub seen_are : AreSeen seen (published_by (begins (run_of r)) (watched_word r.watch) journal)

-- it came to its end, and all is put: the console has the output of the committed trace
pub record IsShown (r : Monitor) (probes : List Meter) (ending : Ending) (journal : List JournalEntry) (seen : List SnapData) (before behind : Ends) : Type 0 where
  pub watched : IsWatched r journal seen
  pub ended : ending_of (begins (run_of r)) journal ≡ Some ending
  pub put : behind ≡ after before (monitor_pieces r probes journal seen)
  pub output : behind.console ≡ followed_by before.console (output_by (run_of r) journal)

-- it came to its end, and a sink broke: all pieces before one were put, a beginning of it, and none after it
pub record IsCutShort (r : Monitor) (probes : List Meter) (ending : Ending) (journal : List JournalEntry) (seen : List SnapData) (before behind : Ends) : Type 0 where
  pub watched : IsWatched r journal seen
  pub ended : ending_of (begins (run_of r)) journal ≡ Some ending
  pub broken : Breaks (monitor_pieces r probes journal seen) before behind
  pub output : HasBeginning (output_by (run_of r) journal) before.console behind.console

abbrev pub IsDone : Monitor → List Meter → Ending → Ends → Ends → List Meter → Type 0
IsDone r probes ending before behind told = (journal : List JournalEntry) × (seen : List SnapData)
    × IsShown r probes ending journal seen before behind × KnowAll (run_of r) journal probes told

abbrev pub IsBrokenOff : Monitor → List Meter → Ends → Ends → List Meter → Type 0
IsBrokenOff r probes before behind told = (journal : List JournalEntry) × (seen : List SnapData) × (ending : Ending)
    × IsCutShort r probes ending journal seen before behind × KnowAll (run_of r) journal probes told
