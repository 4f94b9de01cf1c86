-- What the sinks show of a replay whose run is counted.
use Rattle.std.specs.Prelude.{◌≡◌, ℕ, ◌⊎◌, List, [], ◌∷◌, ◌++◌}
use Rattle.sn_probe.specs.Probes.{Meter}
use Rattle.sink_pieces.specs.Pieces.{Piece, Report, Ends, after, Breaks, report_text, HasBeginning}
use Rattle.sn_io.specs.Outside.{followed_by}
use Rattle.script_replay.specs.declared.job.Replay.{Replay}
use Rattle.script_replay.specs.Probed.{told_all, tallies_due}
use Rattle.script_replay.specs.Shown.{pieces_due as replay_pieces, IsLawful, IsInStep, output_of, KnowApplied as KnowReplayed}
use Rattle.run_statistics.specs.Statistics.{statistics_of}
use Rattle.run_statistics.specs.Lines.{statistics_lines}

-- the lines of what is counted of its run
abbrev pub counted_lines : Replay → List ℕ
counted_lines r = statistics_lines r.config.nodes (statistics_of r.program r.config r.script)

-- the pieces of the replay, and then these lines
abbrev pub pieces_due : Replay → List Meter → List Piece
pieces_due r probes = replay_pieces r probes ++ Report (counted_lines r) ∷ []

-- all is written: the console has the output of the committed trace
pub record IsShown (r : Replay) (probes : List Meter) (before behind : Ends) : Type 0 where
  pub lawful : IsLawful r.program r.config r.script
  pub in_step : IsInStep r.program r.config r.showing (tallies_due r probes) r.script
  pub output : behind.console ≡ followed_by before.console (output_of r.program r.config r.script)

-- a sink broke: each has the beginning of its text, the console that of the output
pub record IsShownInPart (r : Replay) (probes : List Meter) (before behind : Ends) : Type 0 where
  pub lawful : IsLawful r.program r.config r.script
  pub in_step : IsInStep r.program r.config r.showing (tallies_due r probes) r.script
  pub output : HasBeginning (output_of r.program r.config r.script) before.console behind.console
  pub report : HasBeginning (report_text (pieces_due r probes)) before.report behind.report

-- it is done: all its pieces are put
pub record IsCounted (r : Replay) (probes : List Meter) (before behind : Ends) : Type 0 where
  pub put : behind ≡ after before (pieces_due r probes)
  pub shown : IsShown r probes before behind

-- a sink broke in it
pub record IsBrokenOff (r : Replay) (probes : List Meter) (before behind : Ends) : Type 0 where
  pub broken : Breaks (pieces_due r probes) before behind
  pub shown : IsShownInPart r probes before behind

-- the report broke in the statistics, once the probes were told all events
pub record BreaksInStatistics (r : Replay) (probes : List Meter) (before behind : Ends) (told : List Meter) : Type 0 where
  pub broken : Breaks (Report (counted_lines r) ∷ []) (after before (replay_pieces r probes)) behind
  pub knows : told ≡ told_all r probes

-- so the probes know just the events that were applied
abbrev pub KnowApplied : Replay → List Meter → Ends → Ends → List Meter → Type 0
KnowApplied r probes before behind told = KnowReplayed r probes before behind told ⊎ BreaksInStatistics r probes before behind told
