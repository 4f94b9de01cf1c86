-- What the sinks show of a replay: at every moment the committed trace is an execution of the program on the flat machine,
-- without faults, and the console has the bytes that it puts out.
use Rattle.std.specs.Prelude.{◌≡◌, ℕ, ◌+◌, ◌<◌, ◌⊎◌, List, ◌++◌, take, length, codes, Option, Ok}
use Rattle.sn_base.specs.Image.{ImageData}
use Rattle.sn_base.specs.declared.config.Config.{Config}
use Rattle.sn_base.specs.declared.event.Event.{Event}
use Rattle.rv_core.specs.declared.step.Record.{Record}
use Rattle.rv_core.specs.Execution.{IsExecution, out_of}
use Rattle.due_events.specs.Headline.{IsConsistent, state_of_run, retirements}
use Rattle.sn_io.specs.Outside.{followed_by}
use Rattle.sn_text.specs.Trace.{trace_of}
use Rattle.sn_text.specs.Written.{trace_text}
use Rattle.sn_probe.specs.Probes.{Meter}
use Rattle.sink_pieces.specs.Pieces.{Piece, Ends, after, Breaks, console_text, report_text, HasBeginning}
use Rattle.script_replay.specs.declared.job.Showing.{Showing}
use Rattle.script_replay.specs.declared.job.ReportKind.TheVariants.{Trace}
use Rattle.script_replay.specs.declared.job.Replay.{Replay}
use Rattle.script_replay.specs.Pieces.{summary_pieces, turns_of, pieces_of}
use Rattle.script_replay.specs.Probed.{told_of_run, told_all, tallies_due}

-- the committed trace after all events, and its output
abbrev pub committed_by : ImageData → Config → List Event → List Record
committed_by image config events = (state_of_run image config events).committed

abbrev pub output_of : ImageData → Config → List Event → List ℕ
output_of image config events = out_of image config.nodes (committed_by image config events)

-- at every moment of a run, at its start, after each event and at its end, the committed trace is an execution without faults, and
-- the recovery point a cut of it
abbrev pub IsLawful : ImageData → Config → List Event → Type 0
IsLawful image config events =
    (i : ℕ) → IsConsistent image config.nodes (state_of_run image config (take i events)) (retirements image config (take i events))

-- what is put once these events, the first of a replay's, are applied
pub record IsMoment (image : ImageData) (config : Config) (showing : Showing) (tallies : List (List ℕ)) (first all : List Event) : Type 0 where
  -- these pieces are put before all others
  pub others : List Piece
  pub order : turns_of image config showing first ++ others ≡ pieces_of image config showing tallies all
  -- and to the console they put the output of the committed trace
  pub output : console_text (turns_of image config showing first) ≡ output_of image config first

-- so it is at the start, after each event, and at the end
abbrev pub IsInStep : ImageData → Config → Showing → List (List ℕ) → List Event → Type 0
IsInStep image config showing tallies events = (i : ℕ) → IsMoment image config showing tallies (take i events) events

-- the committed trace, and then the summary, marked as comments
abbrev pub written_trace : ImageData → Config → Option ℕ → List (List ℕ) → List Event → List ℕ
written_trace image config watch tallies events = trace_text (committed_by image config events)
    ++ report_text (summary_pieces (codes "# ") image config watch tallies (length events) (state_of_run image config events))

-- the report is this text, which is read as the records of an execution of the program
pub record IsTrace (image : ImageData) (config : Config) (watch : Option ℕ) (tallies : List (List ℕ)) (events : List Event) (before behind : Option (List ℕ)) : Type 0 where
  pub execution : IsExecution image config.nodes (committed_by image config events)
  pub written : behind ≡ followed_by before (written_trace image config watch tallies events)
  pub read : trace_of config.nodes (written_trace image config watch tallies events) ≡ Ok (committed_by image config events)

-- all is written: the console has the output of the committed trace, and where the trace is asked for, the report has it
pub record IsShown (image : ImageData) (config : Config) (showing : Showing) (tallies : List (List ℕ)) (events : List Event) (before behind : Ends) : Type 0 where
  pub lawful : IsLawful image config events
  pub in_step : IsInStep image config showing tallies events
  pub output : behind.console ≡ followed_by before.console (output_of image config events)
  pub traced : showing.report ≡ Trace → IsTrace image config showing.watch tallies events before.report behind.report

-- a sink broke: each has the beginning of its text, the console that of the output
pub record IsShownInPart (image : ImageData) (config : Config) (showing : Showing) (tallies : List (List ℕ)) (events : List Event) (before behind : Ends) : Type 0 where
  pub lawful : IsLawful image config events
  pub in_step : IsInStep image config showing tallies events
  pub output : HasBeginning (output_of image config events) before.console behind.console
  pub report : HasBeginning (report_text (pieces_of image config showing tallies events)) before.report behind.report

-- the pieces of a replay that these probes are told
abbrev pub pieces_due : Replay → List Meter → List Piece
pieces_due r probes = pieces_of r.program r.config r.showing (tallies_due r probes) r.script

-- a replay is done: all its pieces are put
pub record IsReplayed (r : Replay) (probes : List Meter) (before behind : Ends) : Type 0 where
  pub put : behind ≡ after before (pieces_due r probes)
  pub shown : IsShown r.program r.config r.showing (tallies_due r probes) r.script before behind

-- a sink broke in a replay
pub record IsBrokenOff (r : Replay) (probes : List Meter) (before behind : Ends) : Type 0 where
  pub broken : Breaks (pieces_due r probes) before behind
  pub shown : IsShownInPart r.program r.config r.showing (tallies_due r probes) r.script before behind

-- a sink broke in the pieces of event i, counted from 0, and the probes were told the events up to that one and no others
pub record BreaksAt (r : Replay) (probes : List Meter) (i : ℕ) (before behind : Ends) (told : List Meter) : Type 0 where
  pub below : i < length r.script
  pub pieces : List Piece
  pub are : turns_of r.program r.config r.showing (take (i + 1) r.script) ≡ turns_of r.program r.config r.showing (take i r.script)
      ++ pieces
  pub broken : Breaks pieces (after before (turns_of r.program r.config r.showing (take i r.script))) behind
  pub knows : told ≡ told_of_run r.program r.config (take (i + 1) r.script) probes

-- a sink broke in the pieces of the end, and the probes were told all events
pub record BreaksAtEnd (r : Replay) (probes : List Meter) (before behind : Ends) (told : List Meter) : Type 0 where
  pub pieces : List Piece
  pub are : pieces_due r probes ≡ turns_of r.program r.config r.showing r.script ++ pieces
  pub broken : Breaks pieces (after before (turns_of r.program r.config r.showing r.script)) behind
  pub knows : told ≡ told_all r probes

-- so the probes know just the events that were applied
abbrev pub KnowApplied : Replay → List Meter → Ends → Ends → List Meter → Type 0
KnowApplied r probes before behind told = ((i : ℕ) × BreaksAt r probes i before behind told) ⊎ BreaksAtEnd r probes before behind told
