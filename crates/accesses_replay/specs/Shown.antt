-- What the sinks show of a replay with the accesses of its committed trace.
use Rattle.std.specs.Prelude.{◌≡◌, ℕ, ◌⊎◌, List, ◌++◌, take, length}
use Rattle.rv_core.specs.Execution.{IsExecution}
use Rattle.consistent_cuts.specs.Headline.{IsConsistent, state_of_run, retirements}
use Rattle.sn_base.specs.declared.event.Event.{Event}
use Rattle.sn_io.specs.Outside.{followed_by}
use Rattle.sn_probe.specs.Probes.{Meter}
use Rattle.sink_pieces.specs.Pieces.{Piece, Ends, after, Breaks, console_text, report_text, HasBeginning}
use Rattle.script_replay.specs.declared.job.Replay.{Replay}
use Rattle.script_replay.specs.Pieces.{turns_of}
use Rattle.script_replay.specs.Probed.{told_all, tallies_due}
use Rattle.script_replay.specs.Shown.{committed_by, output_of, BreaksAt}
use Rattle.accesses_replay.specs.Pieces.{quietly, end_pieces, pieces_of}

-- what is put at the end, and all pieces, where these probes are told its events
abbrev pub end_due : Replay → List Meter → List Piece
end_due r probes =
    end_pieces r.program r.config r.showing.watch (tallies_due r probes) (length r.script) (state_of_run r.program r.config r.script)

abbrev pub pieces_due : Replay → List Meter → List Piece
pieces_due r probes = pieces_of r.program r.config r.showing.watch (tallies_due r probes) r.script

-- once these events, the first of its script, are applied
pub record IsMoment (r : Replay) (probes : List Meter) (first : List Event) : Type 0 where
  -- the committed trace is an execution without faults, and the recovery point a cut of it
  pub consistent : IsConsistent r.program r.config.nodes (state_of_run r.program r.config first) (retirements r.program r.config first)
  -- these pieces are put before all others
  pub others : List Piece
  pub order : turns_of r.program r.config (quietly r.showing.watch) first ++ others ≡ pieces_due r probes
  -- and to the console they put that execution's output
  pub output : console_text (turns_of r.program r.config (quietly r.showing.watch) first) ≡ output_of r.program r.config first

-- so it is at the start, after each event, and at the end
abbrev pub IsLawful : Replay → List Meter → Type 0
IsLawful r probes = (i : ℕ) → IsMoment r probes (take i r.script)

-- all is written: the console has the output of the committed trace, which is an execution of the program, and the report its rows and
-- the summary, and nothing else
pub record IsShown (r : Replay) (probes : List Meter) (before behind : Ends) : Type 0 where
  pub lawful : IsLawful r probes
  pub execution : IsExecution r.program r.config.nodes (committed_by r.program r.config r.script)
  pub output : behind.console ≡ followed_by before.console (output_of r.program r.config r.script)
  pub rows : behind.report ≡ followed_by before.report (report_text (end_due r probes))

-- a sink broke: each has the beginning of its text, the console that of the output, the report that of the rows and the summary
pub record IsShownInPart (r : Replay) (probes : List Meter) (before behind : Ends) : Type 0 where
  pub lawful : IsLawful r probes
  pub execution : IsExecution r.program r.config.nodes (committed_by r.program r.config r.script)
  pub output : HasBeginning (output_of r.program r.config r.script) before.console behind.console
  pub rows : HasBeginning (report_text (end_due r probes)) before.report behind.report

-- it is done: all its pieces are put
pub record IsDone (r : Replay) (probes : List Meter) (before behind : Ends) : Type 0 where
  pub put : behind ≡ after before (pieces_due r probes)
  pub shown : IsShown r probes before behind

-- a sink broke in it
pub record IsBrokenOff (r : Replay) (probes : List Meter) (before behind : Ends) : Type 0 where
  pub broken : Breaks (pieces_due r probes) before behind
  pub shown : IsShownInPart r probes before behind

-- the report broke in the rows or the summary, and the probes were told all events
pub record BreaksInRows (r : Replay) (probes : List Meter) (before behind : Ends) (told : List Meter) : Type 0 where
  pub broken : Breaks (end_due r probes) (after before (turns_of r.program r.config (quietly r.showing.watch) r.script)) behind
  pub knows : told ≡ told_all r probes

-- a sink broke in the pieces of an event, and the probes were told the events up to that one and no others
abbrev pub BreaksInEvent : Replay → List Meter → Ends → Ends → List Meter → Type 0
BreaksInEvent r probes before behind told = (i : ℕ) × BreaksAt (record r { showing = quietly r.showing.watch }) probes i before behind told

-- so the probes know just the events that were applied
abbrev pub KnowApplied : Replay → List Meter → Ends → Ends → List Meter → Type 0
KnowApplied r probes before behind told = BreaksInEvent r probes before behind told ⊎ BreaksInRows r probes before behind told
