-- What the sinks show of a replay that shows states.
use Rattle.std.specs.Prelude.{◌≡◌, ℕ, ◌+◌, ◌<◌, ◌≤◌, ◌⊎◌, List, ◌++◌, take, length}
use Rattle.sn_base.specs.declared.event.Event.{Event}
use Rattle.sn_model.specs.Machine.{start_of}
use Rattle.consistent_cuts.specs.Headline.{IsRun, IsConsistent, state_of_run, retirements}
use Rattle.sn_io.specs.Outside.{followed_by}
use Rattle.sn_probe.specs.Probes.{Meter, tallies_of}
use Rattle.sink_pieces.specs.Pieces.{Piece, Ends, after, Breaks, console_text, report_text, HasBeginning}
use Rattle.script_replay.specs.Played.{IsWatchable}
use Rattle.script_replay.specs.Probed.{told_of_run}
use Rattle.script_replay.specs.Shown.{output_of}
use Rattle.shown_states.specs.declared.job.StatesReplay.{StatesReplay}
use Rattle.shown_states.specs.Pieces.{report_piece, opening_text, turns_of, pieces_of}
use Rattle.sn_base.specs.declared.limits.TheConstants.{EVENTS}

-- one that may begin: its sizes and events fit, of which there are at most a million, and it watches a word of memory
pub record MayBegin (r : StatesReplay) : Type 0 where
  pub run : IsRun r.config r.script
  pub few : length r.script ≤ EVENTS
  pub watched : IsWatchable r.watch

-- the pieces of its start and of its first i events, and all pieces, where these probes are told its events
abbrev pub first_pieces : StatesReplay → ℕ → List Piece
first_pieces r i = turns_of r.program r.config r.only (take i r.script)

abbrev pub told_first : StatesReplay → ℕ → List Meter → List Meter
told_first r i probes = told_of_run r.program r.config (take i r.script) probes

abbrev pub told_script : StatesReplay → List Meter → List Meter
told_script r probes = told_of_run r.program r.config r.script probes

abbrev pub pieces_due : StatesReplay → List Meter → List Piece
pieces_due r probes = pieces_of r.program r.config r.only r.watch (tallies_of (told_script r probes)) r.script

-- once these events, the first of its script, are applied
pub record IsMoment (r : StatesReplay) (probes : List Meter) (first : List Event) : Type 0 where
  -- the committed trace is an execution without faults, and the recovery point a cut of it
  pub consistent : IsConsistent r.program r.config.nodes (state_of_run r.program r.config first) (retirements r.program r.config first)
  -- these pieces are put before all others
  pub others : List Piece
  pub order : turns_of r.program r.config r.only first ++ others ≡ pieces_due r probes
  -- and to the console they put that execution's output
  pub output : console_text (turns_of r.program r.config r.only first) ≡ output_of r.program r.config first

-- so it is at the start, after each event, and at the end
abbrev pub IsLawful : StatesReplay → List Meter → Type 0
IsLawful r probes = (i : ℕ) → IsMoment r probes (take i r.script)

-- it is done: all its pieces are put, and the console has the output of the committed trace
pub record IsShown (r : StatesReplay) (probes : List Meter) (before behind : Ends) : Type 0 where
  pub put : behind ≡ after before (pieces_due r probes)
  pub lawful : IsLawful r probes
  pub output : behind.console ≡ followed_by before.console (output_of r.program r.config r.script)

-- a sink broke: each has the beginning of its text, the console that of the output
pub record IsShownInPart (r : StatesReplay) (probes : List Meter) (before behind : Ends) : Type 0 where
  pub broken : Breaks (pieces_due r probes) before behind
  pub lawful : IsLawful r probes
  pub output : HasBeginning (output_of r.program r.config r.script) before.console behind.console
  pub report : HasBeginning (report_text (pieces_due r probes)) before.report behind.report

-- in the first line at the start, and the probes were told no event
pub record BreaksAtStart (r : StatesReplay) (probes : List Meter) (before behind : Ends) (told : List Meter) : Type 0 where
  pub broken : Breaks (report_piece (opening_text r.program r.config r.only 0 (start_of r.program r.config.nodes))) before behind
  pub knows : told ≡ probes

-- in the pieces of event i, counted from 0, and the probes were told the events up to that one and no others
pub record BreaksAt (r : StatesReplay) (probes : List Meter) (i : ℕ) (before behind : Ends) (told : List Meter) : Type 0 where
  pub below : i < length r.script
  pub pieces : List Piece
  pub are : first_pieces r (i + 1) ≡ first_pieces r i ++ pieces
  pub broken : Breaks pieces (after before (first_pieces r i)) behind
  pub knows : told ≡ told_first r (i + 1) probes

-- in the summary, and the probes were told all events
pub record BreaksAtEnd (r : StatesReplay) (probes : List Meter) (before behind : Ends) (told : List Meter) : Type 0 where
  pub pieces : List Piece
  pub are : pieces_due r probes ≡ turns_of r.program r.config r.only r.script ++ pieces
  pub broken : Breaks pieces (after before (turns_of r.program r.config r.only r.script)) behind
  pub knows : told ≡ told_script r probes

-- so the probes know just the events that were applied
abbrev pub KnowApplied : StatesReplay → List Meter → Ends → Ends → List Meter → Type 0
KnowApplied r probes before behind told =
    BreaksAtStart r probes before behind told
    ⊎ (((i : ℕ) × BreaksAt r probes i before behind told) ⊎ BreaksAtEnd r probes before behind told)

-- memory was wanted after the first i events: their pieces are put whole, and no others; the probes were told just them, and the
-- console has the output of the trace that was committed then
pub record IsCutShortAt (r : StatesReplay) (probes : List Meter) (i : ℕ) (before behind : Ends) (told : List Meter) : Type 0 where
  pub within : i ≤ length r.script
  pub put : behind ≡ after before (first_pieces r i)
  pub lawful : IsLawful r probes
  pub output : behind.console ≡ followed_by before.console (output_of r.program r.config (take i r.script))
  pub knows : told ≡ told_first r i probes

abbrev pub IsCutShort : StatesReplay → List Meter → Ends → Ends → List Meter → Type 0
IsCutShort r probes before behind told = (i : ℕ) × IsCutShortAt r probes i before behind told
