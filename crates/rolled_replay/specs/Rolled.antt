-- What the sinks show of a replay with a recovery.
use Rattle.std.specs.Prelude.{◌≡◌, ℕ, ◌+◌, ◌<◌, ◌≤◌, ◌⊎◌, true, List, ◌++◌, take, length, Option}
use Rattle.std.specs.List.{All}
use Rattle.consistent_cuts.specs.Headline.{IsRun, IsConsistent, state_of_run, retirements}
use Rattle.sn_base.specs.declared.event.Event.{Event}
use Rattle.sn_io.specs.Outside.{followed_by}
use Rattle.sn_machine.specs.Machine.{MachineData}
use Rattle.sn_probe.specs.Probes.{Meter, tallies_of}
use Rattle.sink_pieces.specs.Pieces.{Piece, Ends, after, Breaks, console_text, report_text, HasBeginning}
use Rattle.script_replay.specs.Pieces.{turns_of}
use Rattle.script_replay.specs.Played.{IsWatchable}
use Rattle.script_replay.specs.Probed.{told_of_run}
use Rattle.script_replay.specs.Shown.{output_of}
use Rattle.rolling_recovery.specs.declared.controls.Control.{Control}
use Rattle.rolling_recovery.specs.Controls.{control_fits}
use Rattle.rolled_replay.specs.declared.job.Roll.{Roll}
use Rattle.rolled_replay.specs.Stages.{stage_after}
use Rattle.rolled_replay.specs.Pieces.{machine_for, after_events, first_stage, quietly, rolled_pieces}
use Rattle.rolled_replay.specs.Led.{IsStageBy}
use Rattle.sn_base.specs.declared.limits.TheConstants.{EVENTS}

-- one that may begin: its sizes, events and controls fit, of either at most a million, and it watches a word of memory
pub record MayRoll (r : Roll) : Type 0 where
  pub run : IsRun r.config r.script
  pub few : length r.script ≤ EVENTS
  pub fit : All (λ call. control_fits r.config.nodes call ≡ true) r.controls
  pub short : length r.controls ≤ EVENTS
  pub watched : IsWatchable r.watch

-- events and controls for this machine, where it is at its program's start
abbrev pub roll_of : MachineData → Option ℕ → List Event → List Control → Roll
roll_of m watch events controls =
    record { program = m.image; config = m.config; watch = watch; script = events; controls = controls }

-- what the probes are told: the script's events, and nothing of the controls
abbrev pub told_script : Roll → List Meter → List Meter
told_script r probes = told_of_run r.program r.config r.script probes

abbrev pub pieces_due : Roll → List Meter → List Piece
pieces_due r probes = rolled_pieces r.program r.config r.watch (tallies_of (told_script r probes)) r.script r.controls

-- once these events, the first of its script, are applied
pub record IsMoment (r : Roll) (probes : List Meter) (first : List Event) : Type 0 where
  -- the committed trace is an execution without faults, and the recovery point a cut of it
  pub consistent : IsConsistent r.program r.config.nodes (state_of_run r.program r.config first) (retirements r.program r.config first)
  -- these pieces are put before all others
  pub others : List Piece
  pub order : turns_of r.program r.config (quietly r.watch) first ++ others ≡ pieces_due r probes
  -- and to the console they put that execution's output
  pub output : console_text (turns_of r.program r.config (quietly r.watch) first) ≡ output_of r.program r.config first

-- so it is at every moment of the script
abbrev pub IsLawful : Roll → List Meter → Type 0
IsLawful r probes = (i : ℕ) → IsMoment r probes (take i r.script)

-- the machine that the script leaves, and at every moment what the controls until then have led its recovery to
abbrev pub left_by : Roll → MachineData
left_by r = after_events (machine_for r.program r.config r.script) r.script

abbrev pub IsLed : Roll → Type 0
IsLed r = (i : ℕ) →
    IsStageBy (left_by r) (take i r.controls) (stage_after (first_stage r.program r.config r.script) (take i r.controls))

-- it is done: all its pieces are put, and the console has the output of the committed trace
pub record IsRolled (r : Roll) (probes : List Meter) (before behind : Ends) : Type 0 where
  pub put : behind ≡ after before (pieces_due r probes)
  pub lawful : IsLawful r probes
  pub led : IsLed r
  pub output : behind.console ≡ followed_by before.console (output_of r.program r.config r.script)

-- a sink broke: each has the beginning of its text, the console that of the output
pub record IsBrokenOff (r : Roll) (probes : List Meter) (before behind : Ends) : Type 0 where
  pub broken : Breaks (pieces_due r probes) before behind
  pub lawful : IsLawful r probes
  pub led : IsLed r
  pub output : HasBeginning (output_of r.program r.config r.script) before.console behind.console
  pub report : HasBeginning (report_text (pieces_due r probes)) before.report behind.report

-- in the pieces of event i, counted from 0, and the probes were told the events up to that one and no others
pub record BreaksAt (r : Roll) (probes : List Meter) (i : ℕ) (before behind : Ends) (told : List Meter) : Type 0 where
  pub below : i < length r.script
  pub pieces : List Piece
  pub are : turns_of r.program r.config (quietly r.watch) (take (i + 1) r.script)
      ≡ turns_of r.program r.config (quietly r.watch) (take i r.script) ++ pieces
  pub broken : Breaks pieces (after before (turns_of r.program r.config (quietly r.watch) (take i r.script))) behind
  pub knows : told ≡ told_of_run r.program r.config (take (i + 1) r.script) probes

-- in the pieces after them, and the probes were told all events
pub record BreaksLater (r : Roll) (probes : List Meter) (before behind : Ends) (told : List Meter) : Type 0 where
  pub pieces : List Piece
  pub are : pieces_due r probes ≡ turns_of r.program r.config (quietly r.watch) r.script ++ pieces
  pub broken : Breaks pieces (after before (turns_of r.program r.config (quietly r.watch) r.script)) behind
  pub knows : told ≡ told_script r probes

-- so the probes know just the events that were applied
abbrev pub KnowApplied : Roll → List Meter → Ends → Ends → List Meter → Type 0
KnowApplied r probes before behind told = ((i : ℕ) × BreaksAt r probes i before behind told) ⊎ BreaksLater r probes before behind told
