-- What the sinks show of a replay on a machine that goes on from a saved recovery point.
use Rattle.std.specs.Prelude.{◌≡◌, ℕ, ◌+◌, ◌<◌, ◌≤◌, ◌⊎◌, List, [], ◌++◌, map, take, length, Option}
use Rattle.sn_base.specs.declared.event.Event.{Event}
use Rattle.sn_base.specs.declared.limits.TheConstants.{EVENTS}
use Rattle.rv_core.specs.Execution.{out_of}
use Rattle.sn_saved.specs.Saved.{Saved}
use Rattle.sn_model.specs.Machine.{State}
use Rattle.sn_model.specs.Step.{state_after}
use Rattle.consistent_cuts.specs.Headline.{IsRun, IsConsistent}
use Rattle.consistent_cuts.specs.Origins.{Resumed, retirements_from, AddsTo}
use Rattle.sn_machine.specs.Machine.{MachineData, HasRunFrom}
use Rattle.sn_io.specs.Outside.{followed_by}
use Rattle.sn_probe.specs.Probes.{Meter, told_from, tallies_of}
use Rattle.sink_pieces.specs.Pieces.{Piece, Ends, after, Breaks, console_text, report_text, HasBeginning}
use Rattle.script_replay.specs.declared.job.Showing.{Showing}
use Rattle.script_replay.specs.declared.job.ReportKind.TheVariants.{Events}
use Rattle.script_replay.specs.Pieces.{turns_from, pieces_from}
use Rattle.script_replay.specs.Played.{IsWatchable}
use Rattle.script_replay.specs.Probed.{answers_along}
use Rattle.resumed_replay.specs.declared.job.ResumedReplay.{ResumedReplay}

-- one that may begin: its machine has just been made of what was saved, its events fit, of which there are at most a million, and it
-- watches a word of memory
pub record MayGoOn (r : ResumedReplay) : Type 0 where
  pub saved : Saved
  pub led : HasRunFrom r.machine (Resumed saved) []
  pub run : IsRun r.machine.config r.script
  pub few : length r.script ≤ EVENTS
  pub watched : IsWatchable r.watch

-- the events on this machine
abbrev pub job_of : MachineData → Option ℕ → List Event → ResumedReplay
job_of m watch events = record { machine = m; watch = watch; script = events }

-- each event's group goes to the report
abbrev pub with_events : Option ℕ → Showing
with_events watch = record { report = Events; watch = watch }

-- what the probes are told of events, numbered from 1, and of all of them
abbrev pub told_of : ResumedReplay → List Event → List Meter → List Meter
told_of r events probes = map (told_from 1 (answers_along r.machine.image r.machine.config r.machine.state events)) probes

abbrev pub told_script : ResumedReplay → List Meter → List Meter
told_script r probes = told_of r r.script probes

-- the pieces of events, whose places are counted from 1, and of all of them and the summary
unfoldable pub turns_of : ResumedReplay → List Event → List Piece
turns_of r events = turns_from r.machine.image r.machine.config (with_events r.watch) 0 r.machine.state events

unfoldable pub pieces_due : ResumedReplay → List Meter → List Piece
pieces_due r probes =
    pieces_from r.machine.image r.machine.config (with_events r.watch) (tallies_of (told_script r probes)) 0 r.machine.state r.script

-- the machine after events
abbrev pub left_by : ResumedReplay → List Event → State
left_by r events = state_after r.machine.image r.machine.config r.machine.state events

-- the output of what is committed then, and that of what was saved
abbrev pub output_of : ResumedReplay → State → List ℕ
output_of r s = out_of r.machine.image r.machine.config.nodes s.committed

-- these bytes are what its output then adds to that of what was saved
abbrev pub Adds : ResumedReplay → List Event → List ℕ → Type 0
Adds r events bytes = output_of r r.machine.state ++ bytes ≡ output_of r (left_by r events)

-- once these events, the first of its script, are applied to what goes on from `saved`
pub record IsMoment (r : ResumedReplay) (probes : List Meter) (saved : Saved) (first : List Event) : Type 0 where
  -- the committed trace, which begins with the saved records, is an execution without faults, and the recovery point a cut of it
  pub consistent : IsConsistent r.machine.image r.machine.config.nodes (left_by r first)
      (retirements_from r.machine.image r.machine.config (Resumed saved) first)
  pub adds : AddsTo r.machine.state (left_by r first)
  -- these pieces are put before all others
  pub others : List Piece
  pub order : turns_of r first ++ others ≡ pieces_due r probes
  -- and to the console they put what that execution's output adds
  pub output : Adds r first (console_text (turns_of r first))

-- so it is at every moment of the script
pub record IsLawful (r : ResumedReplay) (probes : List Meter) : Type 0 where
  pub saved : Saved
  pub led : HasRunFrom r.machine (Resumed saved) []
  pub moments : (i : ℕ) → IsMoment r probes saved (take i r.script)

-- it is done: all its pieces are put, and the console has what was put out after the saved bytes
pub record IsDone (r : ResumedReplay) (probes : List Meter) (before behind : Ends) : Type 0 where
  pub put : behind ≡ after before (pieces_due r probes)
  pub lawful : IsLawful r probes
  pub fresh : List ℕ
  pub adds : Adds r r.script fresh
  pub output : behind.console ≡ followed_by before.console fresh

-- a sink broke: each has the beginning of its text
pub record IsBrokenOff (r : ResumedReplay) (probes : List Meter) (before behind : Ends) : Type 0 where
  pub broken : Breaks (pieces_due r probes) before behind
  pub lawful : IsLawful r probes
  pub fresh : List ℕ
  pub adds : Adds r r.script fresh
  pub output : HasBeginning fresh before.console behind.console
  pub report : HasBeginning (report_text (pieces_due r probes)) before.report behind.report

-- in the pieces of event i, counted from 0, and the probes were told the events up to that one and no others
pub record BreaksAt (r : ResumedReplay) (probes : List Meter) (i : ℕ) (before behind : Ends) (told : List Meter) : Type 0 where
  pub below : i < length r.script
  pub pieces : List Piece
  pub are : turns_of r (take (i + 1) r.script) ≡ turns_of r (take i r.script) ++ pieces
  pub broken : Breaks pieces (after before (turns_of r (take i r.script))) behind
  pub knows : told ≡ told_of r (take (i + 1) r.script) probes

-- in the summary, and the probes were told all events
pub record BreaksAtEnd (r : ResumedReplay) (probes : List Meter) (before behind : Ends) (told : List Meter) : Type 0 where
  pub pieces : List Piece
  pub are : pieces_due r probes ≡ turns_of r r.script ++ pieces
  pub broken : Breaks pieces (after before (turns_of r r.script)) behind
  pub knows : told ≡ told_script r probes

-- so the probes know just the events that were applied
abbrev pub KnowApplied : ResumedReplay → List Meter → Ends → Ends → List Meter → Type 0
KnowApplied r probes before behind told = ((i : ℕ) × BreaksAt r probes i before behind told) ⊎ BreaksAtEnd r probes before behind told
