-- What the sinks show of a replay whose recovery point is saved.
use Rattle.std.specs.Prelude.{◌≡◌, ℕ, ◌+◌, ◌<◌, ◌≤◌, ◌⊎◌, List, [], ◌∷◌, ◌++◌, take, length, None, Ok}
use Rattle.sn_base.specs.declared.event.Event.{Event}
use Rattle.sn_base.specs.declared.event.Event.TheVariants.{Recover}
use Rattle.sn_base.specs.declared.limits.TheConstants.{EVENTS}
use Rattle.sn_saved.specs.Saved.{Saved, IsAccepted, saved_of}
use Rattle.sn_model.specs.PointEvents.{living_switches}
use Rattle.sn_saved.specs.Resumed.{resumed}
use Rattle.route_plan.specs.Routes.{first_cut_off}
use Rattle.sn_model.specs.Step.{step_of}
use Rattle.sn_model.specs.Machine.{State}
use Rattle.consistent_cuts.specs.Headline.{IsRun, IsConsistent, state_of_run, retirements}
use Rattle.sn_machine.specs.Machine.{MachineData}
use Rattle.sn_io.specs.Outside.{followed_by}
use Rattle.sn_probe.specs.Probes.{Meter}
use Rattle.sink_pieces.specs.Pieces.{Piece, Report, Ends, after, Breaks, console_text, HasBeginning}
use Rattle.script_replay.specs.declared.job.Showing.{Showing}
use Rattle.script_replay.specs.declared.job.ReportKind.TheVariants.{Summary}
use Rattle.script_replay.specs.Pieces.{turns_of}
use Rattle.script_replay.specs.Probed.{told_of_run}
use Rattle.script_replay.specs.Shown.{output_of}
use Rattle.save_text.specs.Text.{saved_text}
use Rattle.save_text.specs.Reading.{said_by}
use Rattle.saved_replay.specs.declared.job.SavedReplay.{SavedReplay}

-- one that may begin: its sizes and events fit, of which there are at most a million
pub record MaySave (r : SavedReplay) : Type 0 where
  pub run : IsRun r.config r.script
  pub few : length r.script ≤ EVENTS

-- the events on this machine, where it is at its program's start
abbrev pub job_of : MachineData → List Event → SavedReplay
job_of m events = record { program = m.image; config = m.config; script = events }

-- nothing of the events goes to the report, and no word is watched
abbrev pub unseen : Showing
unseen = record { report = Summary; watch = None }

-- the machine after all events, and what is saved of it
abbrev pub left_by : SavedReplay → State
left_by r = state_of_run r.program r.config r.script

abbrev pub saved_by : SavedReplay → Saved
saved_by r = saved_of r.config (left_by r) (length r.script)

-- what the events release, and then the save file
unfoldable pub pieces_due : SavedReplay → List Piece
pieces_due r = turns_of r.program r.config unseen r.script ++ Report (saved_text (saved_by r)) ∷ []

-- what the probes are told
abbrev pub told_script : SavedReplay → List Meter → List Meter
told_script r probes = told_of_run r.program r.config r.script probes

-- once these events, the first of its script, are applied
pub record IsMoment (r : SavedReplay) (first : List Event) : Type 0 where
  -- the committed trace is an execution without faults, and the recovery point a cut of it
  pub consistent : IsConsistent r.program r.config.nodes (state_of_run r.program r.config first) (retirements r.program r.config first)
  -- these pieces are put before all others
  pub others : List Piece
  pub order : turns_of r.program r.config unseen first ++ others ≡ pieces_due r
  -- and to the console they put that execution's output
  pub output : console_text (turns_of r.program r.config unseen first) ≡ output_of r.program r.config first

-- so it is at every moment of the script
abbrev pub IsLawful : SavedReplay → Type 0
IsLawful r = (i : ℕ) → IsMoment r (take i r.script)

-- what is saved is read back as it is; and where no two nodes are cut off, a machine may go on from it, in the state that a recovery
-- leaves of this one
pub record IsSaved (r : SavedReplay) : Type 0 where
  pub read : said_by (saved_text (saved_by r)) ≡ Ok (saved_by r)
  pub recovered : first_cut_off (living_switches (left_by r).fabric) ≡ None →
      (step_of r.program r.config (left_by r) Recover).state ≡ resumed r.program (saved_by r)
  pub accepted : first_cut_off (living_switches (left_by r).fabric) ≡ None → IsAccepted r.program (saved_by r)

-- it is done: all its pieces are put, and the console has the output of the committed trace
pub record IsDone (r : SavedReplay) (before behind : Ends) : Type 0 where
  pub put : behind ≡ after before (pieces_due r)
  pub lawful : IsLawful r
  pub saved : IsSaved r
  pub output : behind.console ≡ followed_by before.console (output_of r.program r.config r.script)
  pub report : behind.report ≡ followed_by before.report (saved_text (saved_by r))

-- a sink broke: each has the beginning of its text
pub record IsBrokenOff (r : SavedReplay) (before behind : Ends) : Type 0 where
  pub broken : Breaks (pieces_due r) before behind
  pub lawful : IsLawful r
  pub output : HasBeginning (output_of r.program r.config r.script) before.console behind.console
  pub report : HasBeginning (saved_text (saved_by r)) before.report behind.report

-- in the pieces of event i, counted from 0, and the probes were told the events up to that one and no others
pub record BreaksAt (r : SavedReplay) (probes : List Meter) (i : ℕ) (before behind : Ends) (told : List Meter) : Type 0 where
  pub below : i < length r.script
  pub pieces : List Piece
  pub are : turns_of r.program r.config unseen (take (i + 1) r.script) ≡ turns_of r.program r.config unseen (take i r.script) ++ pieces
  pub broken : Breaks pieces (after before (turns_of r.program r.config unseen (take i r.script))) behind
  pub knows : told ≡ told_of_run r.program r.config (take (i + 1) r.script) probes

-- in the save file, and the probes were told all events
pub record BreaksInSave (r : SavedReplay) (probes : List Meter) (before behind : Ends) (told : List Meter) : Type 0 where
  pub broken : Breaks (Report (saved_text (saved_by r)) ∷ []) (after before (turns_of r.program r.config unseen r.script)) behind
  pub knows : told ≡ told_script r probes

-- so the probes know just the events that were applied
abbrev pub KnowApplied : SavedReplay → List Meter → Ends → Ends → List Meter → Type 0
KnowApplied r probes before behind told = ((i : ℕ) × BreaksAt r probes i before behind told) ⊎ BreaksInSave r probes before behind told
