-- What is promised of a drive.
use Rattle.std.specs.Prelude.{◌≡◌, ℕ, ◌≤◌, Bool, true, false, List, [], ◌∷◌, ◌++◌, length, take, filter, Option, IfSome}
use Rattle.sn_base.specs.declared.event.Event.{Event}
use Rattle.consistent_cuts.specs.Headline.{IsRun, state_of_run}
use Rattle.sn_io.specs.Outside.{followed_by}
use Rattle.line_source.specs.Lines.{LineRead, lines_and, first_of_lines}
use Rattle.sn_machine.specs.Machine.{MachineData}
use Rattle.sn_probe.specs.Probes.{Meter, tallies_of}
use Rattle.sink_pieces.specs.Pieces.{Piece, Ends, after, Breaks, console_text}
use Rattle.script_replay.specs.Played.{IsWatchable}
use Rattle.script_replay.specs.Probed.{told_of_run}
use Rattle.script_replay.specs.Shown.{IsLawful, output_of}
use Rattle.driven_replay.specs.declared.job.DriveShowing.{DriveShowing}
use Rattle.driven_replay.specs.declared.job.Drive.{Drive}
use Rattle.driven_replay.specs.declared.job.Said.{Said}
use Rattle.driven_replay.specs.declared.job.Said.TheVariants.{Does}
use Rattle.driven_replay.specs.declared.driving.DriveEnd.{DriveEnd}
use Rattle.driven_replay.specs.declared.driving.DriveEnd.TheVariants.{Whole, TooMany}
use Rattle.driven_replay.specs.Pieces.{watch_of, ShowsStates, start_pieces, end_pieces, replay_pieces}
use Rattle.driven_replay.specs.Said.{said_by, events_of, NeverBack, WantsMemory}
use Rattle.driven_replay.specs.Answers.{answer_to, pieces_to, over_pieces, last_of_drive, driven_pieces}
use Rattle.driven_replay.specs.Told.{told_along}
use Rattle.sn_base.specs.declared.limits.TheConstants.{EVENTS}

-- a drive that may begin: its sizes fit, and it watches a word of memory
pub record MayDrive (d : Drive) : Type 0 where
  pub sizes : IsRun d.config []
  pub watched : IsWatchable (watch_of d.showing)

-- a drive of this machine, where it is at its program's start
abbrev pub drive_on : MachineData → DriveShowing → Drive
drive_on m showing = record { program = m.image; config = m.config; showing = showing }

-- the events that are done after these lines
abbrev pub done_in : Drive → List LineRead → List Event
done_in d lines = events_of d.config.nodes lines

-- what is put at the start, and of these lines
abbrev pub start_in : Drive → List Piece
start_in d = start_pieces d.program d.config d.showing

abbrev pub pieces_in : Drive → List LineRead → List Piece
pieces_in d lines = pieces_to d.program d.config d.showing lines

-- what the probes are told of them
abbrev pub told_in : Drive → List LineRead → List Meter → List Meter
told_in d lines probes = told_along d.program d.config [] lines probes

abbrev pub last_in : Drive → List Meter → DriveEnd → List LineRead → List Piece
last_in d probes how lines = last_of_drive d.program d.config d.showing (tallies_of (told_in d lines probes)) how lines

-- what a source tells: the lines that were read, and those that are still to come
pub record SourceData : Type 0 where
  pub read : Option (List LineRead)
  pub left : Option (List LineRead)

abbrev pub source : Option (List LineRead) → Option (List LineRead) → SourceData
source read left = record { read = read; left = left }

-- these lines were read and no others
pub record AreRead (lines : List LineRead) (before behind : SourceData) : Type 0 where
  pub read : behind.read ≡ lines_and before.read lines
  pub left : before.left ≡ first_of_lines lines behind.left

-- the lines that do an event
abbrev pub is_event : Said → Bool
is_event (Does event) = true
is_event _ = false

abbrev pub good_lines : ℕ → List LineRead → List LineRead
good_lines nodes lines = filter (λ line. is_event (said_by nodes line)) lines

-- a replay of the events of these lines puts what a drive does at the start, of the lines that do an event, and at the end
abbrev pub IsReplayed : Drive → List (List ℕ) → List LineRead → Type 0
IsReplayed d tallies lines = let events = done_in d lines in
    replay_pieces d.program d.config d.showing tallies events
    ≡ pieces_in d (good_lines d.config.nodes lines)
    ++ end_pieces d.program d.config d.showing tallies (length events) (state_of_run d.program d.config events)

-- what holds of lines that are answered
pub record AreAnswered (d : Drive) (lines : List LineRead) : Type 0 where
  -- once the first of the lines are answered, at most a million events are done
  pub few : (i : ℕ) → length (done_in d (take i lines)) ≤ EVENTS
  -- at every moment of them the committed trace is an execution without faults, and the recovery point a cut of it
  pub lawful : (i : ℕ) → IsLawful d.program d.config (done_in d (take i lines))
  -- as long as none goes back, the console has got that execution's output
  pub in_step : (i : ℕ) → NeverBack d.config.nodes (take i lines) →
      console_text (pieces_in d (take i lines)) ≡ output_of d.program d.config (done_in d (take i lines))
  -- where none goes back, a replay puts the same, and the probes were told the same
  pub replayed : NeverBack d.config.nodes lines → (tallies : List (List ℕ)) → IsReplayed d tallies lines
  pub told : NeverBack d.config.nodes lines → (probes : List Meter) →
      told_in d lines probes ≡ told_of_run d.program d.config (done_in d lines) probes

-- they were all that were read, or a million events are done and one more line was read, which does an event
abbrev pub IsAtEnd : Drive → List LineRead → DriveEnd → SourceData → SourceData → Type 0
IsAtEnd d lines Whole before behind = AreRead lines before behind × IfSome behind.left (λ others. others ≡ [])
IsAtEnd d lines TooMany before behind = (length (done_in d lines) ≡ EVENTS)
    × ((last : LineRead) × (event : Event) × (said_by d.config.nodes last ≡ Does event) × AreRead (lines ++ last ∷ []) before behind)

-- a drive is done: the start was put, its lines were answered, and then the end was put
pub record IsDriven (d : Drive) (how : DriveEnd) (lines : List LineRead) (probes : List Meter) (before behind : Ends) (told : List Meter) : Type 0 where
  pub answered : AreAnswered d lines
  pub put : behind ≡ after before (driven_pieces d.program d.config d.showing (tallies_of (told_in d lines probes)) how lines)
  pub output : NeverBack d.config.nodes lines → behind.console ≡ followed_by before.console (output_of d.program d.config (done_in d lines))
  pub knows : told ≡ told_in d lines probes

-- the source failed: all lines that were read were answered, and nothing more was put
pub record IsLeftOff (d : Drive) (lines : List LineRead) (probes : List Meter) (before behind : Ends) (told : List Meter) : Type 0 where
  pub answered : AreAnswered d lines
  pub put : behind ≡ after before (pieces_in d lines)
  pub knows : told ≡ told_in d lines probes

-- memory was wanted for the look, the way back or the event that the last line asks for: those before it were answered, and nothing
-- more was put
pub record LacksMemory (d : Drive) (lines : List LineRead) (last : LineRead) (probes : List Meter) (before behind : Ends) (told : List Meter) : Type 0 where
  pub asks : WantsMemory d.showing (done_in d lines) (said_by d.config.nodes last)
  pub others : IsLeftOff d lines probes before behind told

-- or it was wanted for the last line of states: all lines were answered, and nothing more was put but that there is no room for an
-- event more, if so
pub record LacksMemoryAtEnd (d : Drive) (how : DriveEnd) (lines : List LineRead) (probes : List Meter) (before behind : Ends) (told : List Meter) : Type 0 where
  pub shows : ShowsStates d.showing
  pub answered : AreAnswered d lines
  pub put : behind ≡ after before (pieces_in d lines ++ over_pieces how)
  pub knows : told ≡ told_in d lines probes

-- a sink broke in the start, and the probes were told nothing
pub record BreaksAtStart (d : Drive) (probes : List Meter) (before behind : Ends) (told : List Meter) : Type 0 where
  pub broken : Breaks (start_in d) before behind
  pub knows : told ≡ probes

-- a sink broke in the answer to the last line that was read; those before it were answered, and the probes know its event
pub record BreaksInAnswer (d : Drive) (lines : List LineRead) (last : LineRead) (probes : List Meter) (before behind : Ends) (told : List Meter) : Type 0 where
  pub answered : AreAnswered d lines
  pub broken : Breaks (answer_to d.program d.config d.showing lines last) (after before (pieces_in d lines)) behind
  pub knows : told ≡ told_in d (lines ++ last ∷ []) probes

-- a sink broke in the end
pub record BreaksAtEnd (d : Drive) (how : DriveEnd) (lines : List LineRead) (probes : List Meter) (before behind : Ends) (told : List Meter) : Type 0 where
  pub answered : AreAnswered d lines
  pub broken : Breaks (last_in d probes how lines) (after before (pieces_in d lines)) behind
  pub knows : told ≡ told_in d lines probes
