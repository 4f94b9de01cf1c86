-- What a line makes of the machine and of the probes.
use Rattle.std.specs.Prelude.{◌≡◌, ℕ, ◌+◌, ◌≤◌, true, nat_lt, if◌then◌else◌, List, [], ◌∷◌, ◌++◌, take, length, Option, Some, None, IfSome}
use Rattle.sn_base.specs.Config.{config_fits}
use Rattle.sn_base.specs.Image.{ImageData}
use Rattle.sn_base.specs.declared.config.Config.{Config}
use Rattle.sn_base.specs.declared.event.Event.{Event}
use Rattle.sn_model.specs.Machine.{start_of}
use Rattle.sn_machine.specs.Machine.{MachineData, machine_with_room, next_of}
use Rattle.consistent_cuts.specs.Headline.{state_of_run}
use Rattle.consistent_cuts.specs.Runs.{AllFit}
use Rattle.due_events.specs.Numbers.{numbers_after}
use Rattle.sn_driver.specs.Driver.{DriverData}
use Rattle.line_source.specs.Lines.{LineRead}
use Rattle.sn_probe.specs.Probes.{Meter}
use Rattle.sink_pieces.specs.Pieces.{Piece, Ends, after, Breaks}
use Rattle.script_replay.specs.Played.{after_event, told_next}
use Rattle.driven_replay.specs.declared.job.DriveShowing.{DriveShowing}
use Rattle.driven_replay.specs.declared.job.Said.{Said}
use Rattle.driven_replay.specs.declared.job.Said.TheVariants.{Does, Back}
use Rattle.driven_replay.specs.Pieces.{start_pieces, event_pieces, end_pieces}
use Rattle.driven_replay.specs.Dues.{usual_rules, numbers_of}
use Rattle.driven_replay.specs.Said.{said_by, events_of}
use Rattle.driven_replay.specs.Answers.{answer_of, answer_to, answers_to}
use Rattle.driven_replay.specs.Told.{told_along}
use Rattle.driven_replay.specs.Driven.{SourceData, AreRead}
use Rattle.sn_base.specs.declared.limits.TheConstants.{EVENTS}

-- the pieces of a machine's start, of its next event, and of its end
abbrev pub start_now : MachineData → DriveShowing → List Piece
start_now m showing = start_pieces m.image m.config showing

abbrev pub event_now : MachineData → DriveShowing → Event → List Piece
event_now m showing event = event_pieces m.image m.config showing (m.applied + 1) m.state event

abbrev pub end_now : MachineData → DriveShowing → List (List ℕ) → List Piece
end_now m showing tallies = end_pieces m.image m.config showing tallies m.applied m.state

-- the answer that a machine gives, with a driver that has counted its events
abbrev pub answer_now : MachineData → DriverData → DriveShowing → ℕ → Said → List Piece
answer_now m driver showing number said = answer_of m.image m.config showing m.applied m.state driver.numbers number said

-- a machine at its program's start, with room for a million events
abbrev pub fresh_machine : ImageData → Config → MachineData
fresh_machine image config = machine_with_room image config EVENTS

-- a driver by the usual rules that has counted these events of a machine that began so
abbrev pub driver_of : MachineData → List Event → DriverData
driver_of start done = record { rules = usual_rules; nodes = start.config.nodes; numbers = numbers_of start.image start.config done }

-- the machine that events leave
abbrev pub after_events : MachineData → List Event → MachineData
after_events m [] = m
after_events m (event ∷ events) = after_events (after_event m event) events

-- one made anew, to which the first so many of the events that are done were applied; where there are no so many, the same
abbrev pub machine_back : MachineData → List Event → ℕ → MachineData
machine_back m done events = if nat_lt m.applied events then m else after_events (fresh_machine m.image m.config) (take events done)

abbrev pub driver_back : DriverData → MachineData → List Event → ℕ → DriverData
driver_back driver m done events = if nat_lt m.applied events then driver else driver_of m (take events done)

-- a line makes this of a machine to which these events were applied, of its driver, and of what the probes know
abbrev pub machine_after : MachineData → List Event → Said → MachineData
machine_after m done (Does event) = after_event m event
machine_after m done (Back events) = machine_back m done events
machine_after m done _ = m

abbrev pub driver_after : DriverData → MachineData → List Event → Said → DriverData
driver_after driver m done (Does event) = record driver { numbers = numbers_after driver.numbers event (next_of m event).answer }
driver_after driver m done (Back events) = driver_back driver m done events
driver_after driver m done _ = driver

abbrev pub told_after : MachineData → Said → List Meter → List Meter
told_after m (Does event) probes = told_next m event probes
told_after m _ probes = probes

-- a machine with fitting sizes at its program's start, with room for a million events
pub record IsFresh (m : MachineData) : Type 0 where
  pub sizes : config_fits m.config ≡ true
  pub start : m.state ≡ start_of m.image m.config.nodes
  pub new : m.applied ≡ 0
  pub room : m.spare ≡ EVENTS

-- a million events at most, which fit; and so it is at every moment of these lines
pub record MayBeDone (nodes : ℕ) (done : List Event) : Type 0 where
  pub few : length done ≤ EVENTS
  pub fit : AllFit nodes done

abbrev pub MayBeDoneAlong : ℕ → List LineRead → Type 0
MayBeDoneAlong nodes lines = (i : ℕ) → MayBeDone nodes (events_of nodes (take i lines))

-- the machine is where these events lead it, which fit
pub record IsAfter (start : MachineData) (done : List Event) (m : MachineData) : Type 0 where
  pub program : m.image ≡ start.image
  pub sizes : m.config ≡ start.config
  pub state : m.state ≡ state_of_run start.image start.config done
  pub count : m.applied ≡ length done
  pub room : m.applied + m.spare ≡ EVENTS
  pub fit : AllFit start.config.nodes done

-- these lines were answered
pub record HasAnswered (start : MachineData) (showing : DriveShowing) (lines : List LineRead) (probes : List Meter) (before : Ends) (m : MachineData) (told : List Meter) (behind : Ends) : Type 0 where
  pub at : IsAfter start (events_of start.config.nodes lines) m
  pub moments : MayBeDoneAlong start.config.nodes lines
  pub put : behind ≡ after before (answers_to start.image start.config showing lines)
  pub knows : told ≡ told_along start.image start.config [] lines probes

-- these lines were answered, and the answer to one more was broken off
pub record BreaksOff (start : MachineData) (showing : DriveShowing) (lines : List LineRead) (last : LineRead) (probes : List Meter) (before : Ends) (told : List Meter) (behind : Ends) : Type 0 where
  pub moments : MayBeDoneAlong start.config.nodes lines
  pub broken : Breaks (answer_to start.image start.config showing lines last) (after before (answers_to start.image start.config showing lines)) behind
  pub knows : told ≡ told_along start.image start.config [] (lines ++ last ∷ []) probes

-- what was read next: a line that says this; or none, and none is left
abbrev pub NextIs : ℕ → SourceData → SourceData → Option Said → Type 0
NextIs nodes before behind None = AreRead [] before behind × IfSome behind.left (λ others. others ≡ [])
NextIs nodes before behind (Some said) = (line : LineRead) × (said ≡ said_by nodes line) × AreRead (line ∷ []) before behind
