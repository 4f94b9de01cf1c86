-- The pieces of a machine that has come to some state, what the probes are told from there, and machines and replays that are
-- good to begin with.
use Rattle.std.specs.Prelude.{◌≡◌, ℕ, ◌+◌, ◌-◌, ◌%◌, ◌<◌, ◌≤◌, ◌⊎◌, List, [], ◌∷◌, ◌++◌, map, take, length, Option, IfSome}
use Rattle.sn_base.specs.Blocks.{ram_start, ram_size}
use Rattle.sn_base.specs.Image.{ImageData}
use Rattle.sn_base.specs.declared.config.Config.{Config}
use Rattle.sn_base.specs.declared.event.Event.{Event}
use Rattle.sn_base.specs.declared.event.Undo.{Undo}
use Rattle.sn_base.specs.declared.event.Answer.{Answer}
use Rattle.sn_base.specs.declared.event.Answer.TheVariants.{Recovered}
use Rattle.sn_model.specs.declared.net.Sent.{Sent}
use Rattle.sn_model.specs.Machine.{State, start_of}
use Rattle.sn_model.specs.Step.{state_after}
use Rattle.due_events.specs.Machine.{MachineData, next_of}
use Rattle.due_events.specs.Headline.{IsRun}
use Rattle.sink_pieces.specs.Pieces.{Piece, Ends, after, Breaks}
use Rattle.sn_probe.specs.Probes.{Meter, told_of, told_from, tallies_of}
use Rattle.script_replay.specs.declared.job.Showing.{Showing}
use Rattle.script_replay.specs.declared.job.Replay.{Replay}
use Rattle.script_replay.specs.Pieces.{group_of, summary_of, summary_pieces, end_pieces, turn_pieces, turns_from, pieces_from}
use Rattle.script_replay.specs.Probed.{answers_along}
use Rattle.sn_base.specs.declared.limits.TheConstants.{EVENTS}

-- the machine after an event
abbrev pub after_event : MachineData → Event → MachineData
after_event m event = record m {
  state = (next_of m event).state;
  sent = (next_of m event).sent;
  applied = m.applied + 1;
  spare = m.spare - 1;
}

abbrev pub after_events : MachineData → List Event → MachineData
after_events m [] = m
after_events m (event ∷ events) = after_events (after_event m event) events

-- a machine to which so many events were applied before those that are counted
abbrev pub since : ℕ → MachineData → MachineData
since before m = record m { applied = m.applied - before }

-- the group of its last event, which had this answer
abbrev pub group_now : MachineData → Option ℕ → Event → Answer → List ℕ
group_now m watch event answer =
    group_of m.image m.config watch m.applied event (record { state = m.state; answer = answer; sent = m.sent })

-- a recovery sends nothing
abbrev pub IsAlone : Answer → List Sent → Type 0
IsAlone answer sent = (undo : Undo) → answer ≡ Recovered undo → sent ≡ []

-- what the summary says of it, and the summary's pieces
abbrev pub summary_now : List ℕ → MachineData → Option ℕ → List ℕ
summary_now before m watch = summary_of before m.image m.config watch m.applied m.state

abbrev pub summary_pieces_of : List ℕ → MachineData → Option ℕ → List (List ℕ) → List Piece
summary_pieces_of before m watch tallies = summary_pieces before m.image m.config watch tallies m.applied m.state

-- the pieces of its end, of its next event, and of all events that are left
abbrev pub end_now : MachineData → Showing → List (List ℕ) → List Piece
end_now m showing tallies = end_pieces m.image m.config showing tallies m.applied m.state

abbrev pub turn_now : MachineData → Showing → Event → List Piece
turn_now m showing event = turn_pieces m.image m.config showing (m.applied + 1) m.state event

abbrev pub pieces_left : MachineData → Showing → List (List ℕ) → List Event → List Piece
pieces_left m showing tallies events = pieces_from m.image m.config showing tallies m.applied m.state events

-- probes that are told its next event, and all that are left
abbrev pub told_next : MachineData → Event → List Meter → List Meter
told_next m event probes = map (told_of (m.applied + 1) event (next_of m event).answer) probes

abbrev pub told_left : MachineData → List Event → List Meter → List Meter
told_left m events probes = map (told_from (m.applied + 1) (answers_along m.image m.config m.state events)) probes

-- the pieces of the events that are left, without the end
abbrev pub turns_left : MachineData → Showing → List Event → List Piece
turns_left m showing events = turns_from m.image m.config showing m.applied m.state events

-- the state that those leave
abbrev pub state_left : MachineData → List Event → State
state_left m events = state_after m.image m.config m.state events

-- a sink broke in the pieces of event i, counted from 0, and the probes were told the events up to that one
pub record StopsAt (m : MachineData) (showing : Showing) (events : List Event) (i : ℕ) (before : Ends) (probes : List Meter) (behind : Ends) (told : List Meter) : Type 0 where
  pub below : i < length events
  pub pieces : List Piece
  pub are : turns_left m showing (take (i + 1) events) ≡ turns_left m showing (take i events) ++ pieces
  pub broken : Breaks pieces (after before (turns_left m showing (take i events))) behind
  pub knows : told ≡ told_left m (take (i + 1) events) probes

-- a sink broke in the pieces of the end, and the probes were told all events
pub record StopsAtEnd (m : MachineData) (showing : Showing) (events : List Event) (before : Ends) (probes : List Meter) (behind : Ends) (told : List Meter) : Type 0 where
  pub pieces : List Piece
  pub are : pieces_left m showing (tallies_of (told_left m events probes)) events ≡ turns_left m showing events ++ pieces
  pub broken : Breaks pieces (after before (turns_left m showing events)) behind
  pub knows : told ≡ told_left m events probes

abbrev pub Stops : MachineData → Showing → List Event → Ends → List Meter → Ends → List Meter → Type 0
Stops m showing events before probes behind told =
    ((i : ℕ) × StopsAt m showing events i before probes behind told) ⊎ StopsAtEnd m showing events before probes behind told

-- a word of memory that may be watched
pub record IsWord (address : ℕ) : Type 0 where
  pub low : ram_start ≤ address
  pub high : address < ram_start + ram_size
  pub aligned : address % 4 ≡ 0

abbrev pub IsWatchable : Option ℕ → Type 0
IsWatchable watch = IfSome watch IsWord

-- a replay that may begin: its sizes and events fit, of which there are at most a million, and it watches a word of memory
pub record MayBegin (r : Replay) : Type 0 where
  pub run : IsRun r.config r.script
  pub few : length r.script ≤ EVENTS
  pub watched : IsWatchable r.showing.watch

-- a machine of these sizes at the start of a program, with room for so many events
pub record IsAtStart (m : MachineData) (image : ImageData) (config : Config) (events : ℕ) : Type 0 where
  pub program : m.image ≡ image
  pub sizes : m.config ≡ config
  pub start : m.state ≡ start_of image config.nodes
  pub new : m.applied ≡ 0
  pub room : events ≤ m.spare
