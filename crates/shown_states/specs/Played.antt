-- The pieces of a machine that has come to some state.
use Rattle.std.specs.Prelude.{ℕ, ◌+◌, List, Option}
use Rattle.sn_base.specs.declared.event.Event.{Event}
use Rattle.script_replay.specs.Machine.{MachineData}
use Rattle.sink_pieces.specs.Pieces.{Piece}
use Rattle.option_values.specs.declared.places.Places.{Places}
use Rattle.shown_states.specs.declared.job.StatesReplay.{StatesReplay}
use Rattle.shown_states.specs.Pieces.{state_turn}

-- those of its next event
abbrev pub turn_now : MachineData → Option Places → Event → List Piece
turn_now m only event = state_turn m.image m.config only (m.applied + 1) m.state event

-- the replay of events on it, where it is at its program's start
abbrev pub states_of : MachineData → Option ℕ → Option Places → List Event → StatesReplay
states_of m watch only events = record { program = m.image; config = m.config; watch = watch; only = only; script = events }
