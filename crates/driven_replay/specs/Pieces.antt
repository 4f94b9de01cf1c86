-- What is put at a drive's start, of an event, and at its end: what a replay puts there that shows the same.
use Rattle.std.specs.Prelude.{ℕ, List, [], ◌∷◌, Option, None, ⊤}
use Rattle.sn_base.specs.Image.{ImageData}
use Rattle.sn_base.specs.declared.config.Config.{Config}
use Rattle.sn_base.specs.declared.event.Event.{Event}
use Rattle.sn_model.specs.Machine.{State, start_of}
use Rattle.state_json.specs.Lines.{last_line}
use Rattle.sink_pieces.specs.Pieces.{Piece, Report}
use Rattle.script_replay.specs.Pieces as script
use Rattle.shown_states.specs.Pieces as states
use Rattle.driven_replay.specs.declared.job.DriveShowing.{DriveShowing}
use Rattle.driven_replay.specs.declared.job.DriveShowing.TheVariants.{Replay, States}

-- the word that the end shows
abbrev pub watch_of : DriveShowing → Option ℕ
watch_of (Replay showing) = showing.watch
watch_of (States watch) = watch

-- states are shown, whose texts take memory as they grow
abbrev pub ShowsStates : DriveShowing → Type 0
ShowsStates (Replay showing) = ⊥
ShowsStates (States watch) = ⊤

abbrev pub start_pieces : ImageData → Config → DriveShowing → List Piece
start_pieces image config (Replay showing) = []
start_pieces image config (States watch) = states.report_piece (states.opening_text image config None 0 (start_of image config.nodes))

-- an event at this place, of a machine in this state
abbrev pub event_pieces : ImageData → Config → DriveShowing → ℕ → State → Event → List Piece
event_pieces image config (Replay showing) place s event = script.turn_pieces image config showing place s event
event_pieces image config (States watch) place s event = states.state_turn image config None place s event

-- the end after so many events that led to this state, where the probes have these tallies
abbrev pub end_pieces : ImageData → Config → DriveShowing → List (List ℕ) → ℕ → State → List Piece
end_pieces image config (Replay showing) tallies events s = script.end_pieces image config showing tallies events s
end_pieces image config (States watch) tallies events s = Report (last_line image config watch tallies events s) ∷ []

-- all that a replay of these events puts
abbrev pub replay_pieces : ImageData → Config → DriveShowing → List (List ℕ) → List Event → List Piece
replay_pieces image config (Replay showing) tallies events = script.pieces_of image config showing tallies events
replay_pieces image config (States watch) tallies events = states.pieces_of image config None watch tallies events
