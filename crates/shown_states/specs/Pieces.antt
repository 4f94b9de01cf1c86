-- The pieces of a replay that shows states: what each event releases, its line where it is shown, the first line before the first of
-- these, and at the end the summary.
use Rattle.std.specs.Prelude.{ℕ, ◌+◌, Bool, true, ◌&&◌, nat_eq, nat_le, if◌then◌else◌, List, [], ◌∷◌, ◌++◌, drop, length, Option, Some, None}
use Rattle.sn_base.specs.Image.{ImageData}
use Rattle.sn_base.specs.declared.config.Config.{Config}
use Rattle.sn_base.specs.declared.event.Event.{Event}
use Rattle.sn_model.specs.Machine.{State, start_of}
use Rattle.sn_model.specs.Step.{step_of}
use Rattle.consistent_cuts.specs.Headline.{state_of_run}
use Rattle.state_json.specs.Lines.{first_line, state_line, last_line}
use Rattle.sink_pieces.specs.Pieces.{Piece, Report, console_piece}
use Rattle.option_values.specs.declared.places.Places.{Places}

-- whether the event at this place is shown, and the first place that is; places are counted from 1
abbrev pub is_shown : Option Places → ℕ → Bool
is_shown None place = true
is_shown (Some only) place = nat_le only.from place && nat_le place only.to

abbrev pub first_shown : Option Places → ℕ
first_shown None = 1
first_shown (Some only) = only.from

-- a piece for the report, where there are bytes for it
abbrev pub report_piece : List ℕ → List Piece
report_piece [] = []
report_piece (byte ∷ bytes) = Report (byte ∷ bytes) ∷ []

-- after so many events: the first line, where the next event is the first that is shown
abbrev pub opening_text : ImageData → Config → Option Places → ℕ → State → List ℕ
opening_text image config only events s = if nat_eq (events + 1) (first_shown only) then first_line image config events s else []

-- what the report gets of an event: its line where it is shown, and else the first line where that comes next
abbrev pub turn_text : ImageData → Config → Option Places → ℕ → State → Event → List ℕ
turn_text image config only place s event = let step = step_of image config s event in
    if is_shown only place then state_line image place s event step else opening_text image config only place step.state

-- an event: what it releases, and then that
unfoldable pub state_turn : ImageData → Config → Option Places → ℕ → State → Event → List Piece
state_turn image config only place s event =
    console_piece (drop (length s.released) (step_of image config s event).state.released)
    ++ report_piece (turn_text image config only place s event)

-- these events, after so many others
unfoldable pub turns_from : ImageData → Config → Option Places → ℕ → State → List Event → List Piece
turns_from image config only done s [] = []
turns_from image config only done s (event ∷ events) =
    state_turn image config only (done + 1) s event
    ++ turns_from image config only (done + 1) (step_of image config s event).state events

-- the start, and these events
unfoldable pub turns_of : ImageData → Config → Option Places → List Event → List Piece
turns_of image config only events =
    report_piece (opening_text image config only 0 (start_of image config.nodes))
    ++ turns_from image config only 0 (start_of image config.nodes) events

-- all: those, and then the summary, where the probes have these tallies
unfoldable pub pieces_of : ImageData → Config → Option Places → Option ℕ → List (List ℕ) → List Event → List Piece
pieces_of image config only watch tallies events =
    turns_of image config only events
    ++ Report (last_line image config watch tallies (length events) (state_of_run image config events)) ∷ []
