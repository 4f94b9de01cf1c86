-- The answers to lines, each by the lines before it.
use Rattle.std.specs.Prelude.{ℕ, ◌+◌, List, [], ◌∷◌, ◌++◌, length}
use Rattle.sn_base.specs.Image.{ImageData}
use Rattle.sn_base.specs.declared.config.Config.{Config}
use Rattle.sn_model.specs.Machine.{State}
use Rattle.sn_model.specs.Step.{step_of}
use Rattle.consistent_cuts.specs.Headline.{state_of_run}
use Rattle.due_events.specs.Numbers.{Numbers}
use Rattle.line_source.specs.Lines.{LineRead}
use Rattle.sn_text.specs.Text.{event_line}
use Rattle.sink_pieces.specs.Pieces.{Piece, Report}
use Rattle.driven_replay.specs.declared.job.DriveShowing.{DriveShowing}
use Rattle.driven_replay.specs.declared.job.Said.{Said}
use Rattle.driven_replay.specs.declared.job.Said.TheVariants.{Nothing, Does, Foresees, Looks, Marks, Back, Refused}
use Rattle.driven_replay.specs.declared.driving.DriveEnd.{DriveEnd}
use Rattle.driven_replay.specs.declared.driving.DriveEnd.TheVariants.{Whole, TooMany}
use Rattle.driven_replay.specs.Pieces.{start_pieces, event_pieces, end_pieces}
use Rattle.driven_replay.specs.Dues.{numbers_of}
use Rattle.driven_replay.specs.Looks.{look_line}
use Rattle.driven_replay.specs.Said.{said_by, events_of}
use Rattle.driven_replay.specs.Refusals.{refusal_line, too_many_line}
use Rattle.driven_replay.specs.Marks.{mark_line, back_answer}

-- the answer to what the line of this number says, where so many events are done and have led to this state, and a driver has
-- counted this of them
abbrev pub answer_of : ImageData → Config → DriveShowing → ℕ → State → Numbers → ℕ → Said → List Piece
answer_of image config showing done s x number Nothing = []
answer_of image config showing done s x number (Does event) = event_pieces image config showing (done + 1) s event
answer_of image config showing done s x number (Foresees event) =
    Report (event_line (done + 1) event (step_of image config s event).answer) ∷ []
answer_of image config showing done s x number (Looks asked) = Report (look_line image config s x asked) ∷ []
answer_of image config showing done s x number Marks = Report (mark_line done) ∷ []
answer_of image config showing done s x number (Back events) = Report (back_answer done number events) ∷ []
answer_of image config showing done s x number (Refused fault) = Report (refusal_line number fault) ∷ []

-- the answer to a line that comes after these
abbrev pub answer_to : ImageData → Config → DriveShowing → List LineRead → LineRead → List Piece
answer_to image config showing before line = let done = events_of config.nodes before in
    answer_of image config showing (length done) (state_of_run image config done) (numbers_of image config done) (length before + 1)
    (said_by config.nodes line)

-- the answers to these lines, which come after others
unfoldable pub answers_after : ImageData → Config → DriveShowing → List LineRead → List LineRead → List Piece
answers_after image config showing before [] = []
answers_after image config showing before (line ∷ lines) =
    answer_to image config showing before line ++ answers_after image config showing (before ++ line ∷ []) lines

abbrev pub answers_to : ImageData → Config → DriveShowing → List LineRead → List Piece
answers_to image config showing lines = answers_after image config showing [] lines

-- what is put at the start and of these lines
abbrev pub pieces_to : ImageData → Config → DriveShowing → List LineRead → List Piece
pieces_to image config showing lines = start_pieces image config showing ++ answers_to image config showing lines

-- the end after these lines: that there is no room for an event more, if so, and the end of a replay of the events that are done
abbrev pub over_pieces : DriveEnd → List Piece
over_pieces Whole = []
over_pieces TooMany = Report too_many_line ∷ []

abbrev pub last_of_drive : ImageData → Config → DriveShowing → List (List ℕ) → DriveEnd → List LineRead → List Piece
last_of_drive image config showing tallies how lines = let events = events_of config.nodes lines in
    over_pieces how ++ end_pieces image config showing tallies (length events) (state_of_run image config events)

-- all pieces of a drive
abbrev pub driven_pieces : ImageData → Config → DriveShowing → List (List ℕ) → DriveEnd → List LineRead → List Piece
driven_pieces image config showing tallies how lines =
    pieces_to image config showing lines ++ last_of_drive image config showing tallies how lines
