-- What lines say.
use Rattle.std.specs.Prelude.{◌≡◌, ℕ, ◌^◌, ◌≤◌, Bool, true, false, nat_lt, bytes_eq, if◌then◌else◌, List, [], ◌∷◌, ◌++◌, take, length, codes, Option, Some, None, Result, Ok, Err, ⊤}
use Rattle.std.specs.List.{All}
use Rattle.sn_base.specs.declared.event.Event.{Event}
use Rattle.sn_base.specs.Events.{event_fits, block_fits}
use Rattle.line_source.specs.Lines.{LineRead, Line, TooLong}
use Rattle.sn_text.specs.Digits.{number_of}
use Rattle.sn_text.specs.Items.{is_skipped}
use Rattle.sn_text.specs.Script.{begins, after, event_of}
use Rattle.sn_text.specs.declared.cause.Fault.{Fault}
use Rattle.sn_text.specs.declared.cause.Fault.TheVariants.{NotOfForm}
use Rattle.driven_replay.specs.declared.job.DriveShowing.{DriveShowing}
use Rattle.driven_replay.specs.declared.job.Look.{Look}
use Rattle.driven_replay.specs.declared.job.Said.{Said}
use Rattle.driven_replay.specs.declared.job.Said.TheVariants.{Nothing, Does, Foresees, Looks, Marks, Back, Refused}
use Rattle.driven_replay.specs.Pieces.{ShowsStates}
use Rattle.driven_replay.specs.Looks.{look_of, HasItsNode}

-- a line of a script, or `foresee` and such a line
abbrev pub said_of : Result Event Fault → Said
said_of (Ok event) = Does event
said_of (Err fault) = Refused fault

abbrev pub foreseen_of : Result Event Fault → Said
foreseen_of (Ok event) = Foresees event
foreseen_of (Err fault) = Refused fault

-- or a line that asks for a look; else it says this
abbrev pub look_or : Said → Option (Result Look Fault) → Said
look_or other None = other
look_or other (Some (Ok asked)) = Looks asked
look_or other (Some (Err fault)) = Refused fault

-- or it goes back to so many events, by their number below 2^32
abbrev pub back_to : Option ℕ → Said
back_to None = Refused NotOfForm
back_to (Some events) = if nat_lt events (2 ^ 32) then Back events else Refused NotOfForm

abbrev pub said_in : ℕ → List ℕ → Said
said_in nodes line =
    if is_skipped line then Nothing
    else if begins (codes "foresee ") line then foreseen_of (event_of nodes (after (codes "foresee ") line))
    else if bytes_eq line (codes "mark") then Marks
    else if begins (codes "back ") line then back_to (number_of (after (codes "back ") line))
    else look_or (said_of (event_of nodes line)) (look_of nodes line)

-- what a line says on a machine of so many nodes; one that is too long is no event
abbrev pub said_by : ℕ → LineRead → Said
said_by nodes (Line bytes) = said_in nodes bytes
said_by nodes TooLong = Refused NotOfForm

-- what is done after a line, where these events were: one more, or the first so many of them, or the same
abbrev pub done_after : List Event → Said → List Event
done_after done (Does event) = done ++ event ∷ []
done_after done (Back events) = take events done
done_after done _ = done

-- and what is done after all these lines
abbrev pub done_along : ℕ → List Event → List LineRead → List Event
done_along nodes done [] = done
done_along nodes done (line ∷ lines) = done_along nodes (done_after done (said_by nodes line)) lines

abbrev pub events_of : ℕ → List LineRead → List Event
events_of nodes lines = done_along nodes [] lines

-- the event that a line does
abbrev pub event_in : Said → List Event
event_in (Does event) = event ∷ []
event_in _ = []

-- no line goes back
abbrev pub goes_back : Said → Bool
goes_back (Back events) = true
goes_back _ = false

abbrev pub NeverBack : ℕ → List LineRead → Type 0
NeverBack nodes lines = All (λ line. goes_back (said_by nodes line) ≡ false) lines

-- what an event names is there
abbrev pub IsThere : ℕ → Event → Type 0
IsThere nodes event = (event_fits nodes event ≡ true) × (block_fits event ≡ true)

abbrev pub SaidFits : ℕ → Said → Type 0
SaidFits nodes (Does event) = IsThere nodes event
SaidFits nodes (Foresees event) = IsThere nodes event
SaidFits nodes (Looks asked) = HasItsNode nodes asked
SaidFits nodes _ = ⊤

-- memory may be wanted for it, where these events are done: for a look, for a machine that goes back to so many of them, or for an
-- event whose line shows states
abbrev pub WantsMemory : DriveShowing → List Event → Said → Type 0
WantsMemory showing done (Does event) = ShowsStates showing
WantsMemory showing done (Looks asked) = ⊤
WantsMemory showing done (Back events) = events ≤ length done
WantsMemory showing done _ = ⊥
