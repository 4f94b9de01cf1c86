-- The pieces that a replay puts: what each event releases, its group of lines, and at the end the summary, with what the
-- probes have measured.
use Rattle.std.specs.Prelude.{ℕ, zero, suc, ◌+◌, List, [], ◌∷◌, ◌++◌, take, drop, length, codes, Option, Some, None}
use Rattle.sn_base.specs.Image.{ImageData}
use Rattle.sn_base.specs.declared.config.Config.{Config}
use Rattle.sn_base.specs.declared.event.Event.{Event}
use Rattle.sn_base.specs.declared.event.Answer.{Answer}
use Rattle.sn_base.specs.declared.event.Answer.TheVariants.{Recovered}
use Rattle.rv_core.specs.declared.step.Record.{Record}
use Rattle.rv_core.specs.Flat.{FlatState, core_at, word_at}
use Rattle.rv_core.specs.Execution.{end_of}
use Rattle.sn_model.specs.Machine.{State, start_of}
use Rattle.sn_model.specs.Instructions.{MachineStep}
use Rattle.sn_model.specs.Step.{step_of}
use Rattle.sn_text.specs.Text.{event_line, sent_lines, core_line, count_line, watch_line, probe_line, trace_line}
use Rattle.sink_pieces.specs.Pieces.{Piece, Report, console_piece}
use Rattle.script_replay.specs.declared.job.Showing.{Showing}
use Rattle.script_replay.specs.declared.job.ReportKind.{ReportKind}
use Rattle.script_replay.specs.declared.job.ReportKind.TheVariants.{Events, Trace, Summary}

-- the flat machine after the committed trace
abbrev pub flat_at : ImageData → Config → State → FlatState
flat_at image config s = end_of image config.nodes s.committed

-- the lines of its first cores
unfoldable pub core_lines : List ℕ → FlatState → ℕ → List ℕ
core_lines before flat zero = []
core_lines before flat (suc n) = core_lines before flat n ++ core_line before n (core_at flat n)

-- the line of its watched word, where one is watched
abbrev pub watch_lines : List ℕ → FlatState → Option ℕ → List ℕ
watch_lines before flat None = []
watch_lines before flat (Some address) = watch_line before address (word_at flat.memory address)

-- the lines of both
abbrev pub cut_lines : List ℕ → FlatState → ℕ → Option ℕ → List ℕ
cut_lines before flat nodes watch = core_lines before flat nodes ++ watch_lines before flat watch

-- after a recovery they stand there
unfoldable pub recovered_lines : ImageData → Config → Option ℕ → Answer → State → List ℕ
recovered_lines image config watch (Recovered undo) s = cut_lines (codes "  ") (flat_at image config s) config.nodes watch
recovered_lines image config watch _ s = []

-- the group of an event: its line, the messages that it sent, and after a recovery the lines of the cut
unfoldable pub group_of : ImageData → Config → Option ℕ → ℕ → Event → MachineStep → List ℕ
group_of image config watch place event step =
    event_line place event step.answer ++ sent_lines step.sent ++ recovered_lines image config watch step.answer step.state

-- what the summary says of the machine: how many events there were, and the recovery point, the committed trace, its output
-- and the lines of the cut after it
unfoldable pub summary_of : List ℕ → ImageData → Config → Option ℕ → ℕ → State → List ℕ
summary_of before image config watch events s =
    count_line before (codes "events") events ++ count_line before (codes "point") s.fabric.point
    ++ count_line before (codes "committed") (length s.committed) ++ count_line before (codes "released") (length s.released)
    ++ cut_lines before (flat_at image config s) config.nodes watch

-- what it says of a probe: its numbers from this place on
unfoldable pub tally_lines : List ℕ → ℕ → ℕ → List ℕ → List ℕ
tally_lines before probe place [] = []
tally_lines before probe place (value ∷ values) = probe_line before probe place value ++ tally_lines before probe (place + 1) values

-- the first 16 numbers of each of these probes, one piece a probe
unfoldable pub tally_pieces : List ℕ → ℕ → List (List ℕ) → List Piece
tally_pieces before probe [] = []
tally_pieces before probe (tally ∷ tallies) = Report (tally_lines before probe 0 (take 16 tally)) ∷ tally_pieces before (probe + 1) tallies

-- the summary: of the machine, and of the probes
abbrev pub summary_pieces : List ℕ → ImageData → Config → Option ℕ → List (List ℕ) → ℕ → State → List Piece
summary_pieces before image config watch tallies events s =
    Report (summary_of before image config watch events s) ∷ tally_pieces before 0 tallies

-- a group of the report, where the events are asked for
abbrev pub group_pieces : ReportKind → List ℕ → List Piece
group_pieces Events text = Report text ∷ []
group_pieces Trace text = []
group_pieces Summary text = []

-- a trace, one piece a record
unfoldable pub trace_pieces : List Record → List Piece
trace_pieces [] = []
trace_pieces (taken ∷ records) = Report (trace_line taken) ∷ trace_pieces records

-- at the end: the summary; or the committed trace and then the summary, each of its lines marked as a comment of a trace
abbrev pub last_pieces : ReportKind → ImageData → Config → Option ℕ → List (List ℕ) → ℕ → State → List Piece
last_pieces Events image config watch tallies events s = summary_pieces [] image config watch tallies events s
last_pieces Trace image config watch tallies events s =
    trace_pieces s.committed ++ summary_pieces (codes "# ") image config watch tallies events s
last_pieces Summary image config watch tallies events s = summary_pieces [] image config watch tallies events s

unfoldable pub end_pieces : ImageData → Config → Showing → List (List ℕ) → ℕ → State → List Piece
end_pieces image config showing tallies events s = last_pieces showing.report image config showing.watch tallies events s

-- one event: what it releases, and then its group
unfoldable pub turn_pieces : ImageData → Config → Showing → ℕ → State → Event → List Piece
turn_pieces image config showing place s event = let step = step_of image config s event in
    console_piece (drop (length s.released) step.state.released)
    ++ group_pieces showing.report (group_of image config showing.watch place event step)

-- these events, after so many others
unfoldable pub turns_from : ImageData → Config → Showing → ℕ → State → List Event → List Piece
turns_from image config showing done s [] = []
turns_from image config showing done s (event ∷ events) =
    turn_pieces image config showing (done + 1) s event
    ++ turns_from image config showing (done + 1) (step_of image config s event).state events

-- these events, after so many others, and then the end, where the probes have these tallies
unfoldable pub pieces_from : ImageData → Config → Showing → List (List ℕ) → ℕ → State → List Event → List Piece
pieces_from image config showing tallies done s [] = end_pieces image config showing tallies done s
pieces_from image config showing tallies done s (event ∷ events) =
    turn_pieces image config showing (done + 1) s event
    ++ pieces_from image config showing tallies (done + 1) (step_of image config s event).state events

-- the pieces of the events of a replay, and those of a whole replay at whose end the probes have these tallies: of a program
-- on a machine of these sizes
unfoldable pub turns_of : ImageData → Config → Showing → List Event → List Piece
turns_of image config showing events = turns_from image config showing 0 (start_of image config.nodes) events

unfoldable pub pieces_of : ImageData → Config → Showing → List (List ℕ) → List Event → List Piece
pieces_of image config showing tallies events = pieces_from image config showing tallies 0 (start_of image config.nodes) events
