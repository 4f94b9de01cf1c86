-- The pieces of a replay with the accesses of its committed trace: what each event releases, and at the end the rows and the summary.
use Rattle.std.specs.Prelude.{ℕ, List, [], ◌∷◌, ◌++◌, length, codes, Option}
use Rattle.sn_base.specs.Image.{ImageData}
use Rattle.sn_base.specs.declared.config.Config.{Config}
use Rattle.sn_base.specs.declared.event.Event.{Event}
use Rattle.sn_model.specs.Machine.{State}
use Rattle.sn_machine.specs.Machine.{MachineData}
use Rattle.consistent_cuts.specs.Headline.{state_of_run}
use Rattle.sink_pieces.specs.Pieces.{Piece}
use Rattle.committed_accesses.specs.Rows.{access_rows_of}
use Rattle.committed_accesses.specs.Lines.{access_pieces}
use Rattle.script_replay.specs.declared.job.Showing.{Showing}
use Rattle.script_replay.specs.declared.job.ReportKind.TheVariants.{Summary}
use Rattle.script_replay.specs.Pieces.{summary_pieces, turns_of}
use Rattle.script_replay.specs.Played.{after_event}

-- what events leave of a machine
abbrev pub after_events : MachineData → List Event → MachineData
after_events m [] = m
after_events m (event ∷ events) = after_events (after_event m event) events

-- nothing of the events goes to the report
abbrev pub quietly : Option ℕ → Showing
quietly watch = record { report = Summary; watch = watch }

-- the end, after so many events: the rows of the committed trace, and then the summary, each of its lines marked as a comment
unfoldable pub end_pieces : ImageData → Config → Option ℕ → List (List ℕ) → ℕ → State → List Piece
end_pieces image config watch tallies events s =
    access_pieces (access_rows_of image config.nodes s.committed) ++ summary_pieces (codes "# ") image config watch tallies events s

-- all pieces, where the probes have these tallies at the end
unfoldable pub pieces_of : ImageData → Config → Option ℕ → List (List ℕ) → List Event → List Piece
pieces_of image config watch tallies events =
    turns_of image config (quietly watch) events
    ++ end_pieces image config watch tallies (length events) (state_of_run image config events)
