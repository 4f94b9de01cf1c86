-- The pieces of a replay with a recovery: what its events release, then a line for each control, and at the end the summary.
use Rattle.std.specs.Prelude.{ℕ, ◌+◌, List, [], ◌∷◌, ◌++◌, length, Option}
use Rattle.sn_base.specs.Image.{ImageData}
use Rattle.sn_base.specs.declared.config.Config.{Config}
use Rattle.sn_base.specs.declared.event.Event.{Event}
use Rattle.sn_machine.specs.Machine.{MachineData, machine_with_room}
use Rattle.sink_pieces.specs.Pieces.{Piece, Report}
use Rattle.script_replay.specs.declared.job.Showing.{Showing}
use Rattle.script_replay.specs.declared.job.ReportKind.TheVariants.{Summary}
use Rattle.script_replay.specs.Pieces.{summary_pieces, turns_of}
use Rattle.script_replay.specs.Played.{after_event}
use Rattle.rolling_recovery.specs.declared.controls.Control.{Control}
use Rattle.rolling_recovery.specs.Rolling.{rolling_start}
use Rattle.rolled_replay.specs.declared.stage.Stage.{Stage}
use Rattle.rolled_replay.specs.declared.stage.Stage.TheVariants.{UnderWay}
use Rattle.rolled_replay.specs.Stages.{reply_to, next_stage, stage_after, machine_of}
use Rattle.rolled_replay.specs.Text.{control_line}

-- a machine at the start of a program with room for these events and a recovery, and what they leave of it
abbrev pub machine_for : ImageData → Config → List Event → MachineData
machine_for image config events = machine_with_room image config (length events + 1)

abbrev pub after_events : MachineData → List Event → MachineData
after_events m [] = m
after_events m (event ∷ events) = after_events (after_event m event) events

-- the recovery of what they leave begins
abbrev pub first_stage : ImageData → Config → List Event → Stage
first_stage image config events = UnderWay (rolling_start (after_events (machine_for image config events) events))

-- the lines of controls, after so many others
unfoldable pub control_pieces : ℕ → Stage → List Control → List Piece
control_pieces done stage [] = []
control_pieces done stage (call ∷ calls) =
    Report (control_line (done + 1) call (reply_to stage call)) ∷ control_pieces (done + 1) (next_stage stage call) calls

-- nothing of the events goes to the report
abbrev pub quietly : Option ℕ → Showing
quietly watch = record { report = Summary; watch = watch }

-- the pieces of a recovery: its controls' lines, and the summary of so many events and of the machine that they leave
abbrev pub recovery_pieces : Stage → List Control → Option ℕ → List (List ℕ) → ℕ → List Piece
recovery_pieces stage controls watch tallies events = let m = machine_of (stage_after stage controls) in
    control_pieces 0 stage controls ++ summary_pieces [] m.image m.config watch tallies events m.state

-- all pieces, where the probes have these tallies at the end
unfoldable pub rolled_pieces : ImageData → Config → Option ℕ → List (List ℕ) → List Event → List Control → List Piece
rolled_pieces image config watch tallies events controls =
    turns_of image config (quietly watch) events
    ++ recovery_pieces (first_stage image config events) controls watch tallies (length events)
