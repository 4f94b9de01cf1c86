-- What was published in a run, and what a watcher saw of it.
use Rattle.std.specs.Prelude.{◌≡◌, ◌⊎◌, ℕ, ◌%◌, ◌<◌, ◌++◌, ⊤, if◌then◌else◌, List, [], ◌∷◌, length, get_or, codes}
use Rattle.std.specs.List.{All}
use Rattle.sn_base.specs.Image.{ImageData}
use Rattle.sn_base.specs.declared.config.Config.{Config}
use Rattle.sn_base.specs.declared.event.Event.{Event}
use Rattle.sn_model.specs.Machine.{State}
use Rattle.sn_model.specs.MachineEvents.{is_validated}
use Rattle.sn_model.specs.Step.{step_of}
use Rattle.sn_text.specs.Text.{named_number}
use Rattle.run_journals.specs.declared.entry.JournalEntry.{JournalEntry}
use Rattle.run_journals.specs.Journal.{Began, start, events_of}
use Rattle.snap_board.specs.Snap.{SnapData}
use Rattle.snap_board.specs.Fronts.{Rises, EndsIn}
use Rattle.sn_monitor.specs.Cut.{snap_of}
use Rattle.sink_pieces.specs.Pieces.{Piece, Report}
use Rattle.monitor_run.specs.declared.marks.Mark.{Mark}

-- the snapshots after those of these events that are answered Validated, in order
abbrev pub validated_along : ImageData → Config → ℕ → State → List Event → List SnapData
validated_along image config watch s [] = []
validated_along image config watch s (event ∷ events) = let next = step_of image config s event in
    (if is_validated next.answer then snap_of image config watch next.state ∷ [] else [])
    ++ validated_along image config watch next.state events

-- the published list of a run of which every snapshot was published: the start's, and those
unfoldable pub published_by : Began → ℕ → List JournalEntry → List SnapData
published_by began watch journal =
    snap_of began.image began.config watch (start began)
    ∷ validated_along began.image began.config watch (start began) (events_of journal)

-- the turns are had by workers 0, 1 and so on, round and round
abbrev pub IsInRounds : ℕ → List JournalEntry → Type 0
IsInRounds nodes journal = (i : ℕ) (d : JournalEntry) → i < length journal → (get_or journal i d).worker ≡ i % nodes

-- some of a list, in its order
abbrev pub IsSomeOf : {A : Type 0} → List A → List A → Type 0
IsSomeOf [] all = ⊤
IsSomeOf (x ∷ some) [] = ⊥
IsSomeOf (x ∷ some) (y ∷ all) = ((x ≡ y) × IsSomeOf some all) ⊎ IsSomeOf (x ∷ some) all

-- what was seen is some of the published list, above point 0 and with growing points, and the last that was published is the last
-- that was seen, unless its point is 0
pub record AreSeen (seen published : List SnapData) : Type 0 where
  pub from : IsSomeOf seen published
  pub above : All (λ s. 0 < s.point) seen
  pub rises : Rises seen
  pub last : (s : SnapData) → EndsIn published s → 0 < s.point → EndsIn seen s

-- of a snapshot what its line says
abbrev pub mark_of : SnapData → Mark
mark_of s = record { point = s.point; committed = s.committed }

-- the line: the point and the number of committed records
unfoldable pub seen_line : Mark → List ℕ
seen_line mark = named_number (codes "seen") mark.point ++ named_number [] mark.committed ++ codes "\n"

unfoldable pub seen_pieces : List Mark → List Piece
seen_pieces [] = []
seen_pieces (mark ∷ marks) = Report (seen_line mark) ∷ seen_pieces marks
