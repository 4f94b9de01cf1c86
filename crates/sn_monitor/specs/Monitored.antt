-- A machine that is monitored, and what a turn publishes.
use Rattle.std.specs.Prelude.{◌≡◌, ℕ, Bool, true, false, List, [], ◌∷◌, ◌++◌}
use Rattle.sn_model.specs.MachineEvents.{is_validated}
use Rattle.sn_machine.specs.Machine.{MachineData}
use Rattle.sn_driver.specs.declared.turn.Turn.{Turn}
use Rattle.sn_driver.specs.declared.turn.Turn.TheVariants.{Did}
use Rattle.sn_driver.specs.Driver.{DriverData}
use Rattle.sn_driver.specs.Turns.{Took, IsLater}
use Rattle.snap_board.specs.Snap.{SnapData}
use Rattle.snap_board.specs.Watching.{BoardId}
use Rattle.sn_monitor.specs.Cut.{snap_now}
use Rattle.sn_monitor.specs.declared.monitored.Published.{Published}
use Rattle.sn_monitor.specs.declared.monitored.Published.TheVariants.{Nothing, New, Memory}

-- the machine, its driver, the address of the word that is watched, the board on which snapshots are published, and all that were,
-- in order
pub record MonitoredData : Type 0 where
  pub machine : MachineData
  pub driver : DriverData
  pub watch : ℕ
  pub board : BoardId
  pub published : List SnapData

-- a start: the one snapshot that is published is the start's
abbrev pub first_monitored : MachineData → DriverData → ℕ → BoardId → MonitoredData
first_monitored m driver watch board =
    record { machine = m; driver = driver; watch = watch; board = board; published = snap_now m watch ∷ [] }

-- whether a turn did a validation
abbrev pub is_validation : Turn → Bool
is_validation (Did event answer) = is_validated answer
is_validation _ = false

-- nothing comes just where no validation was done; else the snapshot of the cut that the turn left was published, or memory was
-- lacking and it wasn't
abbrev pub Publishes : Turn → Published → MonitoredData → MonitoredData → Type 0
Publishes turn Nothing before after = (is_validation turn ≡ false) × (after.published ≡ before.published)
Publishes turn New before after =
    (is_validation turn ≡ true) × (after.published ≡ before.published ++ snap_now after.machine after.watch ∷ [])
Publishes turn Memory before after = (is_validation turn ≡ true) × (after.published ≡ before.published)

-- a turn: one of the driver, and what it published; the sizes, the watched word and the board stay
pub record IsTurn (before : MonitoredData) (worker pick : ℕ) (turn : Turn) (said : Published) (after : MonitoredData) : Type 0 where
  pub took : Took before.driver before.machine worker pick turn after.driver after.machine
  pub publishes : Publishes turn said before after
  pub watch : after.watch ≡ before.watch
  pub board : after.board ≡ before.board
  pub later : IsLater before.driver before.machine after.driver after.machine

-- a snapshot was published, or memory was lacking and it wasn't
abbrev pub Shows : Published → List SnapData → SnapData → List SnapData → Type 0
Shows Nothing before snap after = ⊥
Shows New before snap after = after ≡ before ++ snap ∷ []
Shows Memory before snap after = after ≡ before
