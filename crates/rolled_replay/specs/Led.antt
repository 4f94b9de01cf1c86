-- What controls have led the recovery of a machine to.
use Rattle.std.specs.Prelude.{◌≡◌, List, ◌∷◌, ◌++◌, None}
use Rattle.sn_base.specs.declared.event.Event.TheVariants.{Recover}
use Rattle.sn_machine.specs.Machine.{MachineData}
use Rattle.script_replay.specs.Played.{after_event}
use Rattle.rolling_recovery.specs.declared.controls.Control.{Control}
use Rattle.rolling_recovery.specs.declared.controls.Control.TheVariants.{Finish}
use Rattle.rolling_recovery.specs.Rolling.{RollingData, rolling_start, finish_fault, after_controls}
use Rattle.rolling_recovery.specs.Recovered.{IsLedTo}
use Rattle.rolled_replay.specs.declared.stage.Stage.{Stage}
use Rattle.rolled_replay.specs.declared.stage.Stage.TheVariants.{UnderWay, Recovered}

-- to this recovery, of which then holds what is promised after these calls
pub record IsLedBy (m : MachineData) (controls : List Control) (r : RollingData) : Type 0 where
  pub by : r ≡ after_controls (rolling_start m) controls
  pub promised : IsLedTo r controls

-- to its end: nothing was in the way of a finish, and the definitions' recovery of the machine left this
pub record IsEndedBy (m : MachineData) (controls : List Control) (recovered : MachineData) : Type 0 where
  pub before : List Control
  pub others : List Control
  pub order : controls ≡ before ++ Finish ∷ others
  pub rolling : RollingData
  pub led : IsLedBy m before rolling
  pub free : finish_fault rolling ≡ None
  pub back : recovered ≡ after_event m Recover

abbrev pub IsStageBy : MachineData → List Control → Stage → Type 0
IsStageBy m controls (UnderWay r) = IsLedBy m controls r
IsStageBy m controls (Recovered recovered) = IsEndedBy m controls recovered
