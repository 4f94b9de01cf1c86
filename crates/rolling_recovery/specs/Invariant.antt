-- What a recovery keeps at every moment.
use Rattle.std.specs.Prelude.{◌≡◌, ◌≤◌, true, List}
use Rattle.std.specs.List.{All}
use Rattle.rolling_recovery.specs.declared.controls.Control.{Control}
use Rattle.rolling_recovery.specs.Controls.{control_fits}
use Rattle.rolling_recovery.specs.Rolling.{RollingData, rolling_start, after_controls}

-- these calls, on the machine that was handed in, led to this
pub record HasCalls (r : RollingData) (calls : List Control) : Type 0 where
  pub fit : All (λ call. control_fits r.machine.config.nodes call ≡ true) calls
  pub led : r ≡ after_controls (rolling_start r.machine) calls

-- there is room for the recovery's own event, at most 16 nodes, and calls that led here
pub record IsRolling (r : RollingData) : Type 0 where
  pub room : 1 ≤ r.machine.spare
  pub few : r.machine.config.nodes ≤ 16
  pub calls : List Control
  pub led : HasCalls r calls
