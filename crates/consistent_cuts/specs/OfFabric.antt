-- A run of the machine as a run of its fabric.
use Rattle.std.specs.Prelude.{◌≡◌, ℕ, ◌≤◌, List, length}
use Rattle.sn_base.specs.declared.config.Config.{Config}
use Rattle.sn_model.specs.Fabric.{Fabric}
use Rattle.sn_model.specs.FabricEvents.{FabricEvent}
use Rattle.fabric_bounds.specs.Runs.{fabric_after}
use Rattle.fabric_bounds.specs.Bounds.{IsServedRun}

-- from one fabric to another by so many events at most, each of which can happen when its turn comes, and each write served
pub record GoesBy (config : Config) (s t : Fabric) (most : ℕ) : Type 0 where
  pub events : List FabricEvent
  pub few : length events ≤ most
  pub served : IsServedRun config s events
  pub after : fabric_after config s events ≡ t
