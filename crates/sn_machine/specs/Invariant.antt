-- What holds of a machine's parts at every moment of its life.
use Rattle.std.specs.Prelude.{◌≡◌, ℕ, ◌+◌, ◌≤◌, List, length}
use Rattle.sn_base.specs.Image.{ImageData}
use Rattle.sn_base.specs.declared.config.Config.{Config}
use Rattle.sn_base.specs.declared.event.Event.{Event}
use Rattle.consistent_cuts.specs.Headline.{IsRun}
use Rattle.consistent_cuts.specs.Origins.{Origin, MayBegin, applied_at, reached_from}
use Rattle.sn_machine.specs.declared.hardware.Hardware.{Hardware}
use Rattle.sn_machine.specs.Parts.{state_of, IsWhole, HasRoom}

-- parts that belong together, a node for each of the configuration, with room for the events that are left of a life of
-- 4,000,000,000; and the events that were applied since a place where a run may begin are a run, by which their state was reached
pub record IsMachine (image : ImageData) (config : Config) (h : Hardware) (applied spare : ℕ) : Type 0 where
  pub sizes : h.fabric.config ≡ config
  pub nodes : length h.fabric.fabric.nodes ≡ config.nodes
  pub whole : IsWhole h
  pub room : HasRoom spare h
  pub life : applied + spare ≤ 4000000000
  pub origin : Origin
  pub may : MayBegin image config origin
  pub events : List Event
  pub run : IsRun config events
  pub state : state_of h ≡ reached_from image config origin events
  pub count : applied_at origin + length events ≡ applied
