-- The events of the fabric, and what each comes to. `Access` is an instruction's look for a block, `Write` what a served
-- write leaves; `Advance` and `Recover` name a checkpoint. An event of the machine is one of these, or an access with its
-- write, and one of the rest.
use Rattle.std.specs.Prelude.{ℕ}
use Rattle.sn_base.specs.declared.block.Write.{Write as Written}
use Rattle.sn_base.specs.declared.config.Config.{Config}
use Rattle.sn_base.specs.declared.event.Answer.TheVariants.{Retired}
use Rattle.sn_model.specs.declared.cache.Need.{Need}
use Rattle.sn_model.specs.Fabric.{Fabric, FabricStep, step_with_answer}
use Rattle.sn_model.specs.Access.{step_of_access, fabric_with_write}
use Rattle.sn_model.specs.NodeEvents.{step_of_eviction, step_of_edge, step_of_report}
use Rattle.sn_model.specs.NetEvents.{step_of_hop, step_of_delivery, step_of_loss, step_of_kill}
use Rattle.sn_model.specs.PointEvents.{step_of_advance, step_of_recovery}

pub data FabricEvent : Type 0 where
  Access : (node block : ℕ) (need : Need) → FabricEvent
  Write : (node : ℕ) (write : Written) → FabricEvent
  Evict : (node block : ℕ) → FabricEvent
  Edge : (node : ℕ) → FabricEvent
  Hop : (id : ℕ) → FabricEvent
  Deliver : (id : ℕ) → FabricEvent
  Lose : (id : ℕ) → FabricEvent
  Kill : (switch : ℕ) → FabricEvent
  Report : (node : ℕ) → FabricEvent
  Advance : (k : ℕ) → FabricEvent
  Recover : (k : ℕ) → FabricEvent

unfoldable pub moved_by : Config → Fabric → FabricEvent → FabricStep
moved_by config s (Access n block need) = step_of_access config s n block need
moved_by config s (Write n w) = step_with_answer (fabric_with_write s n w) Retired
moved_by config s (Evict n block) = step_of_eviction s n block
moved_by config s (Edge n) = step_of_edge s n
moved_by config s (Hop id) = step_of_hop s id
moved_by config s (Deliver id) = step_of_delivery config s id
moved_by config s (Lose id) = step_of_loss s id
moved_by config s (Kill switch) = step_of_kill s switch
moved_by config s (Report n) = step_of_report s n
moved_by config s (Advance k) = step_of_advance s k
moved_by config s (Recover k) = step_of_recovery s k
