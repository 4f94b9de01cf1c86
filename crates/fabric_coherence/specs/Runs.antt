-- Runs of the fabric.
use Rattle.std.specs.Prelude.{List, [], ◌∷◌, ⊤}
use Rattle.sn_base.specs.declared.config.Config.{Config}
use Rattle.sn_model.specs.Fabric.{Fabric}
use Rattle.sn_model.specs.FabricEvents.{FabricEvent, moved_by}
use Rattle.fabric_coherence.specs.Events.{MayBe}

-- each event of the list can happen when its turn comes
abbrev pub IsFabricRun : Config → Fabric → List FabricEvent → Type 0
IsFabricRun config s [] = ⊤
IsFabricRun config s (event ∷ events) = MayBe s event × IsFabricRun config (moved_by config s event).fabric events

-- the fabric after them
abbrev pub fabric_after : Config → Fabric → List FabricEvent → Fabric
fabric_after config s [] = s
fabric_after config s (event ∷ events) = fabric_after config (moved_by config s event).fabric events
