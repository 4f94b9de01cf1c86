-- A home's verdict in a state of the fabric.
use Rattle.std.specs.Prelude.{◌≡◌}
use Rattle.sn_base.specs.declared.config.Config.{Config}
use Rattle.sn_base.specs.declared.event.Answer.TheVariants.{LogFull}
use Rattle.sn_msg.specs.declared.Message.{Message}
use Rattle.sn_model.specs.Fabric.{Fabric, node_at}
use Rattle.sn_model.specs.NetEvents.{kept_at, answer_to}
use Rattle.home_directory.specs.Receipt.{LacksRoom, verdict_of}

-- a delivery finds the log full exactly where the home's verdict is that it lacks the room
abbrev pub IsFullAsAtHome : Config → Fabric → Message → Type 0
IsFullAsAtHome config s m =
    (answer_to config s m ≡ LogFull → verdict_of config.log (kept_at s m.to m.block) (node_at s m.to).now m ≡ LacksRoom)
    × (verdict_of config.log (kept_at s m.to m.block) (node_at s m.to).now m ≡ LacksRoom → answer_to config s m ≡ LogFull)
