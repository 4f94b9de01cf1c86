-- What the controllers ask of each message that is delivered to them, said of the fabric.
use Rattle.std.specs.Prelude.{◌≡◌, true, false}
use Rattle.sn_msg.specs.declared.Message.{Message}
use Rattle.sn_model.specs.CacheRows.{MeetsRow, noted_in}
use Rattle.sn_model.specs.HomeRows.{HasRow, noting}
use Rattle.sn_model.specs.Receivers.{IsNoteInOrder}
use Rattle.sn_model.specs.Fabric.{Fabric, node_at, home_of, home_node}
use Rattle.sn_model.specs.NetEvents.{logged_at}

-- the message finds its row's condition at the cache, and what its row notes is not older than the log's entries
abbrev pub MeetsCache : Fabric → Message → Type 0
MeetsCache s m =
    MeetsRow (logged_at s m.to) m.block m.body × IsNoteInOrder (node_at s m.to).log false m.block (noted_in (node_at s m.to).now m.tag m.body)

-- the message has come to its block's home, has a row there, and what that notes is not older than the log's entries
abbrev pub MeetsHome : Fabric → Message → Type 0
MeetsHome s m =
    (m.to ≡ home_node s m.block)
    × HasRow (home_of s m.block) m.from m.body
    × IsNoteInOrder (node_at s m.to).log true m.block (noting (home_of s m.block) (node_at s m.to).now m m.body)
