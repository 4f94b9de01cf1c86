-- Which event of the coherence theorem a row of a home is.
use Rattle.std.specs.Prelude.{◌≡◌, ℕ, true, None}
use Rattle.sn_msg.specs.declared.Message.{Message}
use Rattle.sn_model.specs.declared.rows.HomeMessage.{HomeMessage}
use Rattle.sn_model.specs.declared.rows.HomeRow.{HomeRow}
use Rattle.sn_model.specs.declared.rows.HomeRow.TheVariants as row
use Rattle.sn_model.specs.HomeRows.{HomeReply, count_others, home_reply, home_row, is_request}
use Rattle.sn_model.specs.Fabric.{Fabric, node_at, home_of}
use Rattle.sn_model.specs.NetEvents.{kept_at}
use Rattle.sn_coherence.specs.Events.{Event, ReadAtHome, ReadAtOwner, Takes, MovesOwnership, Upgrades, Unblocks, PutBegins, PutIsStale}
use Rattle.sn_coherence.specs.Events.{PutDataComes, GrantExclusive}
use Rattle.fabric_coherence.specs.HomeSeen.{other_targets}

-- the sharers beside the sender, in order, and how many they are
abbrev pub targets_of : Fabric → Message → ℕ → ℕ
targets_of s m = other_targets (home_of s m.block).sharers m.from

abbrev pub other_count : Fabric → Message → ℕ
other_count s m = count_others (home_of s m.block).sharers m.from

-- the event that a row is, of a message
abbrev pub home_event : Fabric → Message → HomeRow → Event
home_event s m (row.ReadAtHome content) = ReadAtHome m.id
home_event s m (row.ReadAtOwner owner) = ReadAtOwner m.id
home_event s m (row.Take content) = Takes m.id (targets_of s m) (other_count s m)
home_event s m (row.MoveOwnership owner) = MovesOwnership m.id (targets_of s m) (other_count s m)
home_event s m row.Upgrade = Upgrades m.id (targets_of s m) (other_count s m)
home_event s m (row.Unblock fixed) = Unblocks m.id
home_event s m row.PutBegins = PutBegins m.id
home_event s m row.PutIsStale = PutIsStale m.id
home_event s m (row.PutData content) = PutDataComes m.id
home_event s m (row.GrantExclusive content) = GrantExclusive m.id

-- what a row leaves of the machine at the receiver of a message
abbrev pub left_at_home : Fabric → Message → HomeRow → HomeReply
left_at_home s m taken = home_reply (kept_at s m.to m.block) m.block (node_at s m.to).now m.tag m.from taken

-- the row of what comes to a home, by the entry of its block
abbrev pub row_at_home : Fabric → Message → HomeMessage → HomeRow
row_at_home s m message = home_row (home_of s m.block) m.from message

-- a request is served where no transaction is open
abbrev pub IsServed : Fabric → Message → HomeMessage → Type 0
IsServed s m message = is_request message ≡ true → (home_of s m.block).transaction ≡ None
