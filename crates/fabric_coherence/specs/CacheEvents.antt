-- Which event of the coherence theorem a row of a cache is, what it leaves, and what becomes of another block.
use Rattle.std.specs.Prelude.{ℕ, ◌+◌, ◌&&◌, ◌==◌, Option}
use Rattle.std.specs.Option.{option_map}
use Rattle.sn_msg.specs.declared.Message.{Message}
use Rattle.sn_model.specs.CacheRows.{CacheReply, cache_reply}
use Rattle.sn_model.specs.declared.net.News.{News}
use Rattle.sn_model.specs.declared.net.News.TheVariants.{LostCopy}
use Rattle.sn_model.specs.declared.rows.CacheRow.{CacheRow}
use Rattle.sn_model.specs.declared.rows.CacheRow.TheVariants as row
use Rattle.sn_model.specs.Fabric.{Fabric, node_at, home_node}
use Rattle.sn_model.specs.NetEvents.{logged_at}
use Rattle.sn_coherence.specs.Block.{Block}
use Rattle.sn_coherence.specs.Events.{Event, ForwardRead, ForwardWrite, Invalidate, DataShared, DataModified, UpgradeGranted, Acknowledge}
use Rattle.sn_coherence.specs.Events.{PutGoes, PutIsDone, DataExclusive}
use Rattle.sn_coherence.specs.OtherEvents.{end_miss_elsewhere, end_put_elsewhere}
use Rattle.fabric_coherence.specs.View.{GhostState, block_seen}
use Rattle.fabric_coherence.specs.Steps.{elsewhere}
use Rattle.fabric_coherence.specs.CacheSeen.{completed_or_waiting_elsewhere}

-- the event that a row is, of message i
abbrev pub cache_event : ℕ → CacheRow → Event
cache_event i (row.ForwardRead r) = ForwardRead i
cache_event i (row.ForwardWrite r due) = ForwardWrite i
cache_event i (row.Invalidate r) = Invalidate i
cache_event i (row.DataShared content) = DataShared i
cache_event i (row.DataModified content due) = DataModified i
cache_event i (row.UpgradeGranted due) = UpgradeGranted i
cache_event i row.Acknowledge = Acknowledge i
cache_event i row.PutGo = PutGoes i
cache_event i row.PutDone = PutIsDone i
cache_event i (row.DataExclusive content) = DataExclusive i

-- what a row leaves of the machine at the receiver of a message
abbrev pub left_at_cache : Fabric → Message → CacheRow → CacheReply
left_at_cache s m taken = cache_reply (logged_at s m.to) (home_node s m.block) m.block (node_at s m.to).now m.tag taken

-- what is told of a lost copy
abbrev pub told_of : ℕ → Option ℕ → Option News
told_of n lost = option_map (λ (block : ℕ). LostCopy n block) lost

-- what another block is after a row
abbrev pub elsewhere_after : Fabric → GhostState → Message → CacheRow → ℕ → Block
elsewhere_after s t m (row.ForwardRead r) o = elsewhere (block_seen s t o) m.id 1
elsewhere_after s t m (row.ForwardWrite r due) o = elsewhere (block_seen s t o) m.id 1
elsewhere_after s t m (row.Invalidate r) o = elsewhere (block_seen s t o) m.id 1
elsewhere_after s t m (row.DataShared content) o = end_miss_elsewhere (elsewhere (block_seen s t o) m.id 1) m.to
elsewhere_after s t m (row.DataModified content due) o =
    completed_or_waiting_elsewhere (block_seen s t o) m.id m.to (((block_seen s t m.block).miss m.to).acks == due)
elsewhere_after s t m (row.UpgradeGranted due) o =
    completed_or_waiting_elsewhere (block_seen s t o) m.id m.to (((block_seen s t m.block).miss m.to).acks == due)
elsewhere_after s t m row.Acknowledge o =
    completed_or_waiting_elsewhere (block_seen s t o) m.id m.to
    (((block_seen s t m.block).miss m.to).is_fixed
    && (((block_seen s t m.block).miss m.to).acks + 1 == ((block_seen s t m.block).miss m.to).due))
elsewhere_after s t m row.PutGo o = end_put_elsewhere (elsewhere (block_seen s t o) m.id 1) m.to
elsewhere_after s t m row.PutDone o = end_put_elsewhere (elsewhere (block_seen s t o) m.id 0) m.to
elsewhere_after s t m (row.DataExclusive content) o = end_miss_elsewhere (elsewhere (block_seen s t o) m.id 1) m.to
