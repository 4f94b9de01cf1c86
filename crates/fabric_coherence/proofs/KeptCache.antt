-- A delivery whose message comes to a cache leads every block on.
use Rattle.std.proofs.Common.{◌≡◌, ℕ, ◌<◌, ◌≤◌, List, length, sym, subst, length-set}
use Rattle.sn_base.specs.declared.config.Config.{Config}
use Rattle.sn_msg.specs.declared.Message.{Message}
use Rattle.sn_model.specs.declared.rows.CacheRow.{CacheRow}
use Rattle.sn_model.specs.declared.rows.Receiver.TheVariants as receiver
use Rattle.sn_model.specs.CacheRows.{CacheReply}
use Rattle.sn_model.specs.Fabric.{Fabric, node_at, home_node}
use Rattle.sn_model.specs.NetEvents.{AtCache, logged_at, node_after, delivers}
use Rattle.sn_model.specs.Receivers.{receiver_of}
use Rattle.sn_coherence.specs.Block as block
use Rattle.sn_coherence.specs.Events.{after}
use Rattle.sn_coherence.specs.Invariant.{BlockInvariant}
use Rattle.fabric_coherence.specs.View.{GhostState, block_seen}
use Rattle.fabric_coherence.specs.Steps.{IsShaped, IsInFlight, after_cache, ghost_with, losing, lost_at_once, node_in_body}
use Rattle.fabric_coherence.specs.Coherent.{FabricInvariant}
use Rattle.fabric_coherence.specs.Recorded.{heard_by}
use Rattle.fabric_coherence.specs.Leads.{Goes, Moves}
use Rattle.fabric_coherence.specs.CacheEvents.{told_of, cache_event, left_at_cache, elsewhere_after}
use Rattle.fabric_coherence.proofs.NetShape.{after_cache-shaped}
use Rattle.fabric_coherence.proofs.CacheConditions.{IsAtCache}
use Rattle.fabric_coherence.proofs.CacheOutcomes.{Hears, at_cache, row_loses, cache-own, cache-leads, cache-passes, cache-fits}
use Rattle.fabric_coherence.proofs.CacheElsewhere.{cache-elsewhere}
use Rattle.fabric_coherence.proofs.KeptCommon.{frames_stay, then_losing, goes_own, fits_moves}

-- a message that is in flight, and whose receiver's interval has reached its tag
module _ (s : Fabric) (t : GhostState) (m : Message) (kept : FabricInvariant s t) (flight : IsInFlight s m) (reached : m.tag ≤ (node_at s m.to).now) where
  of_block : BlockInvariant (length s.nodes) (block_seen s t m.block)
  of_block = kept.blocks m.block flight.block

  -- what a row of the cache leaves
  row_moves : node_in_body m.body < length s.nodes → (taken : CacheRow) → IsAtCache s m taken →
      Moves s t (after_cache s m (left_at_cache s m taken))
  row_moves names taken does = (
    ghost_with t m.block own,
    subst (λ x. Goes s t (heard_by (told_of m.to x)) (after_cache s m reply).fabric (ghost_with t m.block own))
        (sym (row_loses (logged_at s m.to) (home_node s m.block) m.block (node_at s m.to).now m.tag taken))
        (goes_own s t (Hears s t m kept.shape flight of_block reached taken) (after_cache s m reply).fabric (ghost_with t m.block own)
        (length-set s.nodes m.to (node_after (node_at s m.to) reply)) (frames_stay s t) shaped m.block (losing own lost)
        (elsewhere_after s t m taken) (cache-own s t m kept.shape flight of_block reached taken does)
        (then_losing (length s.nodes) (block_seen s t m.block) own (Hears s t m kept.shape flight of_block reached taken m.block) lost
        (cache-leads s t m kept.shape flight of_block reached taken does))
        (λ o l other. cache-elsewhere s t m kept.shape flight own o other taken does)
        (λ o l other. cache-passes s t m kept.shape flight of_block reached o other taken does)),
  )
    where
      reply : CacheReply
      reply = left_at_cache s m taken

      own : block.Block
      own = after (length s.nodes) (block_seen s t m.block) (cache_event m.id taken)

      lost : List ℕ
      lost = lost_at_once (after_cache s m reply).sent

      shaped : IsShaped (after_cache s m reply).fabric
      shaped =
          let fits = cache-fits s t m kept.shape flight of_block reached names taken does.body in
          after_cache-shaped s m kept.shape flight.to flight.block reply fits.0 fits.1

  -- a delivery to the cache
  pub cache_delivery_moves : (config : Config) → node_in_body m.body < length s.nodes → (taken : CacheRow) →
      receiver_of m.body ≡ receiver.Cache taken → Moves s t (delivers config s m (AtCache (left_at_cache s m taken)))
  cache_delivery_moves config names taken is =
      let reply : CacheReply = left_at_cache s m taken in
      fits_moves config s t kept.shape reply.after.log reply.sends (after_cache s m reply)
      (row_moves names taken (at_cache s t m kept.shape flight of_block reached taken is))
