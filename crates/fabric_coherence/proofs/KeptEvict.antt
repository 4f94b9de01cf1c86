-- An eviction leads every block on.
use Rattle.std.proofs.Common.{◌≡◌, ℕ, ◌<◌, true, false, Some, [], ◌∷◌, length, refl, ap, ◌∙◌, length-set}
use Rattle.sn_base.specs.declared.event.Answer.TheVariants.{PutBegun, MissOpen, PutOpen, NetFull, NotCached}
use Rattle.sn_msg.specs.declared.Body.TheVariants.{PutReq}
use Rattle.sn_model.specs.declared.cache.LineState.{LineState}
use Rattle.sn_model.specs.declared.cache.LineState.TheVariants as state
use Rattle.sn_model.specs.declared.cache.LineState.TheVariants.{Shared}
use Rattle.sn_model.specs.Caches.{block_count, line_of, no_line, misses_on, is_owned}
use Rattle.sn_model.specs.CacheRows.{send}
use Rattle.sn_model.specs.Fabric.{Fabric, node_at, with_node, home_node, FabricStep, step_refused}
use Rattle.sn_model.specs.Net.{sending, is_full}
use Rattle.sn_model.specs.NodeEvents.{step_of_eviction, evicts, begins_put, with_put, without_copy, drops_copy, has_put}
use Rattle.sn_coherence.specs.OtherEvents.{evict_shared, begin_put, begin_put_elsewhere, numbers_elsewhere}
use Rattle.sn_coherence.specs.Events.{BeginPut, EvictShared, NumbersElsewhere, Allows}
use Rattle.sn_coherence.specs.Records.{unreserves}
use Rattle.fabric_coherence.specs.View.{GhostState, block_seen, line_seen}
use Rattle.fabric_coherence.specs.Steps.{losing, lost_at_once}
use Rattle.fabric_coherence.specs.Coherent.{FabricInvariant}
use Rattle.fabric_coherence.specs.Recorded.{heard_by}
use Rattle.fabric_coherence.specs.CacheEvents.{told_of}
use Rattle.fabric_coherence.specs.Leads.{Moves}
use Rattle.fabric_coherence.proofs.NetShape.{with_node-shaped}
use Rattle.fabric_coherence.proofs.NodeOther.{put-seen, other_put-seen, drop-seen, other_drop-seen}
use Rattle.fabric_coherence.proofs.KeptCommon.{frames_stay, event_leads, quiet_losing, then_losing, then_quiet, begin_put_elsewhere_leads}
use Rattle.fabric_coherence.proofs.KeptCommon.{stays, leads_as, told_here, told_there, goes_own, as_it_is, by_test}
use Rattle.fabric_coherence.proofs.KeptNode.{sent-shaped, miss_apart, no_put_seen, owned_seen}

module _ (s : Fabric) (t : GhostState) (n b : ℕ) (kept : FabricInvariant s t) (l : n < length s.nodes) (low : b < block_count) (apart : misses_on (node_at s n).cache.miss b ≡ false) where
  -- the home is asked for the block
  abbrev put_begun : FabricStep
  put_begun = sending (with_node s n (with_put (node_at s n) b)) n b (send (home_node s b) PutReq ∷ []) PutBegun

  put_moves : has_put (node_at s n).cache.put ≡ false → is_owned (line_of (node_at s n).cache b).state ≡ true → Moves s t put_begun
  put_moves none owned = (
    t,
    goes_own s t (λ o r. r) put_begun.fabric t (length-set s.nodes n _) (frames_stay s t)
        (sent-shaped s n kept.shape l (with_put (node_at s n) b) b (send (home_node s b) PutReq) PutBegun (kept.shape.lines n l) low
        (kept.blocks b low).nodes.home_low kept.shape.some)
        b (losing (begin_put (block_seen s t b) n) (lost_at_once put_begun.sent))
        (λ o. losing (numbers_elsewhere (begin_put_elsewhere (block_seen s t o) n) 1) (lost_at_once put_begun.sent))
        (put-seen s t n b kept.shape l)
        (quiet_losing (length s.nodes) (block_seen s t b) (BeginPut n) (lost_at_once put_begun.sent) (
          l,
          miss_apart b (node_at s n).cache.miss apart,
          no_put_seen b (node_at s n).cache.put none,
          owned_seen (line_of (node_at s n).cache b).state owned,
        ) tt)
        (λ o m other. other_put-seen s t n o b kept.shape l other)
        (λ o m other. then_losing (length s.nodes) (block_seen s t o) (numbers_elsewhere (begin_put_elsewhere (block_seen s t o) n) 1)
        (λ r. r) (lost_at_once put_begun.sent)
        (then_quiet (length s.nodes) (block_seen s t o) (begin_put_elsewhere (block_seen s t o) n) (NumbersElsewhere 1)
        (begin_put_elsewhere_leads (length s.nodes) (block_seen s t o) n l (no_put_seen o (node_at s n).cache.put none)) tt tt)),
  )

  begins_put_moves : is_owned (line_of (node_at s n).cache b).state ≡ true → Moves s t (begins_put s n b)
  begins_put_moves owned = by_test s t (has_put (node_at s n).cache.put) (step_refused s PutOpen) _ (λ e. as_it_is s t PutOpen kept.shape)
      (λ none. by_test s t (is_full s 1) (step_refused s NetFull) put_begun (λ e. as_it_is s t NetFull kept.shape) (λ e. put_moves none owned))

  -- a Shared line is dropped, and the copy is lost
  drop_moves : (line_of (node_at s n).cache b).state ≡ Shared → Moves s t (drops_copy s n b)
  drop_moves shared = (
    t,
    goes_own s t (heard_by (told_of n (Some b))) (with_node s n (without_copy (node_at s n) b)) t (length-set s.nodes n _) (frames_stay s t)
        (with_node-shaped s n (without_copy (node_at s n) b) kept.shape l
        (length-set (node_at s n).cache.lines b no_line ∙ kept.shape.lines n l))
        b (evict_shared (block_seen s t b) n) (λ o. block_seen s t o)
        (drop-seen s t n b l shared)
        (leads_as (length s.nodes) (block_seen s t b) (evict_shared (block_seen s t b) n) (λ r. unreserves r n)
        (heard_by (told_of n (Some b)) b) (told_here n b)
        (event_leads (length s.nodes) (block_seen s t b) (EvictShared n) may (λ r. may)))
        (λ o m other. other_drop-seen s t n o b l other)
        (λ o m other. leads_as (length s.nodes) (block_seen s t o) (block_seen s t o) (λ r. r) (heard_by (told_of n (Some b)) o)
        (told_there n b o other) (stays (length s.nodes) (block_seen s t o))),
  )
    where
      may : Allows (length s.nodes) (block_seen s t b) (EvictShared n)
      may = (miss_apart b (node_at s n).cache.miss apart, ap line_seen shared)

  evicts_moves : (line : LineState) → (line_of (node_at s n).cache b).state ≡ line → Moves s t (evicts s n b line)
  evicts_moves state.Absent e = as_it_is s t NotCached kept.shape
  evicts_moves state.Shared e = drop_moves e
  evicts_moves state.Owned e = begins_put_moves (ap is_owned e)
  evicts_moves state.Modified e = begins_put_moves (ap is_owned e)
  evicts_moves state.Exclusive e = begins_put_moves (ap is_owned e)

pub evicted-moves : (s : Fabric) (t : GhostState) (n b : ℕ) → FabricInvariant s t → n < length s.nodes → b < block_count → Moves s t (step_of_eviction s n b)
evicted-moves s t n b kept l low =
    by_test s t (misses_on (node_at s n).cache.miss b) (step_refused s MissOpen) (evicts s n b (line_of (node_at s n).cache b).state)
    (λ e. as_it_is s t MissOpen kept.shape)
    (λ apart. evicts_moves s t n b kept l low apart (line_of (node_at s n).cache b).state refl)
