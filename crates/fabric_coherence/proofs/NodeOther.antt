-- What a block sees of the other events of one node: a clock edge, a report, an eviction.
use Rattle.std.proofs.Common.{get_or-set_same, get_or-set_other, ◌≡◌, ◌≢◌, ℕ, ◌+◌, ◌<◌, [], ◌∷◌, length, refl, arith}
use Rattle.std.proofs.lemmas.Bool.Decides.{nat_tests}
use Rattle.std.proofs.lemmas.List.{set_past, get_or_past}
use Rattle.sn_model.specs.declared.cache.LineState.TheVariants.{Shared}
use Rattle.sn_model.specs.Caches.{Cache, line_of, no_line, without_line}
use Rattle.sn_model.specs.CacheRows.{send}
use Rattle.sn_model.specs.Fabric.{Fabric, node_at, with_node, home_node, step_with_answer}
use Rattle.sn_model.specs.Net.{is_lost, routes_of, sending}
use Rattle.sn_model.specs.NodeEvents.{after_edge, with_put, without_copy}
use Rattle.sn_msg.specs.declared.Body.TheVariants.{Ready, PutReq}
use Rattle.sn_base.specs.declared.event.Answer.TheVariants.{Edged, Reported, PutBegun, Evicted}
use Rattle.sn_coherence.specs.OtherEvents.{edge, report, evict_shared, begin_put, begin_put_elsewhere, numbers_elsewhere}
use Rattle.sn_coherence.specs.Same.{IsSame}
use Rattle.fabric_coherence.specs.View.{GhostState, block_seen}
use Rattle.fabric_coherence.specs.Steps.{IsShaped, losing, lost_at_once}
use Rattle.fabric_coherence.specs.NodeSeen.{block_with_node, carried_by, ghost_after_edge}
use Rattle.fabric_coherence.proofs.NodeSeen.{same_then, node_changed, log_same, lost_same, own_post, other_post, sends, routes_with}
use Rattle.fabric_coherence.proofs.NodeSeen.{sent_same, own_block, other_block}

-- a clock edge

pub edge-seen : (s : Fabric) (t : GhostState) (n b : ℕ) → n < length s.nodes →
    IsSame (block_seen (step_with_answer (with_node s n (after_edge (node_at s n))) (Edged ((node_at s n).now + 1))).fabric (ghost_after_edge s t n) b)
    (edge (block_seen s t b) n)
edge-seen s t n b l = same_then _ (carried_by (block_with_node (block_seen s (ghost_after_edge s t n) b) b n (after_edge (node_at s n))) b s.net) _
    (node_changed s (ghost_after_edge s t n) n b (after_edge (node_at s n)) s.net l (log_same b (after_edge (node_at s n)) (node_at s n) refl))
    (grind (arith, nat_tests))

-- a report

pub report-seen : (s : Fabric) (t : GhostState) (n b k : ℕ) → IsShaped s →
    IsSame (block_seen (sending s n 0 (send 0 (Ready k) ∷ []) (Reported k)).fabric t b)
    (losing (report (block_seen s t b) n k) (lost_at_once (sending s n 0 (send 0 (Ready k) ∷ []) (Reported k)).sent))
report-seen s t n b k shape =
    lost_same _ (report (block_seen s t b) n k) (is_lost (routes_of s) s.net (sends s n 0 (send 0 (Ready k)))) s.net.next_id
    (grind (arith, nat_tests, own_post (routes_of s) s.net (sends s n 0 (send 0 (Ready k))) b, shape.below))

-- a put begins

pub put-seen : (s : Fabric) (t : GhostState) (n b : ℕ) → IsShaped s → n < length s.nodes →
    IsSame (block_seen (sending (with_node s n (with_put (node_at s n) b)) n b (send (home_node s b) PutReq ∷ []) PutBegun).fabric t b)
    (losing (begin_put (block_seen s t b) n)
    (lost_at_once (sending (with_node s n (with_put (node_at s n) b)) n b (send (home_node s b) PutReq ∷ []) PutBegun).sent))
put-seen s t n b shape l =
    sent_same s t n b b (with_put (node_at s n) b) (send (home_node s b) PutReq) PutBegun l
    (log_same b (with_put (node_at s n) b) (node_at s n) refl) refl (begin_put (block_seen s t b) n)
    (grind (
      arith,
      nat_tests,
      own_post (routes_with s n (with_put (node_at s n) b)) s.net (sends s n b (send (home_node s b) PutReq)) b,
      own_block b,
      shape.below,
    ))

pub other_put-seen : (s : Fabric) (t : GhostState) (n b about : ℕ) → IsShaped s → n < length s.nodes → b ≢ about →
    IsSame (block_seen (sending (with_node s n (with_put (node_at s n) about)) n about
    (send (home_node s about) PutReq ∷ []) PutBegun).fabric t b)
    (losing (numbers_elsewhere (begin_put_elsewhere (block_seen s t b) n) 1)
    (lost_at_once (sending (with_node s n (with_put (node_at s n) about)) n about (send (home_node s about) PutReq ∷ []) PutBegun).sent))
other_put-seen s t n b about shape l apart =
    sent_same s t n b about (with_put (node_at s n) about) (send (home_node s about) PutReq) PutBegun l
    (log_same b (with_put (node_at s n) about) (node_at s n) refl) refl (numbers_elsewhere (begin_put_elsewhere (block_seen s t b) n) 1)
    (grind (
      arith,
      nat_tests,
      other_post (routes_with s n (with_put (node_at s n) about)) s.net (sends s n about (send (home_node s about) PutReq)) b,
      other_block about b apart,
      shape.below,
    ))

-- a Shared line is dropped

pub line_dropped : (cache : Cache) (b : ℕ) → line_of (without_line cache b) b ≡ no_line
line_dropped cache b =
    grind (
      arith,
      nat_tests,
      get_or-set_same cache.lines b no_line no_line,
      set_past cache.lines b no_line,
      get_or_past cache.lines b no_line,
    )

pub line_other : (cache : Cache) (b o : ℕ) → o ≢ b → line_of (without_line cache b) o ≡ line_of cache o
line_other cache b o n = grind (arith, get_or-set_other)

pub drop-seen : (s : Fabric) (t : GhostState) (n b : ℕ) → n < length s.nodes → (line_of (node_at s n).cache b).state ≡ Shared →
    IsSame (block_seen (step_with_answer (with_node s n (without_copy (node_at s n) b)) Evicted).fabric t b) (evict_shared (block_seen s t b) n)
drop-seen s t n b l shared = same_then _ (carried_by (block_with_node (block_seen s t b) b n (without_copy (node_at s n) b)) b s.net) _
    (node_changed s t n b (without_copy (node_at s n) b) s.net l (log_same b (without_copy (node_at s n) b) (node_at s n) refl))
    (grind (arith, nat_tests, line_dropped (node_at s n).cache b))

pub other_drop-seen : (s : Fabric) (t : GhostState) (n b about : ℕ) → n < length s.nodes → b ≢ about →
    IsSame (block_seen (step_with_answer (with_node s n (without_copy (node_at s n) about)) Evicted).fabric t b) (block_seen s t b)
other_drop-seen s t n b about l apart =
    same_then _ (carried_by (block_with_node (block_seen s t b) b n (without_copy (node_at s n) about)) b s.net) _
    (node_changed s t n b (without_copy (node_at s n) about) s.net l (log_same b (without_copy (node_at s n) about) (node_at s n) refl))
    (grind (arith, nat_tests, line_other (node_at s n).cache about b apart))
