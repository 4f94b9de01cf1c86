-- No event of the fabric brings or takes a node.
use Rattle.std.proofs.Common.{◌≡◌, ℕ, ◌+◌, ◌-◌, Bool, true, false, not, ◌&&◌, length, refl, length-set, if◌then◌else◌, nat_eq, nat_lt}
use Rattle.std.proofs.Common.{nat_le, Option, Some, None}
use Rattle.std.proofs.lemmas.List.{length-map}
use Rattle.sn_base.specs.declared.config.Config.{Config}
use Rattle.sn_base.specs.declared.event.Answer.TheVariants.{Retired, Waits, LogFull, NetFull, NeedsEvict, PutOpen, MissOpen}
use Rattle.sn_base.specs.declared.event.Answer.TheVariants.{CheckpointsFull, Arrived, AlreadyDead, NotArrived, Held}
use Rattle.sn_msg.specs.declared.Message.{Message}
use Rattle.sn_model.specs.declared.cache.LineState.{LineState}
use Rattle.sn_model.specs.declared.cache.LineState.TheVariants as state
use Rattle.sn_model.specs.declared.cache.Need.{Need}
use Rattle.sn_model.specs.Caches.{line_of, is_present, misses_on, puts_on, frames_taken}
use Rattle.sn_model.specs.CacheRows.{CacheReply}
use Rattle.sn_model.specs.HomeRows.{HomeReply}
use Rattle.sn_model.specs.Access.{step_of_miss, misses, has_miss, serves, lacks_room, accesses, step_of_access, with_write}
use Rattle.sn_model.specs.Fabric.{Fabric, Flight, FabricStep, node_at, step_refused, step_with_answer}
use Rattle.sn_model.specs.FabricEvents.{FabricEvent, Access, Write, Evict, Edge, Hop, Deliver, Lose, Kill, Report, Advance as Advances}
use Rattle.sn_model.specs.FabricEvents.{Recover, moved_by}
use Rattle.sn_model.specs.Net.{net_limit, routes_of, flight_of, is_there, is_full, next_switch}
use Rattle.sn_model.specs.NodeEvents.{evicts, begins_put, has_put, checkpoint_limit}
use Rattle.sn_model.specs.NetEvents.{AtCache, AtHome, node_after_news, outcome_of, node_after, delivers, delivers_flight, hops, hops_to, loses}
use Rattle.sn_model.specs.PointEvents.{recovers, fabric_restored_to, restored_node, living_switches}
use Rattle.route_plan.specs.Distances.{is_dead}
use Rattle.route_plan.specs.Routes.{first_cut_off}
use Rattle.fabric_coherence.proofs.EachOutcome.{each_outcome}

abbrev Stays : Fabric → FabricStep → Type 0
Stays s x = length x.fabric.nodes ≡ length s.nodes

by_test : (s : Fabric) (test : Bool) (a b : FabricStep) → Stays s a → Stays s b → Stays s (if test then a else b)
by_test s true a b first second = first
by_test s false a b first second = second

stays_accessed : (config : Config) (s : Fabric) (n block : ℕ) (need : Need) → Stays s (step_of_access config s n block need)
stays_accessed config s n block need =
    by_test s (has_miss (node_at s n).cache.miss) (step_refused s Waits) (accesses config s n block need) refl
    (by_test s (puts_on (node_at s n).cache.put block) (step_refused s Waits) _ refl
    (by_test s (serves need (line_of (node_at s n).cache block).state) _ (misses config s n block need)
    (by_test s (lacks_room config (node_at s n) block need) (step_refused s LogFull) (step_with_answer s Retired) refl refl)
    (by_test s (not (is_present (line_of (node_at s n).cache block).state)
    && nat_le config.ways (frames_taken (node_at s n).cache config.sets block)) (step_refused s NeedsEvict) _ refl
    (by_test s (is_full s 1) (step_refused s NetFull) (step_of_miss s n block need) refl (length-set s.nodes n _)))))

stays_begins_put : (s : Fabric) (n block : ℕ) → Stays s (begins_put s n block)
stays_begins_put s n block =
    by_test s (has_put (node_at s n).cache.put) (step_refused s PutOpen) _ refl
    (by_test s (is_full s 1) (step_refused s NetFull) _ refl (length-set s.nodes n _))

stays_evicts : (s : Fabric) (n block : ℕ) (line : LineState) → Stays s (evicts s n block line)
stays_evicts s n block state.Absent = refl
stays_evicts s n block state.Shared = length-set s.nodes n _
stays_evicts s n block state.Owned = stays_begins_put s n block
stays_evicts s n block state.Modified = stays_begins_put s n block
stays_evicts s n block state.Exclusive = stays_begins_put s n block

stays_hops : (s : Fabric) (found : Option Flight) → Stays s (hops s found)
stays_hops s None = refl
stays_hops s (Some f) =
    by_test s (is_there f) (step_refused s Arrived) (hops_to s f (next_switch (routes_of s) f)) refl
    (by_test s (is_dead s.net.dead (next_switch (routes_of s) f)) _ _ refl refl)

stays_loses : (s : Fabric) (found : Option Flight) → Stays s (loses s found)
stays_loses s None = refl
stays_loses s (Some f) = refl

-- a delivery
module _ (config : Config) (s : Fabric) (m : Message) where
  at_cache : (reply : CacheReply) → Stays s (delivers config s m (AtCache reply))
  at_cache reply = by_test s (nat_lt config.log (length reply.after.log)) (step_refused s LogFull) _ refl
      (by_test s (nat_lt (net_limit + 1) (length s.net.flights + length reply.sends)) (step_refused s NetFull) _ refl
      (length-set s.nodes m.to (node_after (node_at s m.to) reply)))

  at_home : (reply : HomeReply) → Stays s (delivers config s m (AtHome reply))
  at_home reply = by_test s (nat_lt config.log (length reply.after.log)) (step_refused s LogFull) _ refl
      (by_test s (nat_lt (net_limit + 1) (length s.net.flights + length reply.sends)) (step_refused s NetFull) _ refl
      (length-set s.nodes m.to (record (node_at s m.to) { log = reply.after.log })))

  stays_delivers : Stays s (delivers config s m (outcome_of s m m.body))
  stays_delivers =
      each_outcome s m (λ x. Stays s (delivers config s m x)) at_cache at_home refl (λ k. refl)
      (λ k is. length-set s.nodes m.to (node_after_news (node_at s m.to) k))

stays_flight : (config : Config) (s : Fabric) (found : Option Flight) → Stays s (delivers_flight config s found)
stays_flight config s None = refl
stays_flight config s (Some f) = by_test s (not (is_there f)) (step_refused s NotArrived) _ refl
    (by_test s (nat_lt (node_at s f.message.to).now f.message.tag) (step_refused s Held)
    (delivers config s f.message (outcome_of s f.message f.message.body)) refl
    (stays_delivers config s f.message))

length_restored : (s : Fabric) (k : ℕ) → length (fabric_restored_to s k).nodes ≡ length s.nodes
unfolding fabric_restored_to
length_restored s k = length-map s.nodes (restored_node k)

stays_recovers : (s : Fabric) (k : ℕ) (cut : Option (ℕ × ℕ)) → Stays s (recovers s k cut)
stays_recovers s k (Some pair) = refl
stays_recovers s k None = length_restored s k

pub nodes_same : (config : Config) (s : Fabric) (event : FabricEvent) → Stays s (moved_by config s event)
unfolding moved_by
nodes_same config s (Access n block need) = stays_accessed config s n block need
nodes_same config s (Write n w) = length-set s.nodes n (with_write (node_at s n) w)
nodes_same config s (Evict n block) =
    by_test s (misses_on (node_at s n).cache.miss block) (step_refused s MissOpen) _ refl
    (stays_evicts s n block (line_of (node_at s n).cache block).state)
nodes_same config s (Edge n) =
    by_test s (nat_eq ((node_at s n).now - (node_at s n).known) checkpoint_limit) (step_refused s CheckpointsFull) _ refl
    (length-set s.nodes n _)
nodes_same config s (Hop id) = stays_hops s (flight_of s.net.flights id)
nodes_same config s (Deliver id) = stays_flight config s (flight_of s.net.flights id)
nodes_same config s (Lose id) = stays_loses s (flight_of s.net.flights id)
nodes_same config s (Kill switch) = by_test s (is_dead s.net.dead switch) (step_refused s AlreadyDead) _ refl refl
nodes_same config s (Report n) = by_test s (is_full s 1) (step_refused s NetFull) _ refl refl
nodes_same config s (Advances k) = by_test s (is_full s (length s.nodes)) (step_refused s NetFull) _ refl refl
nodes_same config s (Recover k) = stays_recovers s k (first_cut_off (living_switches s))
