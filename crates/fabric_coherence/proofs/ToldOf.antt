-- What an event tells is of the fabric: its node and block are there, and its point isn't above the recovery point.
use Rattle.std.proofs.Common.{◌≡◌, ◌∙◌, ℕ, ◌+◌, ◌-◌, ◌<◌, ◌≤◌, Bool, true, false, not, ◌&&◌, length, refl, ap, sym, subst, if◌then◌else◌}
use Rattle.std.proofs.Common.{nat_eq, nat_lt, nat_le, List, Option, Some, None}
use Rattle.sn_base.specs.declared.config.Config.{Config}
use Rattle.sn_base.specs.declared.event.Answer.TheVariants.{Retired, Waits, LogFull, NetFull, NeedsEvict, PutOpen, MissOpen}
use Rattle.sn_base.specs.declared.event.Answer.TheVariants.{CheckpointsFull, Arrived, AlreadyDead, NotArrived, Held}
use Rattle.sn_base.specs.declared.log.LogEntry.{LogEntry}
use Rattle.sn_msg.specs.declared.Message.{Message}
use Rattle.sn_msg.specs.declared.Body.TheVariants.{Advance}
use Rattle.sn_model.specs.declared.cache.LineState.{LineState}
use Rattle.sn_model.specs.declared.cache.LineState.TheVariants as state
use Rattle.sn_model.specs.declared.cache.Need.{Need}
use Rattle.sn_model.specs.declared.cache.Out.{Out}
use Rattle.sn_model.specs.declared.rows.CacheRow.{CacheRow}
use Rattle.sn_model.specs.declared.rows.Receiver.TheVariants as receiver
use Rattle.sn_model.specs.Caches.{block_count, line_of, is_present, misses_on, puts_on, frames_taken}
use Rattle.sn_model.specs.HomeRows.{HomeReply}
use Rattle.sn_model.specs.Access.{step_of_miss, misses, has_miss, serves, lacks_room, accesses, step_of_access}
use Rattle.sn_model.specs.Fabric.{Fabric, Flight, FabricStep, node_at, home_node, step_refused, step_with_answer}
use Rattle.sn_model.specs.FabricEvents.{FabricEvent, Access, Write, Evict, Edge, Hop, Deliver, Lose, Kill, Report, Advance as Advances}
use Rattle.sn_model.specs.FabricEvents.{Recover, moved_by}
use Rattle.sn_model.specs.Net.{net_limit, routes_of, flight_of, is_there, is_full, next_switch}
use Rattle.sn_model.specs.NodeEvents.{evicts, begins_put, has_put, checkpoint_limit}
use Rattle.sn_model.specs.NetEvents.{AtCache, AtHome, logged_at, fits_in, outcome_of}
use Rattle.sn_model.specs.NetEvents.{delivers, delivers_flight, hops, hops_to, loses}
use Rattle.sn_model.specs.PointEvents.{recovers, living_switches}
use Rattle.route_plan.specs.Distances.{is_dead}
use Rattle.route_plan.specs.Routes.{first_cut_off}
use Rattle.sn_coherence.specs.Block as block
use Rattle.fabric_coherence.specs.View.{GhostState, net_seen, message_seen}
use Rattle.fabric_coherence.specs.Steps.{IsInFlight}
use Rattle.fabric_coherence.specs.CacheEvents.{told_of, left_at_cache}
use Rattle.fabric_coherence.specs.Coherent.{FabricInvariant, Keeps}
use Rattle.fabric_coherence.specs.Events.{MayBe}
use Rattle.fabric_coherence.specs.HomeEvents.{left_at_home, row_at_home}
use Rattle.fabric_coherence.specs.Recorded.{IsOfFabric}
use Rattle.fabric_coherence.proofs.Receivers.{says_body}
use Rattle.fabric_coherence.proofs.CacheOutcomes.{loses_copy, row_loses}
use Rattle.fabric_coherence.proofs.EachOutcome.{each_row}
use Rattle.fabric_coherence.proofs.InFlight.{in_flight}

abbrev Tells : Fabric → FabricStep → Type 0
Tells s x = IsOfFabric s x.told

by_test : (s : Fabric) (test : Bool) (a b : FabricStep) → Tells s a → Tells s b → Tells s (if test then a else b)
by_test s true a b first second = first
by_test s false a b first second = second

tells_accessed : (config : Config) (s : Fabric) (n block : ℕ) (need : Need) → Tells s (step_of_access config s n block need)
tells_accessed config s n block need =
    by_test s (has_miss (node_at s n).cache.miss) (step_refused s Waits) (accesses config s n block need) tt
    (by_test s (puts_on (node_at s n).cache.put block) (step_refused s Waits) _ tt
    (by_test s (serves need (line_of (node_at s n).cache block).state) _ (misses config s n block need)
    (by_test s (lacks_room config (node_at s n) block need) (step_refused s LogFull) (step_with_answer s Retired) tt tt)
    (by_test s (not (is_present (line_of (node_at s n).cache block).state)
    && nat_le config.ways (frames_taken (node_at s n).cache config.sets block)) (step_refused s NeedsEvict) _ tt
    (by_test s (is_full s 1) (step_refused s NetFull) (step_of_miss s n block need) tt tt))))

tells_begins_put : (s : Fabric) (n b : ℕ) → Tells s (begins_put s n b)
tells_begins_put s n b =
    by_test s (has_put (node_at s n).cache.put) (step_refused s PutOpen) _ tt (by_test s (is_full s 1) (step_refused s NetFull) _ tt tt)

tells_evicts : (s : Fabric) (n b : ℕ) (line : LineState) → n < length s.nodes → b < block_count → Tells s (evicts s n b line)
tells_evicts s n b state.Absent l low = tt
tells_evicts s n b state.Shared l low = (l, low)
tells_evicts s n b state.Owned l low = tells_begins_put s n b
tells_evicts s n b state.Modified l low = tells_begins_put s n b
tells_evicts s n b state.Exclusive l low = tells_begins_put s n b

tells_hops : (s : Fabric) (found : Option Flight) → Tells s (hops s found)
tells_hops s None = tt
tells_hops s (Some f) =
    by_test s (is_there f) (step_refused s Arrived) (hops_to s f (next_switch (routes_of s) f)) tt
    (by_test s (is_dead s.net.dead (next_switch (routes_of s) f)) _ _ tt tt)

tells_loses : (s : Fabric) (found : Option Flight) → Tells s (loses s found)
tells_loses s None = tt
tells_loses s (Some f) = tt

-- a delivery
module _ (config : Config) (s : Fabric) (t : GhostState) (id : ℕ) (f : Flight) (kept : FabricInvariant s t) (found : flight_of s.net.flights id ≡ Some f) where
  abbrev m : Message
  m = f.message

  flight : IsInFlight s m
  flight = in_flight s id f kept.shape found

  done : (log : List LogEntry) (sends : List Out) (step : FabricStep) → Tells s step → Tells s (fits_in config s log sends step)
  done log sends step told = by_test s (nat_lt config.log (length log)) (step_refused s LogFull) _ tt
      (by_test s (nat_lt (net_limit + 1) (length s.net.flights + length sends)) (step_refused s NetFull) step tt told)

  lost_here : (c : Bool) → IsOfFabric s (told_of m.to (if c then Some m.block else None))
  lost_here true = (flight.to, flight.block)
  lost_here false = tt

  at_cache : (taken : CacheRow) → Tells s (delivers config s m (AtCache (left_at_cache s m taken)))
  at_cache taken =
      done (left_at_cache s m taken).after.log (left_at_cache s m taken).sends _
      (subst (λ lost. IsOfFabric s (told_of m.to lost))
      (sym (row_loses (logged_at s m.to) (home_node s m.block) m.block (node_at s m.to).now m.tag taken))
      (lost_here (loses_copy (logged_at s m.to) m.block taken)))

  at_home : (reply : HomeReply) → Tells s (delivers config s m (AtHome reply))
  at_home reply = done reply.after.log reply.sends _ tt

  advance_low : (k : ℕ) → m.body ≡ Advance k → k ≤ s.point
  advance_low k is =
      subst (λ (x : block.Message). x.body ≡ block.Advance → x.number ≤ s.point) seen
      ((kept.blocks m.block flight.block).clocks.advance_point m.id) refl
    where
      seen : net_seen m.block s.net.flights m.id ≡ message_seen m (Advance k)
      seen = flight.seen ∙ ap (message_seen m) is

  tells_found : Tells s (delivers_flight config s (Some f))
  tells_found = by_test s (not (is_there f)) (step_refused s NotArrived) _ tt
      (by_test s (nat_lt (node_at s m.to).now m.tag) (step_refused s Held) (delivers config s m (outcome_of s m m.body)) tt
      (each_row s m (λ outcome. Tells s (delivers config s m outcome)) (λ taken is. at_cache taken)
      (λ message is served. at_home (left_at_home s m (row_at_home s m message))) tt (λ k is. flight.from)
      (λ k is. (flight.to, advance_low k (says_body m.body (receiver.Clock k) is)))))

tells_flight : (config : Config) (s : Fabric) (t : GhostState) (id : ℕ) (found : Option Flight) → FabricInvariant s t →
    flight_of s.net.flights id ≡ found → Tells s (delivers_flight config s found)
tells_flight config s t id None kept e = tt
tells_flight config s t id (Some f) kept e = tells_found config s t id f kept e

tells_recovers : (s : Fabric) (k : ℕ) (cut : Option (ℕ × ℕ)) → Tells s (recovers s k cut)
tells_recovers s k (Some pair) = tt
tells_recovers s k None = tt

pub told_of_fabric : (config : Config) (s : Fabric) (event : FabricEvent) → Keeps s → MayBe s event → Tells s (moved_by config s event)
unfolding moved_by
told_of_fabric config s (Access n b need) k m = tells_accessed config s n b need
told_of_fabric config s (Write n w) k m = tt
told_of_fabric config s (Evict n b) k m =
    by_test s (misses_on (node_at s n).cache.miss b) (step_refused s MissOpen) _ tt
    (tells_evicts s n b (line_of (node_at s n).cache b).state m.0 m.1)
told_of_fabric config s (Edge n) k m =
    by_test s (nat_eq ((node_at s n).now - (node_at s n).known) checkpoint_limit) (step_refused s CheckpointsFull) _ tt tt
told_of_fabric config s (Hop id) k m = tells_hops s (flight_of s.net.flights id)
told_of_fabric config s (Deliver id) k m = tells_flight config s k.0 id (flight_of s.net.flights id) k.1 refl
told_of_fabric config s (Lose id) k m = tells_loses s (flight_of s.net.flights id)
told_of_fabric config s (Kill switch) k m = by_test s (is_dead s.net.dead switch) (step_refused s AlreadyDead) _ tt tt
told_of_fabric config s (Report n) k m = by_test s (is_full s 1) (step_refused s NetFull) _ tt tt
told_of_fabric config s (Advances j) k m = by_test s (is_full s (length s.nodes)) (step_refused s NetFull) _ tt tt
told_of_fabric config s (Recover j) k m = tells_recovers s j (first_cut_off (living_switches s))
