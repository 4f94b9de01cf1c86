-- Every event but a recovery makes a step of each node, of the network and of the numbers.
use Rattle.std.proofs.Common.{◌≡◌, ℕ, suc, ◌+◌, ◌-◌, ◌<◌, ◌≤◌, true, false, not, ◌&&◌, List, [], ◌∷◌, length, refl, ap, arith, nat_lt}
use Rattle.std.proofs.Common.{nat_le, nat_eq, if◌then◌else◌, slice_set, Option, Some, None}
use Rattle.std.specs.Prelude.{⊤}
use Rattle.std.specs.List.{filter}
use Rattle.std.proofs.lemmas.Bool.Decides.{nat_tests}
use Rattle.std.proofs.lemmas.List.{length-map}
use Rattle.sn_base.specs.declared.block.Write.{Write as Written}
use Rattle.sn_base.specs.declared.config.Config.{Config}
use Rattle.sn_base.specs.declared.event.Answer.TheVariants.{Retired, Missed, Waits, NeedsEvict, LogFull, NetFull, PutOpen, PutBegun}
use Rattle.sn_base.specs.declared.event.Answer.TheVariants.{Evicted, NotCached, MissOpen, Edged, CheckpointsFull, Reported, Arrived, Hopped}
use Rattle.sn_base.specs.declared.event.Answer.TheVariants.{LostInDead, NoMessage, Lost, Killed, AlreadyDead, Validated}
use Rattle.sn_msg.specs.declared.Body.TheVariants.{PutReq, Ready}
use Rattle.rv_core.specs.Core.{block_of}
use Rattle.sn_model.specs.declared.cache.LineState.{LineState}
use Rattle.sn_model.specs.declared.cache.LineState.TheVariants as state
use Rattle.sn_model.specs.declared.cache.Need.{Need}
use Rattle.sn_model.specs.declared.cache.Need.TheVariants.{Write as ToWrite}
use Rattle.sn_model.specs.declared.net.News.TheVariants.{LostCopy}
use Rattle.sn_model.specs.Access.{request_for, new_miss, missing, step_of_miss, misses, has_miss, serves, lacks_room, node_to_write, written_in}
use Rattle.sn_model.specs.Access.{with_write, fabric_with_write, accesses, step_of_access}
use Rattle.sn_model.specs.Caches.{no_line, line_of, is_present, misses_on, puts_on, frames_taken}
use Rattle.sn_model.specs.CacheRows.{send}
use Rattle.sn_model.specs.Fabric.{Fabric, Flight, Node, node_at, home_node, with_node, with_net, step_refused, step_with_answer}
use Rattle.sn_model.specs.FabricEvents.{FabricEvent, Access, Write, Evict, Edge, Hop, Deliver, Lose, Kill, Report, Advance as Advances}
use Rattle.sn_model.specs.FabricEvents.{Recover, moved_by}
use Rattle.sn_model.specs.Net.{net_limit, routes_of, flight_of, without_flight, net_with_flight_in, flight_in_switch, is_there, is_full, next_switch, sending}
use Rattle.sn_model.specs.NodeEvents.{without_copy, drops_copy, has_put, with_put, begins_put, evicts, step_of_eviction, after_edge}
use Rattle.sn_model.specs.NodeEvents.{checkpoint_limit, step_of_edge, ready_of, step_of_report}
use Rattle.sn_model.specs.NetEvents.{hops, hops_to, loses, step_of_kill}
use Rattle.sn_model.specs.PointEvents.{advances, step_of_advance}
use Rattle.route_plan.specs.Distances.{is_dead}
use Rattle.sn_model.proofs.Taken.{TakesFewer}
use Rattle.fabric_coherence.specs.View.{GhostState}
use Rattle.fabric_coherence.specs.Coherent.{FabricInvariant}
use Rattle.fabric_coherence.specs.Events.{CanWrite, MayBe}
use Rattle.fabric_bounds.specs.Bounds.{HasLogRoom}
use Rattle.fabric_bounds.proofs.Lists.{shorter}
use Rattle.fabric_bounds.proofs.Steps.{IsStep, fewer_fits, node_stays, one_steps, quiet_step, sending_step, same_step, by_test}
use Rattle.fabric_bounds.proofs.Rows.{or_left, writable_takes, line_fewer}
use Rattle.fabric_bounds.proofs.Misses.{miss_fits}
use Rattle.fabric_bounds.proofs.Deliveries.{not_over, delivery_step}

not_full : (now more : ℕ) → nat_lt net_limit (now + more) ≡ false → now + more ≤ net_limit
not_full now more e = grind (arith, nat_tests)

-- a message of a node that changes
module _ (config : Config) (s : Fabric) (n : ℕ) (l : n < length s.nodes) where
  missed_step : (block : ℕ) (access : Need) →
      (not (is_present (line_of (node_at s n).cache block).state)
      && nat_le config.ways (frames_taken (node_at s n).cache config.sets block)) ≡ false → is_full s 1 ≡ false →
      IsStep config s (step_of_miss s n block access)
  missed_step block access room net =
      sending_step config s (with_node s n (missing (node_at s n) block access)) n block
      (send (home_node s block) (request_for access) ∷ []) Missed None
      (one_steps config s n (missing (node_at s n) block access) l
      (record {
        log = λ h. h;
        frames = λ h. miss_fits config (node_at s n).cache (new_miss block access (node_at s n).now) h room;
        now = omega arith;
      }))
      (λ h. not_full (length s.net.flights) 1 net) refl (omega arith) (omega arith)

  misses_step : (block : ℕ) (access : Need) → IsStep config s (misses config s n block access)
  misses_step block access =
      by_test config s (not (is_present (line_of (node_at s n).cache block).state)
      && nat_le config.ways (frames_taken (node_at s n).cache config.sets block)) (step_refused s NeedsEvict) _
      (λ e. same_step config s NeedsEvict)
      (λ room. by_test config s (is_full s 1) (step_refused s NetFull) (step_of_miss s n block access) (λ e. same_step config s NetFull)
      (λ net. missed_step block access room net))

  accessed_step : (block : ℕ) (access : Need) → IsStep config s (step_of_access config s n block access)
  accessed_step block access =
      by_test config s (has_miss (node_at s n).cache.miss) (step_refused s Waits) (accesses config s n block access)
      (λ e. same_step config s Waits)
      (λ e. by_test config s (puts_on (node_at s n).cache.put block) (step_refused s Waits) _ (λ e. same_step config s Waits)
      (λ e. by_test config s (serves access (line_of (node_at s n).cache block).state)
      (if lacks_room config (node_at s n) block access then step_refused s LogFull else step_with_answer s Retired) (misses config s n block access)
      (λ e. by_test config s (lacks_room config (node_at s n) block access) (step_refused s LogFull) (step_with_answer s Retired)
      (λ e. same_step config s LogFull) (λ e. same_step config s Retired))
      (λ e. misses_step block access)))

  -- an eviction
  put_step : (block : ℕ) → is_full s 1 ≡ false →
      IsStep config s (sending (with_node s n (with_put (node_at s n) block)) n block (send (home_node s block) PutReq ∷ []) PutBegun)
  put_step block net =
      sending_step config s (with_node s n (with_put (node_at s n) block)) n block (send (home_node s block) PutReq ∷ []) PutBegun None
      (one_steps config s n (with_put (node_at s n) block) l
      (record {
        log = λ h. h;
        frames = fewer_fits config (with_put (node_at s n) block).cache (node_at s n).cache (λ b e. e);
        now = omega arith;
      }))
      (λ h. not_full (length s.net.flights) 1 net) refl (omega arith) (omega arith)

  begins_put_step : (block : ℕ) → IsStep config s (begins_put s n block)
  begins_put_step block = by_test config s (has_put (node_at s n).cache.put) (step_refused s PutOpen) _ (λ e. same_step config s PutOpen)
      (λ e. by_test config s (is_full s 1) (step_refused s NetFull)
      (sending (with_node s n (with_put (node_at s n) block)) n block (send (home_node s block) PutReq ∷ []) PutBegun)
      (λ e. same_step config s NetFull) (λ net. put_step block net))

  drop_step : (block : ℕ) → IsStep config s (drops_copy s n block)
  drop_step block = quiet_step config s (with_node s n (without_copy (node_at s n) block)) Evicted (Some (LostCopy n block))
      (one_steps config s n (without_copy (node_at s n) block) l
      (record {
        log = λ h. h;
        frames = fewer_fits config (without_copy (node_at s n) block).cache (node_at s n).cache
            (line_fewer (node_at s n).cache block no_line (λ e. absurd (cc)));
        now = omega arith;
      }))
      (omega arith) refl (omega arith)

  evicts_step : (block : ℕ) (line : LineState) → IsStep config s (evicts s n block line)
  evicts_step block state.Absent = same_step config s NotCached
  evicts_step block state.Shared = drop_step block
  evicts_step block state.Owned = begins_put_step block
  evicts_step block state.Modified = begins_put_step block
  evicts_step block state.Exclusive = begins_put_step block

  evicted_step : (block : ℕ) → IsStep config s (step_of_eviction s n block)
  evicted_step block =
      by_test config s (misses_on (node_at s n).cache.miss block) (step_refused s MissOpen) _ (λ e. same_step config s MissOpen)
      (λ e. evicts_step block (line_of (node_at s n).cache block).state)

  -- a clock edge, a report
  edge_step : IsStep config s (step_of_edge s n)
  edge_step =
      by_test config s (nat_eq ((node_at s n).now - (node_at s n).known) checkpoint_limit) (step_refused s CheckpointsFull) _
      (λ e. same_step config s CheckpointsFull)
      (λ e. quiet_step config s (with_node s n (after_edge (node_at s n))) (Edged ((node_at s n).now + 1)) None
      (one_steps config s n (after_edge (node_at s n)) l (record { log = λ h. h; frames = λ h. h; now = omega arith })) (omega arith) refl
      (omega arith))

  report_step : IsStep config s (step_of_report s n)
  report_step = by_test config s (is_full s 1) (step_refused s NetFull) _ (λ e. same_step config s NetFull)
      (λ net. sending_step config s s n 0 (send 0 (Ready (ready_of s n)) ∷ []) (Reported (ready_of s n)) None
      (λ m k. node_stays config (node_at s m)) (λ h. not_full (length s.net.flights) 1 net) refl (omega arith) (omega arith))

-- a write that was served
write_step : (config : Config) (s : Fabric) (n : ℕ) (w : Written) → CanWrite s n w →
    lacks_room config (node_at s n) (block_of w.address) ToWrite ≡ false → IsStep config s (step_with_answer (fabric_with_write s n w) Retired)
write_step config s n w can room = quiet_step config s (fabric_with_write s n w) Retired None
    (one_steps config s n (with_write (node_at s n) w) can.line.node (record {
      log = λ h. not_over config.log (length (node_to_write (node_at s n) (block_of w.address)).log) room;
      frames = fewer_fits config (with_write (node_at s n) w).cache (node_at s n).cache fewer;
      now = omega arith;
    }))
    (omega arith) refl (omega arith)
  where
    fewer : TakesFewer (with_write (node_at s n) w).cache (node_at s n).cache
    fewer b e =
        line_fewer (node_at s n).cache (block_of w.address)
        (record { state = state.Modified; content = (line_of (node_at s n).cache (block_of w.address)).content })
        (λ p. writable_takes (node_at s n).cache (block_of w.address) can.writable) b
        (line_fewer (node_to_write (node_at s n) (block_of w.address)).cache (block_of w.address)
        (record {
          state = (line_of (node_to_write (node_at s n) (block_of w.address)).cache (block_of w.address)).state;
          content = written_in (line_of (node_to_write (node_at s n) (block_of w.address)).cache (block_of w.address)).content w;
        })
        (λ p. or_left (is_present (line_of (node_to_write (node_at s n) (block_of w.address)).cache (block_of w.address)).state)
        (misses_on (node_at s n).cache.miss (block_of w.address)) p) b e)

module _ (config : Config) (s : Fabric) where
  -- a message that is lost, one that moves on, a switch that dies
  loses_step : (found : Option Flight) → IsStep config s (loses s found)
  loses_step None = same_step config s NoMessage
  loses_step (Some f) =
      quiet_step config s (with_net s (without_flight s.net f.message.id)) Lost None (λ n l. node_stays config (node_at s n))
      (shorter _ s.net.flights) refl (omega arith)

  hops_step : (found : Option Flight) → IsStep config s (hops s found)
  hops_step None = same_step config s NoMessage
  hops_step (Some f) =
      by_test config s (is_there f) (step_refused s Arrived) (hops_to s f (next_switch (routes_of s) f)) (λ e. same_step config s Arrived)
      (λ e. by_test config s (is_dead s.net.dead (next_switch (routes_of s) f)) _ _
      (λ e. quiet_step config s (with_net s (without_flight s.net f.message.id)) LostInDead None (λ n l. node_stays config (node_at s n))
      (shorter _ s.net.flights) refl (omega arith))
      (λ e. quiet_step config s (with_net s (net_with_flight_in s.net f.message.id (next_switch (routes_of s) f))) Hopped None
      (λ n l. node_stays config (node_at s n))
      (omega (arith, length-map s.net.flights (flight_in_switch f.message.id (next_switch (routes_of s) f)))) refl (omega arith)))

  kill_step : (switch : ℕ) → IsStep config s (step_of_kill s switch)
  kill_step switch = by_test config s (is_dead s.net.dead switch) (step_refused s AlreadyDead) _ (λ e. same_step config s AlreadyDead)
      (λ e. quiet_step config s
      (with_net s (record s.net {
        dead = slice_set s.net.dead switch true;
        flights = filter (λ f. not (nat_eq f.place switch)) s.net.flights;
      })) Killed None
      (λ n l. node_stays config (node_at s n)) (shorter _ s.net.flights) refl (omega arith))

  -- the recovery point rises
  one_each : (k to : ℕ) (nodes : List Node) → length (advances k to nodes) ≡ length nodes
  one_each k to [] = refl
  one_each k to (node ∷ nodes) = ap suc (one_each k (to + 1) nodes)

  advance_step : (k : ℕ) → length s.nodes ≤ 16 → k ≡ s.point + 1 → IsStep config s (step_of_advance s k)
  advance_step k few e = by_test config s (is_full s (length s.nodes)) (step_refused s NetFull) _ (λ e. same_step config s NetFull)
      (λ net. sending_step config s (record s { point = k }) 0 0 (advances k 0 s.nodes) (Validated k) None
      (λ n l. node_stays config (node_at s n))
      (λ h. omega (arith, one_each k 0 s.nodes, not_full (length s.net.flights) (length s.nodes) net)) refl
      (omega (arith, one_each k 0 s.nodes, few)) (omega (arith, e)))

-- every event but a recovery
abbrev pub IsNoRecovery : FabricEvent → Type 0
IsNoRecovery (Recover k) = ⊥
IsNoRecovery _ = ⊤

pub event_step : (config : Config) (s : Fabric) (t : GhostState) (event : FabricEvent) → FabricInvariant s t → MayBe s event → HasLogRoom config s event →
    IsNoRecovery event → IsStep config s (moved_by config s event)
unfolding moved_by
event_step config s t (Access n block access) kept may room other = accessed_step config s n may.0 block access
event_step config s t (Write n w) kept may room other = write_step config s n w may room
event_step config s t (Evict n block) kept may room other = evicted_step config s n may.0 block
event_step config s t (Edge n) kept may room other = edge_step config s n may
event_step config s t (Hop id) kept may room other = hops_step config s (flight_of s.net.flights id)
event_step config s t (Deliver id) kept may room other = delivery_step config s t id (flight_of s.net.flights id) kept refl
event_step config s t (Lose id) kept may room other = loses_step config s (flight_of s.net.flights id)
event_step config s t (Kill switch) kept may room other = kill_step config s switch
event_step config s t (Report n) kept may room other = report_step config s n may
event_step config s t (Advances k) kept may room other = advance_step config s k kept.shape.few may.0
event_step config s t (Recover k) kept may room other = absurd other
