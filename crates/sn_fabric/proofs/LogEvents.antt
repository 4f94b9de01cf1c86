-- No event brings an entry of another home into a node's log.
use Rattle.std.proofs.Common.{◌≡◌, ℕ, ◌+◌, ◌-◌, ◌%◌, ◌<◌, Bool, true, false, not, List, length, get_or, set, refl, sym, subst, arith}
use Rattle.std.proofs.Common.{⊎_elim, get_or-set_same, get_or-set_other}
use Rattle.std.specs.Prelude.{nat_eq, nat_lt, nat_le, ◌&&◌, if◌then◌else◌, Option, Some, None}
use Rattle.std.proofs.lemmas.Bool.{cases_eq}
use Rattle.sn_base.specs.declared.block.Write.{Write as Written}
use Rattle.sn_base.specs.declared.config.Config.{Config}
use Rattle.sn_base.specs.declared.event.Answer.TheVariants.{Waits, NeedsEvict, LogFull, NetFull, PutOpen, MissOpen, CheckpointsFull}
use Rattle.sn_base.specs.declared.event.Answer.TheVariants.{Arrived, NotArrived, Held, AlreadyDead, Retired}
use Rattle.sn_msg.specs.declared.Body.{Body}
use Rattle.sn_msg.specs.declared.Body.TheVariants.{GetS, GetM, FwdGetS, FwdGetM, Inv, DataS, DataM, DataE, UpgOk, InvAck, Unblock, PutReq}
use Rattle.sn_msg.specs.declared.Body.TheVariants.{PutGo, PutData, PutDone, Ready, Advance}
use Rattle.log_buffer.specs.Log.{LogEntry}
use Rattle.rv_core.specs.Core.{block_of}
use Rattle.route_plan.specs.Distances.{is_dead}
use Rattle.route_plan.specs.Routes.{first_cut_off}
use Rattle.sn_model.specs.declared.cache.LineState.{LineState}
use Rattle.sn_model.specs.declared.cache.LineState.TheVariants as state
use Rattle.sn_model.specs.declared.cache.Need.{Need}
use Rattle.sn_model.specs.Access.{missing, step_of_miss, misses, has_miss, serves, lacks_room, with_write, fabric_with_write, accesses, step_of_access}
use Rattle.sn_model.specs.Caches.{line_of, is_present, misses_on, puts_on, frames_taken, with_line}
use Rattle.sn_model.specs.declared.rows.HomeMessage.{HomeMessage}
use Rattle.sn_model.specs.declared.rows.HomeMessage.TheVariants as asked
use Rattle.sn_model.specs.CacheRows.{Logged, CacheReply, content_of, taken_over, forward_read, forward_write, invalidate, put_go, put_done}
use Rattle.sn_model.specs.CacheRows.{data_shared, data_modified, data_exclusive, upgrade_granted, acknowledge, fixed_at, miss_with_ack}
use Rattle.sn_model.specs.Homes.{Transaction}
use Rattle.sn_model.specs.HomeRows.{HomeReply, home_reply, home_row}
use Rattle.sn_model.specs.Fabric.{Fabric, Flight, Node, FabricStep, first_node, node_at, home_of, home_node, step_refused, step_with_answer}
use Rattle.sn_model.specs.FabricEvents.{FabricEvent, Access, Write, Evict, Edge, Hop, Deliver, Lose, Kill, Report, Advance as Advances}
use Rattle.sn_model.specs.FabricEvents.{Recover, moved_by}
use Rattle.sn_model.specs.Net.{net_limit, routes_of, flight_of, is_there, is_full, next_switch}
use Rattle.sn_model.specs.NodeEvents.{without_copy, has_put, with_put, begins_put, evicts, step_of_eviction, after_edge, checkpoint_limit, step_of_edge}
use Rattle.sn_model.specs.NodeEvents.{step_of_report}
use Rattle.sn_model.specs.NetEvents.{AtCache, AtHome, logged_at, kept_at, unless_busy, outcome_of, node_after, node_after_news, delivers}
use Rattle.sn_model.specs.NetEvents.{delivers_flight, hops, hops_to, loses, step_of_kill}
use Rattle.sn_model.specs.PointEvents.{step_of_advance, fabric_restored_to, recovers, living_switches}
use Rattle.sn_model.specs.Receivers.{comes_to_home}
use Rattle.fabric_bounds.specs.Coherent.{FabricInvariant}
use Rattle.fabric_bounds.specs.Events.{MayBe}
use Rattle.fabric_bounds.specs.Steps.{IsInFlight}
use Rattle.fabric_bounds.specs.View.{GhostState}
use Rattle.fabric_bounds.proofs.InFlight.{in_flight}
use Rattle.fabric_bounds.proofs.NodesStay.{nodes_same}
use Rattle.fabric_bounds.proofs.Recovery.{each_node}
use Rattle.fabric_bounds.proofs.RowsMet.{meets_home}
use Rattle.sn_fabric.specs.Logs.{IsOwnLog, AreOwnLogs}
use Rattle.sn_fabric.proofs.LogRows.{nothing-own, content-own, from-own, row-own, completed_or_waiting-log}

-- what an event makes of each log
record KeepsLogs (s : Fabric) (x : FabricStep) : Type 0 where
  nodes : (n : ℕ) → n < length s.nodes → IsOwnLog (length s.nodes) n (node_at s n).log →
      IsOwnLog (length s.nodes) n (node_at x.fabric n).log

-- a test of the fabric
by_test : (s : Fabric) (test : Bool) (a b : FabricStep) → KeepsLogs s a → KeepsLogs s b → KeepsLogs s (if test then a else b)
by_test s true a b first second = first
by_test s false a b first second = second

-- one node changes
one_keeps : (s : Fabric) (n : ℕ) (v : Node) → n < length s.nodes →
    (IsOwnLog (length s.nodes) n (node_at s n).log → IsOwnLog (length s.nodes) n v.log) →
    (m : ℕ) → m < length s.nodes → IsOwnLog (length s.nodes) m (node_at s m).log →
    IsOwnLog (length s.nodes) m (get_or (set s.nodes n v) m first_node).log
one_keeps s n v l h m k own = ⊎_elim
    (λ (e : m ≡ n). subst (λ (i : ℕ). IsOwnLog (length s.nodes) i (get_or (set s.nodes n v) i first_node).log) (sym e)
    (subst (λ (x : Node). IsOwnLog (length s.nodes) n x.log) (sym (get_or-set_same s.nodes n v first_node l))
    (h (subst (λ (i : ℕ). IsOwnLog (length s.nodes) i (node_at s i).log) e own))))
    (λ ne. subst (λ (x : Node). IsOwnLog (length s.nodes) m x.log) (sym (get_or-set_other s.nodes n m v first_node ne)) own)
    (cases_eq m n)

module _ (config : Config) (s : Fabric) (n : ℕ) (l : n < length s.nodes) where
  misses-keep : (block : ℕ) (access : Need) → KeepsLogs s (misses config s n block access)
  misses-keep block access =
      by_test s (not (is_present (line_of (node_at s n).cache block).state)
      && nat_le config.ways (frames_taken (node_at s n).cache config.sets block)) (step_refused s NeedsEvict) _
      (record { nodes = λ m k own. own })
      (by_test s (is_full s 1) (step_refused s NetFull) (step_of_miss s n block access) (record { nodes = λ m k own. own })
      (record { nodes = one_keeps s n (missing (node_at s n) block access) l (λ own. own) }))

  accessed-keeps : (block : ℕ) (access : Need) → KeepsLogs s (step_of_access config s n block access)
  accessed-keeps block access =
      by_test s (has_miss (node_at s n).cache.miss) (step_refused s Waits) (accesses config s n block access) (record { nodes = λ m k own. own })
      (by_test s (puts_on (node_at s n).cache.put block) (step_refused s Waits) _ (record { nodes = λ m k own. own })
      (by_test s (serves access (line_of (node_at s n).cache block).state)
      (if lacks_room config (node_at s n) block access then step_refused s LogFull else step_with_answer s Retired) (misses config s n block access)
      (by_test s (lacks_room config (node_at s n) block access) (step_refused s LogFull) (step_with_answer s Retired) (record { nodes = λ m k own. own })
      (record { nodes = λ m k own. own }))
      (misses-keep block access)))

  put-keeps : (block : ℕ) → KeepsLogs s (begins_put s n block)
  put-keeps block =
      by_test s (has_put (node_at s n).cache.put) (step_refused s PutOpen) _ (record { nodes = λ m k own. own })
      (by_test s (is_full s 1) (step_refused s NetFull) _ (record { nodes = λ m k own. own })
      (record { nodes = one_keeps s n (with_put (node_at s n) block) l (λ own. own) }))

  evicts-keep : (block : ℕ) (line : LineState) → KeepsLogs s (evicts s n block line)
  evicts-keep block state.Absent = record { nodes = λ m k own. own }
  evicts-keep block state.Shared = record { nodes = one_keeps s n (without_copy (node_at s n) block) l (λ own. own) }
  evicts-keep block state.Owned = put-keeps block
  evicts-keep block state.Modified = put-keeps block
  evicts-keep block state.Exclusive = put-keeps block

  evicted-keeps : (block : ℕ) → KeepsLogs s (step_of_eviction s n block)
  evicted-keeps block =
      by_test s (misses_on (node_at s n).cache.miss block) (step_refused s MissOpen) _ (record { nodes = λ m k own. own })
      (evicts-keep block (line_of (node_at s n).cache block).state)

  edge-keeps : KeepsLogs s (step_of_edge s n)
  edge-keeps =
      by_test s (nat_eq ((node_at s n).now - (node_at s n).known) checkpoint_limit) (step_refused s CheckpointsFull) _
      (record { nodes = λ m k own. own })
      (record { nodes = one_keeps s n (after_edge (node_at s n)) l (λ own. own) })

  report-keeps : KeepsLogs s (step_of_report s n)
  report-keeps = by_test s (is_full s 1) (step_refused s NetFull) _ (record { nodes = λ m k own. own }) (record { nodes = λ m k own. own })

  write-keeps : (w : Written) → KeepsLogs s (step_with_answer (fabric_with_write s n w) Retired)
  write-keeps w =
      record {
        nodes = one_keeps s n (with_write (node_at s n) w) l
            (content-own (length s.nodes) n (node_at s n).log (node_at s n).now (block_of w.address)
            (line_of (node_at s n).cache (block_of w.address)).content);
      }

module _ (s : Fabric) where
  loses-keep : (found : Option Flight) → KeepsLogs s (loses s found)
  loses-keep None = record { nodes = λ m k own. own }
  loses-keep (Some f) = record { nodes = λ m k own. own }

  hops-keep : (found : Option Flight) → KeepsLogs s (hops s found)
  hops-keep None = record { nodes = λ m k own. own }
  hops-keep (Some f) =
      by_test s (is_there f) (step_refused s Arrived) (hops_to s f (next_switch (routes_of s) f)) (record { nodes = λ m k own. own })
      (by_test s (is_dead s.net.dead (next_switch (routes_of s) f)) _ _ (record { nodes = λ m k own. own })
      (record { nodes = λ m k own. own }))

  kill-keeps : (switch : ℕ) → KeepsLogs s (step_of_kill s switch)
  kill-keeps switch =
      by_test s (is_dead s.net.dead switch) (step_refused s AlreadyDead) _ (record { nodes = λ m k own. own })
      (record { nodes = λ m k own. own })

  advance-keeps : (k : ℕ) → KeepsLogs s (step_of_advance s k)
  advance-keeps k =
      by_test s (is_full s (length s.nodes)) (step_refused s NetFull) _ (record { nodes = λ m k own. own }) (record { nodes = λ m k own. own })

  recovers-keep : (cut : Option (ℕ × ℕ)) → KeepsLogs s (recovers s s.point cut)
  unfolding fabric_restored_to
  recovers-keep (Some pair) = record { nodes = λ m k own. own }
  recovers-keep None =
      record {
        nodes = λ n l own. each_node (λ m x y. m < length s.nodes → IsOwnLog (length s.nodes) m y.log) s (λ m k h c other. refl)
            (λ m k h. absurd (omega arith)) n l;
      }

-- a delivery
module _ (config : Config) (s : Fabric) (t : GhostState) (id : ℕ) (f : Flight) (kept : FabricInvariant s t) (found : flight_of s.net.flights id ≡ Some f) where
  flight : IsInFlight s f.message
  flight = in_flight s id f kept.shape found

  at_home : (x : Body) → f.message.body ≡ x → comes_to_home x ≡ true → f.message.block % length s.nodes ≡ f.message.to
  at_home x is h = sym (meets_home s t f.message flight kept (subst (λ y. comes_to_home y ≡ true) (sym is) h)).0

  abbrev Own : List LogEntry → Type 0
  Own log = IsOwnLog (length s.nodes) f.message.to log

  cache-keeps : (reply : CacheReply) → (Own (node_at s f.message.to).log → Own reply.after.log) →
      KeepsLogs s (delivers config s f.message (AtCache reply))
  cache-keeps reply h = by_test s (nat_lt config.log (length reply.after.log)) (step_refused s LogFull) _ (record { nodes = λ m k own. own })
      (by_test s (nat_lt (net_limit + 1) (length s.net.flights + length reply.sends)) (step_refused s NetFull) _
      (record { nodes = λ m k own. own })
      (record { nodes = one_keeps s f.message.to (node_after (node_at s f.message.to) reply) flight.to h }))

  home-keeps : (reply : HomeReply) → (Own (node_at s f.message.to).log → Own reply.after.log) →
      KeepsLogs s (delivers config s f.message (AtHome reply))
  home-keeps reply h = by_test s (nat_lt config.log (length reply.after.log)) (step_refused s LogFull) _ (record { nodes = λ m k own. own })
      (by_test s (nat_lt (net_limit + 1) (length s.net.flights + length reply.sends)) (step_refused s NetFull) _
      (record { nodes = λ m k own. own })
      (record { nodes = one_keeps s f.message.to (record (node_at s f.message.to) { log = reply.after.log }) flight.to h }))

  request-keeps : (reply : HomeReply) (open_one : Option Transaction) → (Own (node_at s f.message.to).log → Own reply.after.log) →
      KeepsLogs s (delivers config s f.message (unless_busy open_one reply))
  request-keeps reply None h = home-keeps reply h
  request-keeps reply (Some transaction) h = record { nodes = λ m k own. own }

  abbrev now : ℕ
  now = (node_at s f.message.to).now

  abbrev at : Logged
  at = logged_at s f.message.to

  abbrev home : ℕ
  home = home_node s f.message.block

  -- a row by which a miss may complete
  miss-keeps : (reply : CacheReply) (log : List LogEntry) → reply.after.log ≡ log → (Own at.log → Own log) →
      KeepsLogs s (delivers config s f.message (AtCache reply))
  miss-keeps reply log e h = cache-keeps reply (λ own. subst Own (sym e) (h own))

  -- what a row of the home leaves
  abbrev leaves : HomeMessage → HomeReply
  leaves message =
      home_reply (kept_at s f.message.to f.message.block) f.message.block now f.message.tag f.message.from
      (home_row (home_of s f.message.block) f.message.from message)

  row-keeps : (message : HomeMessage) → f.message.block % length s.nodes ≡ f.message.to → Own (node_at s f.message.to).log →
      Own (leaves message).after.log
  row-keeps message here own =
      row-own (length s.nodes) f.message.to (kept_at s f.message.to f.message.block) f.message.block here own now f.message.tag
      f.message.from (home_row (home_of s f.message.block) f.message.from message)

  body-keeps : (x : Body) → f.message.body ≡ x → KeepsLogs s (delivers config s f.message (outcome_of s f.message x))
  body-keeps GetS is = request-keeps (leaves asked.GetS) (home_of s f.message.block).transaction (row-keeps asked.GetS (at_home GetS is refl))
  body-keeps GetM is = request-keeps (leaves asked.GetM) (home_of s f.message.block).transaction (row-keeps asked.GetM (at_home GetM is refl))
  body-keeps PutReq is = request-keeps (leaves asked.PutReq) (home_of s f.message.block).transaction (row-keeps asked.PutReq (at_home PutReq is refl))
  body-keeps (Unblock fixed) is = home-keeps (leaves (asked.Unblock fixed)) (row-keeps (asked.Unblock fixed) (at_home (Unblock fixed) is refl))
  body-keeps (PutData content) is = home-keeps (leaves (asked.PutData content)) (row-keeps (asked.PutData content) (at_home (PutData content) is refl))
  body-keeps (FwdGetS r) is = cache-keeps (forward_read at f.message.block r) (λ own. own)
  body-keeps (FwdGetM r due) is = cache-keeps (forward_write at f.message.block now r due)
      (content-own (length s.nodes) f.message.to (node_at s f.message.to).log now f.message.block (content_of at f.message.block))
  body-keeps (Inv r) is = cache-keeps (invalidate at f.message.block r) (λ own. own)
  body-keeps (DataS content) is = miss-keeps (data_shared at home f.message.block f.message.tag content) (node_at s f.message.to).log
      (completed_or_waiting-log (record at { cache = with_line at.cache f.message.block state.Shared content }) home
      (fixed_at at.cache.miss f.message.tag 0)) (λ own. own)
  body-keeps (DataM content due) is =
      miss-keeps (data_modified at home f.message.block f.message.tag content due)
      (taken_over at f.message.block f.message.tag state.Modified content).log
      (completed_or_waiting-log (taken_over at f.message.block f.message.tag state.Modified content) home
      (fixed_at at.cache.miss f.message.tag due))
      (nothing-own (length s.nodes) f.message.to at.log f.message.tag f.message.block)
  body-keeps (DataE content) is =
      miss-keeps (data_exclusive at home f.message.block f.message.tag content)
      (taken_over at f.message.block f.message.tag state.Exclusive content).log
      (completed_or_waiting-log (taken_over at f.message.block f.message.tag state.Exclusive content) home
      (fixed_at at.cache.miss f.message.tag 0))
      (nothing-own (length s.nodes) f.message.to at.log f.message.tag f.message.block)
  body-keeps (UpgOk due) is =
      miss-keeps (upgrade_granted at home f.message.tag due) (node_at s f.message.to).log
      (completed_or_waiting-log at home (fixed_at at.cache.miss f.message.tag due)) (λ own. own)
  body-keeps InvAck is =
      miss-keeps (acknowledge at home) (node_at s f.message.to).log (completed_or_waiting-log at home (miss_with_ack at.cache.miss))
      (λ own. own)
  body-keeps PutGo is = cache-keeps (put_go at (home_node s f.message.block) f.message.block now)
      (content-own (length s.nodes) f.message.to (node_at s f.message.to).log now f.message.block (content_of at f.message.block))
  body-keeps PutDone is = cache-keeps (put_done at) (λ own. own)
  body-keeps (Ready k) is = record { nodes = λ m l own. own }
  body-keeps (Advance k) is =
      record {
        nodes = one_keeps s f.message.to (node_after_news (node_at s f.message.to) k) flight.to
            (from-own (length s.nodes) f.message.to (node_at s f.message.to).log k);
      }

  flight-keeps : KeepsLogs s (delivers_flight config s (Some f))
  flight-keeps = by_test s (not (is_there f)) (step_refused s NotArrived) _ (record { nodes = λ m k own. own })
      (by_test s (nat_lt now f.message.tag) (step_refused s Held) (delivers config s f.message (outcome_of s f.message f.message.body))
      (record { nodes = λ m k own. own }) (body-keeps f.message.body refl))

delivery-keeps : (config : Config) (s : Fabric) (t : GhostState) (id : ℕ) (found : Option Flight) → FabricInvariant s t →
    flight_of s.net.flights id ≡ found → KeepsLogs s (delivers_flight config s found)
delivery-keeps config s t id None kept e = record { nodes = λ m k own. own }
delivery-keeps config s t id (Some f) kept e = flight-keeps config s t id f kept e

event-keeps : (config : Config) (s : Fabric) (t : GhostState) (event : FabricEvent) → FabricInvariant s t → MayBe s event →
    KeepsLogs s (moved_by config s event)
unfolding moved_by
event-keeps config s t (Access n block access) kept may = accessed-keeps config s n may.0 block access
event-keeps config s t (Write n w) kept may = write-keeps config s n may.line.node w
event-keeps config s t (Evict n block) kept may = evicted-keeps config s n may.0 block
event-keeps config s t (Edge n) kept may = edge-keeps config s n may
event-keeps config s t (Hop id) kept may = hops-keep s (flight_of s.net.flights id)
event-keeps config s t (Deliver id) kept may = delivery-keeps config s t id (flight_of s.net.flights id) kept refl
event-keeps config s t (Lose id) kept may = loses-keep s (flight_of s.net.flights id)
event-keeps config s t (Kill switch) kept may = kill-keeps s switch
event-keeps config s t (Report n) kept may = report-keeps config s n may
event-keeps config s t (Advances k) kept may = advance-keeps s k
event-keeps config s t (Recover k) kept may =
    subst (λ (j : ℕ). KeepsLogs s (recovers s j (first_cut_off (living_switches s)))) (sym may)
    (recovers-keep s (first_cut_off (living_switches s)))

-- every event keeps that each log has entries of its own home alone
pub each-keeps-logs : (config : Config) (s : Fabric) (t : GhostState) (event : FabricEvent) → FabricInvariant s t → MayBe s event → AreOwnLogs s →
    AreOwnLogs (moved_by config s event).fabric
each-keeps-logs config s t event kept may own n l =
    let c : length (moved_by config s event).fabric.nodes ≡ length s.nodes = nodes_same config s event in
    let h : n < length s.nodes = subst (λ (k : ℕ). n < k) c l in
    subst (λ (k : ℕ). IsOwnLog k n (node_at (moved_by config s event).fabric n).log) (sym c)
    ((event-keeps config s t event kept may).nodes n h (own n h))
