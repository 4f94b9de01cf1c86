-- A switch dies by its own event alone, and where no nodes are cut off no recovery answers that some are.
use Rattle.std.proofs.Common.{◌≡◌, ℕ, ◌+◌, ◌-◌, Bool, true, false, not, ◌&&◌, List, [], ◌∷◌, length, refl, ◌∙◌, if◌then◌else◌, nat_eq}
use Rattle.std.proofs.Common.{nat_lt, nat_le, Option, Some, None}
use Rattle.sn_base.specs.declared.config.Config.{Config}
use Rattle.sn_base.specs.declared.event.Answer.{Answer}
use Rattle.sn_base.specs.declared.event.Answer.TheVariants.{CutOff, Retired, Missed, PutBegun, Validated, Reported, Waits, LogFull}
use Rattle.sn_base.specs.declared.event.Answer.TheVariants.{NetFull, NeedsEvict, PutOpen, MissOpen, CheckpointsFull, Arrived, NotArrived}
use Rattle.sn_base.specs.declared.event.Answer.TheVariants.{Held}
use Rattle.sn_msg.specs.declared.Message.{Message}
use Rattle.sn_msg.specs.declared.Body.TheVariants.{PutReq, Ready}
use Rattle.sn_model.specs.declared.cache.LineState.{LineState}
use Rattle.sn_model.specs.declared.cache.LineState.TheVariants as state
use Rattle.sn_model.specs.declared.cache.Need.{Need}
use Rattle.sn_model.specs.Caches.{line_of, is_present, misses_on, puts_on, frames_taken}
use Rattle.sn_model.specs.CacheRows.{CacheReply, send}
use Rattle.sn_model.specs.HomeRows.{HomeReply}
use Rattle.sn_model.specs.Access.{missing, request_for, step_of_miss, misses, has_miss, serves, lacks_room, accesses, step_of_access}
use Rattle.sn_model.specs.Fabric.{Fabric, Net, Flight, FabricStep, node_at, with_node, home_node, step_refused, step_with_answer}
use Rattle.sn_model.specs.Net.{net_limit, routes_of, flight_of, is_there, is_full, next_switch, message_of, net_after_send, net_after_sends, sending}
use Rattle.sn_model.specs.NodeEvents.{evicts, begins_put, has_put, with_put, ready_of, checkpoint_limit}
use Rattle.sn_model.specs.NetEvents.{AtCache, AtHome, outcome_of, delivers, delivers_flight, hops, hops_to, loses}
use Rattle.sn_model.specs.PointEvents.{advances, recovers, fabric_restored_to, living_switches}
use Rattle.route_plan.specs.Distances.{is_dead}
use Rattle.route_plan.specs.Routes.{first_cut_off}
use Rattle.sn_base.specs.Image.{ImageData}
use Rattle.sn_base.specs.declared.block.Write.{Write}
use Rattle.sn_base.specs.declared.event.Event.{Event}
use Rattle.sn_base.specs.declared.event.Event.TheVariants as event
use Rattle.route_plan.specs.Distances.{Switches}
use Rattle.sn_model.specs.declared.cache.Out.{Out}
use Rattle.sn_model.specs.Instructions.{MachineStep, step_of_retirement, written_by, found_at, next_with, step_of_instruction}
use Rattle.sn_model.specs.Machine.{State, processor_at}
use Rattle.sn_model.specs.MachineEvents.{validates, unready_node}
use Rattle.sn_model.specs.NodeEvents.{step_of_eviction}
use Rattle.sn_model.specs.Step.{step_of}
use Rattle.sn_model.proofs.EachStep.{each_step}
use Rattle.fabric_coherence.proofs.EachOutcome.{each_outcome}

abbrev pub is_kill : Event → Bool
is_kill (event.Kill switch) = true
is_kill _ = false

abbrev pub is_cut : Answer → Bool
is_cut (CutOff a b) = true
is_cut _ = false

abbrev Stays : Fabric → FabricStep → Type 0
Stays s x = (x.fabric.net.dead ≡ s.net.dead) × (is_cut x.answer ≡ false)

by_test : (s : Fabric) (test : Bool) (a b : FabricStep) → Stays s a → Stays s b → Stays s (if test then a else b)
by_test s true a b first second = first
by_test s false a b first second = second

-- messages are sent
stays_posted : (routes : Switches) (net : Net) (from tag block : ℕ) (outs : List Out) →
    (net_after_sends routes net from tag block outs).dead ≡ net.dead
stays_posted routes net from tag block [] = refl
stays_posted routes net from tag block (out ∷ outs) =
    stays_posted routes (net_after_send routes net (message_of net from tag block out)) from tag block outs

-- what an event sends is said of the network alone
stays_sending : (before s : Fabric) (from block : ℕ) (outs : List Out) (answer : Answer) → s.net.dead ≡ before.net.dead →
    is_cut answer ≡ false → Stays before (sending s from block outs answer)
stays_sending before s from block outs answer same uncut =
    (stays_posted (routes_of s) s.net from (node_at s from).now block outs ∙ same, uncut)

stays_missed : (s : Fabric) (n block : ℕ) (need : Need) → Stays s (step_of_miss s n block need)
stays_missed s n block need =
    stays_sending s (with_node s n (missing (node_at s n) block need)) n block
    (send (home_node s block) (request_for need) ∷ []) Missed refl refl

stays_accessed : (config : Config) (s : Fabric) (n block : ℕ) (need : Need) → Stays s (step_of_access config s n block need)
stays_accessed config s n block need =
    by_test s (has_miss (node_at s n).cache.miss) (step_refused s Waits) (accesses config s n block need) (refl, refl)
    (by_test s (puts_on (node_at s n).cache.put block) (step_refused s Waits) _ (refl, refl)
    (by_test s (serves need (line_of (node_at s n).cache block).state) _ (misses config s n block need)
    (by_test s (lacks_room config (node_at s n) block need) (step_refused s LogFull) (step_with_answer s Retired) (refl, refl) (refl, refl))
    (by_test s (not (is_present (line_of (node_at s n).cache block).state)
    && nat_le config.ways (frames_taken (node_at s n).cache config.sets block)) (step_refused s NeedsEvict) _ (refl, refl)
    (by_test s (is_full s 1) (step_refused s NetFull) (step_of_miss s n block need) (refl, refl) (stays_missed s n block need)))))

stays_begins_put : (s : Fabric) (n block : ℕ) → Stays s (begins_put s n block)
stays_begins_put s n block =
    let sends = sending (with_node s n (with_put (node_at s n) block)) n block (send (home_node s block) PutReq ∷ []) PutBegun in
    by_test s (has_put (node_at s n).cache.put) (step_refused s PutOpen) (if is_full s 1 then step_refused s NetFull else sends) (refl, refl)
    (by_test s (is_full s 1) (step_refused s NetFull) sends (refl, refl)
    (stays_sending s (with_node s n (with_put (node_at s n) block)) n block (send (home_node s block) PutReq ∷ []) PutBegun refl refl))

stays_evicts : (s : Fabric) (n block : ℕ) (line : LineState) → Stays s (evicts s n block line)
stays_evicts s n block state.Absent = (refl, refl)
stays_evicts s n block state.Shared = (refl, refl)
stays_evicts s n block state.Owned = stays_begins_put s n block
stays_evicts s n block state.Modified = stays_begins_put s n block
stays_evicts s n block state.Exclusive = stays_begins_put s n block

stays_evicted : (s : Fabric) (n block : ℕ) → Stays s (step_of_eviction s n block)
stays_evicted s n block =
    by_test s (misses_on (node_at s n).cache.miss block) (step_refused s MissOpen) _ (refl, refl)
    (stays_evicts s n block (line_of (node_at s n).cache block).state)

stays_hops : (s : Fabric) (found : Option Flight) → Stays s (hops s found)
stays_hops s None = (refl, refl)
stays_hops s (Some f) =
    by_test s (is_there f) (step_refused s Arrived) (hops_to s f (next_switch (routes_of s) f)) (refl, refl)
    (by_test s (is_dead s.net.dead (next_switch (routes_of s) f)) _ _ (refl, refl) (refl, refl))

stays_loses : (s : Fabric) (found : Option Flight) → Stays s (loses s found)
stays_loses s None = (refl, refl)
stays_loses s (Some f) = (refl, refl)

-- a delivery
module _ (config : Config) (s : Fabric) (m : Message) where
  at_cache : (reply : CacheReply) → Stays s (delivers config s m (AtCache reply))
  at_cache reply = by_test s (nat_lt config.log (length reply.after.log)) (step_refused s LogFull) _ (refl, refl)
      (by_test s (nat_lt (net_limit + 1) (length s.net.flights + length reply.sends)) (step_refused s NetFull) _ (refl, refl)
      (stays_posted _ _ m.to _ m.block reply.sends, refl))

  at_home : (reply : HomeReply) → Stays s (delivers config s m (AtHome reply))
  at_home reply = by_test s (nat_lt config.log (length reply.after.log)) (step_refused s LogFull) _ (refl, refl)
      (by_test s (nat_lt (net_limit + 1) (length s.net.flights + length reply.sends)) (step_refused s NetFull) _ (refl, refl)
      (stays_posted _ _ m.to _ m.block reply.sends, refl))

  stays_delivers : Stays s (delivers config s m (outcome_of s m m.body))
  stays_delivers =
      each_outcome s m (λ x. Stays s (delivers config s m x)) at_cache at_home (refl, refl) (λ k. (refl, refl)) (λ k is. (refl, refl))

stays_flight : (config : Config) (s : Fabric) (found : Option Flight) → Stays s (delivers_flight config s found)
stays_flight config s None = (refl, refl)
stays_flight config s (Some f) = by_test s (not (is_there f)) (step_refused s NotArrived) _ (refl, refl)
    (by_test s (nat_lt (node_at s f.message.to).now f.message.tag) (step_refused s Held)
    (delivers config s f.message (outcome_of s f.message f.message.body)) (refl, refl)
    (stays_delivers config s f.message))

stays_recovers : (s : Fabric) (k : ℕ) (cut : Option (ℕ × ℕ)) → cut ≡ None → Stays s (recovers s k cut)
unfolding fabric_restored_to
stays_recovers s k (Some pair) e = absurd cc
stays_recovers s k None e = (refl, refl)

stays_written : (s : Fabric) (n : ℕ) (w : Option Write) → (written_by s n w).net.dead ≡ s.net.dead
stays_written s n None = refl
stays_written s n (Some w) = refl

-- the same of the machine
module _ (image : ImageData) (config : Config) (s : State) where
  abbrev Keeps : MachineStep → Type 0
  Keeps x = (x.state.fabric.net.dead ≡ s.fabric.net.dead) × (is_cut x.answer ≡ false)

  keeps_retired : (n : ℕ) → Keeps (step_of_retirement image s n)
  keeps_retired n = (stays_written s.fabric n (next_with image (processor_at s n) (found_at image s n)).effect.write, refl)

  keeps_stepped : (n : ℕ) → Keeps (step_of_instruction image config s n)
  keeps_stepped n = each_step image config s n Keeps (keeps_retired n) (stays_accessed config s.fabric n) (refl, refl) (refl, refl) (refl, refl)

  keeps_validates : (unready : Option ℕ) → Keeps (validates s unready)
  keeps_validates (Some n) = (refl, refl)
  keeps_validates None =
      let k = s.fabric.point + 1 in
      by_test s.fabric (is_full s.fabric (length s.fabric.nodes)) (step_refused s.fabric NetFull)
      (sending (record s.fabric { point = k }) 0 0 (advances k 0 s.fabric.nodes) (Validated k)) (refl, refl)
      (stays_sending s.fabric (record s.fabric { point = k }) 0 0 (advances k 0 s.fabric.nodes) (Validated k) refl refl)

  -- every event but one that kills a switch
  pub dead_stays : (e : Event) → is_kill e ≡ false → first_cut_off (living_switches s.fabric) ≡ None → Keeps (step_of image config s e)
  unfolding step_of
  dead_stays (event.Step n) k joined = keeps_stepped n
  dead_stays (event.Evict n block) k joined = stays_evicted s.fabric n block
  dead_stays (event.Edge n) k joined =
      by_test s.fabric (nat_eq ((node_at s.fabric n).now - (node_at s.fabric n).known) checkpoint_limit)
      (step_refused s.fabric CheckpointsFull) _ (refl, refl) (refl, refl)
  dead_stays (event.Hop id) k joined = stays_hops s.fabric (flight_of s.fabric.net.flights id)
  dead_stays (event.Deliver id) k joined = stays_flight config s.fabric (flight_of s.fabric.net.flights id)
  dead_stays (event.Lose id) k joined = stays_loses s.fabric (flight_of s.fabric.net.flights id)
  dead_stays (event.Kill switch) k joined = absurd cc
  dead_stays (event.Report n) k joined =
      by_test s.fabric (is_full s.fabric 1) (step_refused s.fabric NetFull) _ (refl, refl)
      (stays_sending s.fabric s.fabric n 0 (send 0 (Ready (ready_of s.fabric n)) ∷ []) (Reported (ready_of s.fabric n)) refl refl)
  dead_stays event.Validate k joined = keeps_validates (unready_node s)
  dead_stays event.Recover k joined = stays_recovers s.fabric s.fabric.point (first_cut_off (living_switches s.fabric)) joined
  dead_stays (event.Input n byte) k joined = (refl, refl)
