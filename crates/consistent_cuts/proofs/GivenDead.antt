-- What an event makes of the marks of dead switches, of the number of the next message and of the bytes that were given.
use Rattle.std.proofs.Common.{◌≡◌, ℕ, zero, suc, ◌+◌, ◌-◌, ◌*◌, ◌<◌, ◌≤◌, Bool, true, false, not, ◌&&◌, List, [], ◌∷◌, length, refl, sym, ap, ◌∙◌, subst}
use Rattle.std.proofs.Common.{if◌then◌else◌, nat_eq, nat_lt, nat_le, Option, Some, None, arith, get_or, set, length-append, ◌++◌}
use Rattle.std.specs.Prelude.{filter}
use Rattle.std.proofs.lemmas.Bool.Decides.{nat_tests}
use Rattle.std.proofs.lemmas.List.{get_or-set_other, length-set}
use Rattle.sn_base.specs.declared.config.Config.{Config}
use Rattle.sn_base.specs.declared.event.Answer.{Answer}
use Rattle.sn_base.specs.declared.event.Answer.TheVariants.{Retired, Missed, PutBegun, Validated, Reported, Waits, LogFull}
use Rattle.sn_base.specs.declared.event.Answer.TheVariants.{NetFull, NeedsEvict, PutOpen, MissOpen, CheckpointsFull, Arrived, NotArrived}
use Rattle.sn_base.specs.declared.event.Answer.TheVariants.{Held, Ended, NoInput, CutOff, Edged, NotReady, AlreadyDead, Killed}
use Rattle.sn_msg.specs.declared.Message.{Message}
use Rattle.sn_msg.specs.declared.Body.TheVariants.{PutReq, Ready}
use Rattle.sn_model.specs.declared.cache.LineState.{LineState}
use Rattle.sn_model.specs.declared.cache.LineState.TheVariants as state
use Rattle.sn_model.specs.declared.cache.Need.{Need}
use Rattle.sn_model.specs.declared.net.News.{News}
use Rattle.sn_model.specs.declared.net.News.TheVariants as told
use Rattle.sn_model.specs.Caches.{line_of, is_present, misses_on, puts_on, frames_taken}
use Rattle.sn_model.specs.CacheRows.{CacheReply, send}
use Rattle.sn_model.specs.HomeRows.{HomeReply}
use Rattle.sn_model.specs.Access.{missing, request_for, step_of_miss, misses, has_miss, serves, lacks_room, accesses, step_of_access}
use Rattle.sn_model.specs.Fabric.{Fabric, Net, Flight, FabricStep, node_at, with_node, with_net, home_node, step_refused, step_with_answer}
use Rattle.sn_model.specs.Net.{net_limit, routes_of, flight_of, is_there, is_full, next_switch, message_of, net_after_send, net_after_sends, sending}
use Rattle.sn_model.specs.NodeEvents.{evicts, begins_put, has_put, with_put, ready_of, checkpoint_limit, after_edge}
use Rattle.sn_model.specs.NetEvents.{AtCache, AtHome, outcome_of, delivers, delivers_flight, hops, hops_to, loses, step_of_hop, step_of_delivery, step_of_loss, step_of_kill}
use Rattle.sn_model.specs.PointEvents.{advances, recovers, fabric_restored_to, living_switches}
use Rattle.route_plan.specs.Distances.{is_dead}
use Rattle.route_plan.specs.Routes.{first_cut_off}
use Rattle.sn_base.specs.Image.{ImageData}
use Rattle.sn_base.specs.declared.block.Write.{Write}
use Rattle.sn_base.specs.declared.event.Event.{Event}
use Rattle.sn_base.specs.declared.event.Event.TheVariants as event
use Rattle.route_plan.specs.Distances.{Switches}
use Rattle.sn_model.specs.declared.cache.Out.{Out}
use Rattle.sn_model.specs.Instructions.{MachineStep, machine_step_of, machine_step_refused, step_of_retirement, written_by, found_at, next_with, step_of_instruction}
use Rattle.sn_model.specs.Machine.{State, Processor, processor_at, first_processor, with_processor}
use Rattle.sn_model.specs.MachineEvents.{validates, unready_node, state_after_news, with_checkpoint, restored_rest, restored_processors, edges, commits}
use Rattle.sn_model.specs.MachineEvents.{restores, machine_step_with_news}
use Rattle.sn_model.specs.NodeEvents.{step_of_eviction}
use Rattle.sn_model.specs.Step.{step_of}
use Rattle.sn_model.proofs.EachStep.{each_step}
use Rattle.fabric_bounds.proofs.EachOutcome.{each_outcome}

abbrev Stays : Fabric → FabricStep → Type 0
Stays s x = (x.fabric.net.dead ≡ s.net.dead) × (s.net.next_id ≤ x.fabric.net.next_id)

-- the network is as it was
as_it_was : (n : ℕ) → n ≤ n
as_it_was n = omega arith

by_test : (s : Fabric) (test : Bool) (a b : FabricStep) → Stays s a → Stays s b → Stays s (if test then a else b)
by_test s true a b first second = first
by_test s false a b first second = second

-- messages are sent
stays_posted : (routes : Switches) (net : Net) (from tag block : ℕ) (outs : List Out) →
    (net_after_sends routes net from tag block outs).dead ≡ net.dead
stays_posted routes net from tag block [] = refl
stays_posted routes net from tag block (out ∷ outs) =
    stays_posted routes (net_after_send routes net (message_of net from tag block out)) from tag block outs

grows_posted : (routes : Switches) (net : Net) (from tag block : ℕ) (outs : List Out) →
    net.next_id ≤ (net_after_sends routes net from tag block outs).next_id
grows_posted routes net from tag block [] = omega arith
grows_posted routes net from tag block (out ∷ outs) =
    let h = grows_posted routes (net_after_send routes net (message_of net from tag block out)) from tag block outs in omega (arith, h)

-- what an event sends is said of the network alone
stays_sending : (before s : Fabric) (from block : ℕ) (outs : List Out) (answer : Answer) → s.net ≡ before.net →
    Stays before (sending s from block outs answer)
stays_sending before s from block outs answer same = (
  stays_posted (routes_of s) s.net from (node_at s from).now block outs
      ∙ ap (λ x. x.dead) same,
  let h = grows_posted (routes_of s) s.net from (node_at s from).now block outs in let e = ap (λ x. x.next_id) same in omega (arith, h, e),
)

stays_missed : (s : Fabric) (n block : ℕ) (need : Need) → Stays s (step_of_miss s n block need)
stays_missed s n block need =
    stays_sending s (with_node s n (missing (node_at s n) block need)) n block
    (send (home_node s block) (request_for need) ∷ []) Missed refl

stays_accessed : (config : Config) (s : Fabric) (n block : ℕ) (need : Need) → Stays s (step_of_access config s n block need)
stays_accessed config s n block need =
    by_test s (has_miss (node_at s n).cache.miss) (step_refused s Waits) (accesses config s n block need) (refl, as_it_was s.net.next_id)
    (by_test s (puts_on (node_at s n).cache.put block) (step_refused s Waits) _ (refl, as_it_was s.net.next_id)
    (by_test s (serves need (line_of (node_at s n).cache block).state) _ (misses config s n block need)
    (by_test s (lacks_room config (node_at s n) block need) (step_refused s LogFull) (step_with_answer s Retired) (refl, as_it_was s.net.next_id) (refl, as_it_was s.net.next_id))
    (by_test s (not (is_present (line_of (node_at s n).cache block).state)
    && nat_le config.ways (frames_taken (node_at s n).cache config.sets block)) (step_refused s NeedsEvict) _ (refl, as_it_was s.net.next_id)
    (by_test s (is_full s 1) (step_refused s NetFull) (step_of_miss s n block need) (refl, as_it_was s.net.next_id) (stays_missed s n block need)))))

stays_begins_put : (s : Fabric) (n block : ℕ) → Stays s (begins_put s n block)
stays_begins_put s n block =
    let sends = sending (with_node s n (with_put (node_at s n) block)) n block (send (home_node s block) PutReq ∷ []) PutBegun in
    by_test s (has_put (node_at s n).cache.put) (step_refused s PutOpen) (if is_full s 1 then step_refused s NetFull else sends) (refl, as_it_was s.net.next_id)
    (by_test s (is_full s 1) (step_refused s NetFull) sends (refl, as_it_was s.net.next_id)
    (stays_sending s (with_node s n (with_put (node_at s n) block)) n block (send (home_node s block) PutReq ∷ []) PutBegun refl))

stays_evicts : (s : Fabric) (n block : ℕ) (line : LineState) → Stays s (evicts s n block line)
stays_evicts s n block state.Absent = (refl, as_it_was s.net.next_id)
stays_evicts s n block state.Shared = (refl, as_it_was s.net.next_id)
stays_evicts s n block state.Owned = stays_begins_put s n block
stays_evicts s n block state.Modified = stays_begins_put s n block
stays_evicts s n block state.Exclusive = stays_begins_put s n block

stays_evicted : (s : Fabric) (n block : ℕ) → Stays s (step_of_eviction s n block)
stays_evicted s n block =
    by_test s (misses_on (node_at s n).cache.miss block) (step_refused s MissOpen) _ (refl, as_it_was s.net.next_id)
    (stays_evicts s n block (line_of (node_at s n).cache block).state)

stays_hops : (s : Fabric) (found : Option Flight) → Stays s (hops s found)
stays_hops s None = (refl, as_it_was s.net.next_id)
stays_hops s (Some f) =
    by_test s (is_there f) (step_refused s Arrived) (hops_to s f (next_switch (routes_of s) f)) (refl, as_it_was s.net.next_id)
    (by_test s (is_dead s.net.dead (next_switch (routes_of s) f)) _ _ (refl, as_it_was s.net.next_id) (refl, as_it_was s.net.next_id))

stays_loses : (s : Fabric) (found : Option Flight) → Stays s (loses s found)
stays_loses s None = (refl, as_it_was s.net.next_id)
stays_loses s (Some f) = (refl, as_it_was s.net.next_id)

-- a delivery
module _ (config : Config) (s : Fabric) (m : Message) where
  at_cache : (reply : CacheReply) → Stays s (delivers config s m (AtCache reply))
  at_cache reply = by_test s (nat_lt config.log (length reply.after.log)) (step_refused s LogFull) _ (refl, as_it_was s.net.next_id)
      (by_test s (nat_lt (net_limit + 1) (length s.net.flights + length reply.sends)) (step_refused s NetFull) _ (refl, as_it_was s.net.next_id)
      (stays_posted _ _ m.to _ m.block reply.sends, grows_posted _ _ m.to _ m.block reply.sends))

  at_home : (reply : HomeReply) → Stays s (delivers config s m (AtHome reply))
  at_home reply = by_test s (nat_lt config.log (length reply.after.log)) (step_refused s LogFull) _ (refl, as_it_was s.net.next_id)
      (by_test s (nat_lt (net_limit + 1) (length s.net.flights + length reply.sends)) (step_refused s NetFull) _ (refl, as_it_was s.net.next_id)
      (stays_posted _ _ m.to _ m.block reply.sends, grows_posted _ _ m.to _ m.block reply.sends))

  stays_delivers : Stays s (delivers config s m (outcome_of s m m.body))
  stays_delivers =
      each_outcome s m (λ x. Stays s (delivers config s m x)) at_cache at_home (refl, as_it_was s.net.next_id) (λ k. (refl, as_it_was s.net.next_id)) (λ k is. (refl, as_it_was s.net.next_id))

stays_flight : (config : Config) (s : Fabric) (found : Option Flight) → Stays s (delivers_flight config s found)
stays_flight config s None = (refl, as_it_was s.net.next_id)
stays_flight config s (Some f) = by_test s (not (is_there f)) (step_refused s NotArrived) _ (refl, as_it_was s.net.next_id)
    (by_test s (nat_lt (node_at s f.message.to).now f.message.tag) (step_refused s Held)
    (delivers config s f.message (outcome_of s f.message f.message.body)) (refl, as_it_was s.net.next_id)
    (stays_delivers config s f.message))

stays_recovers : (s : Fabric) (k : ℕ) (cut : Option (ℕ × ℕ)) → Stays s (recovers s k cut)
unfolding fabric_restored_to
stays_recovers s k (Some pair) = (refl, as_it_was s.net.next_id)
stays_recovers s k None = (refl, as_it_was s.net.next_id)

stays_written : (s : Fabric) (n : ℕ) (w : Option Write) → ((written_by s n w).net.dead ≡ s.net.dead) × (s.net.next_id ≤ (written_by s n w).net.next_id)
stays_written s n None = (refl, as_it_was s.net.next_id)
stays_written s n (Some w) = (refl, as_it_was s.net.next_id)

-- the bytes that were given to these processors
abbrev pub bytes_given : List Processor → ℕ
bytes_given [] = 0
bytes_given (p ∷ ps) = length p.given + bytes_given ps

-- one processor in another's place
bytes_set : (ps : List Processor) (n more : ℕ) (p : Processor) → length p.given ≤ length (get_or ps n (first_processor 0 0)).given + more →
    bytes_given (set ps n p) ≤ bytes_given ps + more
bytes_set [] n more p h = omega arith
bytes_set (q ∷ ps) zero more p h = omega (arith, h)
bytes_set (q ∷ ps) (suc n) more p h = let r = bytes_set ps n more p h in omega (arith, r)

bytes_restored : (fabric : Fabric) (k n : ℕ) (ps : List Processor) → bytes_given (restored_processors fabric k n ps) ≡ bytes_given ps
bytes_restored fabric k n [] = refl
bytes_restored fabric k n (p ∷ ps) = ap (λ b. length p.given + b) (bytes_restored fabric k (n + 1) ps)

-- an event of the machine
module _ (image : ImageData) (config : Config) (s : State) where
  abbrev pub Few : State → Type 0
  Few t = bytes_given t.processors ≤ bytes_given s.processors + 1

  same_bytes : (n : ℕ) (p : Processor) → p.given ≡ (processor_at s n).given → bytes_given (set s.processors n p) ≤ bytes_given s.processors + 1
  same_bytes n p e = let h = bytes_set s.processors n 0 p (let l = ap length e in omega (arith, l)) in omega (arith, h)

  no_more : bytes_given s.processors ≤ bytes_given s.processors + 1
  no_more = omega arith

  heard : (news : Option News) → Few (state_after_news s news)
  heard None = no_more
  heard (Some (told.LostCopy n block)) = same_bytes n _ refl
  heard (Some (told.Ready n k)) = no_more
  heard (Some (told.Advance n k)) = same_bytes n _ refl

  -- the marks and the numbers, but where a switch dies
  abbrev pub Keeps : MachineStep → Type 0
  Keeps x =
      (x.state.fabric.net.dead ≡ s.fabric.net.dead) × (s.fabric.net.next_id ≤ x.state.fabric.net.next_id) × Few x.state

  kept : (x : FabricStep) → Stays s.fabric x → Keeps (machine_step_of s x)
  kept x h = (h.0, h.1, no_more)

  refused : (a : Answer) → Keeps (machine_step_refused s a)
  refused a = (refl, as_it_was s.fabric.net.next_id, no_more)

  retired : (n : ℕ) → Keeps (step_of_retirement image s n)
  retired n =
      let w = stays_written s.fabric n (next_with image (processor_at s n) (found_at image s n)).effect.write in
      (w.0, w.1, same_bytes n _ refl)

  stepped : (n : ℕ) → Keeps (step_of_instruction image config s n)
  stepped n =
      each_step image config s n Keeps (retired n) (λ block need. kept (step_of_access config s.fabric n block need) (stays_accessed config s.fabric n block need))
      (refused Ended) (refused Waits) (refused NoInput)

  told_of : (x : FabricStep) → Stays s.fabric x → Keeps (machine_step_with_news s x)
  told_of x h = (h.0, h.1, heard x.told)

  edged : (n : ℕ) (full : Bool) → Keeps (edges s n (if full then step_refused s.fabric CheckpointsFull
      else step_with_answer (with_node s.fabric n (after_edge (node_at s.fabric n))) (Edged ((node_at s.fabric n).now + 1))))
  edged n true = (refl, as_it_was s.fabric.net.next_id, no_more)
  edged n false = (refl, as_it_was s.fabric.net.next_id, same_bytes n (with_checkpoint (processor_at s n)) refl)

  committing : (full : Bool) → Keeps (commits s (if full then step_refused s.fabric NetFull
      else sending (record s.fabric { point = s.fabric.point + 1 }) 0 0 (advances (s.fabric.point + 1) 0 s.fabric.nodes) (Validated (s.fabric.point + 1))))
  committing true = (refl, as_it_was s.fabric.net.next_id, no_more)
  committing false =
      let h = stays_sending s.fabric (record s.fabric { point = s.fabric.point + 1 }) 0 0 (advances (s.fabric.point + 1) 0 s.fabric.nodes)
      (Validated (s.fabric.point + 1)) refl in
      (h.0, h.1, no_more)

  validating : (unready : Option ℕ) → Keeps (validates s unready)
  validating (Some n) = refused (NotReady n)
  validating None = committing (is_full s.fabric (length s.fabric.nodes))

  restoring : (cut : Option (ℕ × ℕ)) → Keeps (restores s (recovers s.fabric s.fabric.point cut))
  unfolding restored_rest fabric_restored_to
  restoring (Some pair) = refused (CutOff pair.0 pair.1)
  restoring None = (
    refl,
    as_it_was s.fabric.net.next_id,
    let e = bytes_restored s.fabric s.fabric.point 0 s.processors in omega (arith, e),
  )

  given_more : (n byte : ℕ) → Few (with_processor s n (record (processor_at s n) { given = (processor_at s n).given ++ byte ∷ [] }))
  given_more n byte =
      bytes_set s.processors n 1 (record (processor_at s n) { given = (processor_at s n).given ++ byte ∷ [] })
      (let l = length-append (processor_at s n).given (byte ∷ []) in omega (arith, l))

  -- a switch that dies is one of the machine
  abbrev pub IsMarked : ℕ → State → Type 0
  IsMarked nodes t =
      (length t.fabric.net.dead ≡ length s.fabric.net.dead)
      × ((k : ℕ) → 2 * nodes ≤ k → is_dead t.fabric.net.dead k ≡ is_dead s.fabric.net.dead k)

  pub marked_same : (nodes : ℕ) (x : MachineStep) → Keeps x → IsMarked nodes x.state
  marked_same nodes x h = (ap length h.0, λ k l. ap (λ d. is_dead d k) h.0)

  pub killed : (switch nodes : ℕ) → switch < 2 * nodes → IsMarked nodes (machine_step_of s (step_of_kill s.fabric switch)).state
      × (s.fabric.net.next_id ≤ (step_of_kill s.fabric switch).fabric.net.next_id)
  killed switch nodes low = go (is_dead s.fabric.net.dead switch)
    where
      after : Bool → FabricStep
      after q =
          if q then step_refused s.fabric AlreadyDead
          else step_with_answer (with_net s.fabric
          (record s.fabric.net { dead = set s.fabric.net.dead switch true; flights = filter (λ f. not (nat_eq f.place switch)) s.fabric.net.flights }))
          Killed

      go : (q : Bool) → IsMarked nodes (machine_step_of s (after q)).state × (s.fabric.net.next_id ≤ (after q).fabric.net.next_id)
      go true = ((refl, λ k l. refl), as_it_was s.fabric.net.next_id)
      go false = (
        (
          length-set s.fabric.net.dead switch true,
          λ k l. get_or-set_other s.fabric.net.dead switch k true false (λ e. absurd (omega (arith, e, l, low))),
        ),
        as_it_was s.fabric.net.next_id,
      )

  -- every event but one by which a switch dies
  abbrev pub IsNoKill : Event → Type 0
  IsNoKill (event.Kill switch) = ⊥
  IsNoKill _ = Unit {0}

  pub event_keeps : (e : Event) → IsNoKill e → Keeps (step_of image config s e)
  unfolding step_of
  event_keeps (event.Step n) k = stepped n
  event_keeps (event.Evict n block) k = told_of (step_of_eviction s.fabric n block) (stays_evicted s.fabric n block)
  event_keeps (event.Edge n) k = edged n (nat_eq ((node_at s.fabric n).now - (node_at s.fabric n).known) checkpoint_limit)
  event_keeps (event.Hop id) k = kept (step_of_hop s.fabric id) (stays_hops s.fabric (flight_of s.fabric.net.flights id))
  event_keeps (event.Deliver id) k =
      told_of (step_of_delivery config s.fabric id) (stays_flight config s.fabric (flight_of s.fabric.net.flights id))
  event_keeps (event.Lose id) k = kept (step_of_loss s.fabric id) (stays_loses s.fabric (flight_of s.fabric.net.flights id))
  event_keeps (event.Kill switch) k = absurd k
  event_keeps (event.Report n) k =
      let h = by_test s.fabric (is_full s.fabric 1) (step_refused s.fabric NetFull) _ (refl, as_it_was s.fabric.net.next_id)
      (stays_sending s.fabric s.fabric n 0 (send 0 (Ready (ready_of s.fabric n)) ∷ []) (Reported (ready_of s.fabric n)) refl) in
      (h.0, h.1, no_more)
  event_keeps event.Validate k = validating (unready_node s)
  event_keeps event.Recover k = restoring (first_cut_off (living_switches s.fabric))
  event_keeps (event.Input n byte) k = (refl, as_it_was s.fabric.net.next_id, given_more n byte)
