-- No event takes the recovery point back, and each adds one record at most.
use Rattle.std.proofs.Common.{◌≡◌, ℕ, suc, ◌+◌, ◌-◌, ◌<◌, ◌≤◌, Bool, true, false, not, ◌&&◌, List, [], ◌∷◌, length, map, filter, refl}
use Rattle.std.proofs.Common.{le_refl, length-append, if◌then◌else◌, nat_eq, nat_lt, nat_le, Option, Some, None, arith}
use Rattle.sn_base.specs.Image.{ImageData}
use Rattle.sn_base.specs.declared.config.Config.{Config}
use Rattle.sn_base.specs.declared.event.Event.{Event}
use Rattle.sn_base.specs.declared.event.Event.TheVariants as event
use Rattle.sn_base.specs.declared.event.Answer.TheVariants.{Retired, Waits, Ended, NoInput, LogFull, NetFull, NeedsEvict, PutOpen, MissOpen}
use Rattle.sn_base.specs.declared.event.Answer.TheVariants.{CheckpointsFull, Arrived, AlreadyDead, NotArrived, Held}
use Rattle.sn_msg.specs.declared.Message.{Message}
use Rattle.sn_model.specs.declared.cache.LineState.{LineState}
use Rattle.sn_model.specs.declared.cache.LineState.TheVariants as state
use Rattle.sn_model.specs.declared.cache.Need.{Need}
use Rattle.sn_model.specs.declared.net.News.{News}
use Rattle.sn_model.specs.declared.net.News.TheVariants as told
use Rattle.sn_model.specs.Caches.{line_of, is_present, misses_on, puts_on, frames_taken}
use Rattle.sn_model.specs.CacheRows.{CacheReply}
use Rattle.sn_model.specs.HomeRows.{HomeReply}
use Rattle.sn_model.specs.Access.{step_of_miss, misses, has_miss, serves, lacks_room, accesses, step_of_access}
use Rattle.sn_model.specs.Fabric.{Fabric, Flight, FabricStep, node_at, step_refused, step_with_answer}
use Rattle.sn_model.specs.Net.{net_limit, routes_of, flight_of, is_there, is_full, next_switch}
use Rattle.sn_model.specs.NodeEvents.{evicts, begins_put, has_put, checkpoint_limit, step_of_eviction, step_of_edge, step_of_report}
use Rattle.sn_model.specs.NetEvents.{AtCache, AtHome, outcome_of, delivers, delivers_flight, step_of_delivery, hops, hops_to, step_of_hop, loses, step_of_loss, step_of_kill}
use Rattle.sn_model.specs.PointEvents.{recovers, step_of_recovery, fabric_restored_to, step_of_advance, living_switches}
use Rattle.route_plan.specs.Distances.{is_dead}
use Rattle.route_plan.specs.Routes.{first_cut_off}
use Rattle.sn_model.specs.Machine.{State, Retirement, processor_at, with_processor}
use Rattle.sn_model.specs.Instructions.{MachineStep, machine_step_of, step_of_retirement, records_of, found_at, next_with, record_with}
use Rattle.sn_model.specs.Instructions.{machine_step_refused as stopped}
use Rattle.sn_model.specs.MachineEvents.{state_after_news, with_rest, is_edged, with_checkpoint, is_validated, committed_next, validates, unready_node}
use Rattle.sn_model.specs.MachineEvents.{is_recovered, restored_rest}
use Rattle.sn_model.specs.Step.{step_of}
use Rattle.sn_model.proofs.EachStep.{each_step}
use Rattle.fabric_coherence.proofs.EachOutcome.{each_outcome}
use Rattle.consistent_cuts.proofs.Places.{same_point}
use Rattle.sn_monitor.specs.Goes.{records}

-- the fabric's events
abbrev Rises : Fabric → FabricStep → Type 0
Rises s x = (s.point ≤ x.fabric.point) × (is_validated x.answer ≡ true → s.point < x.fabric.point)

none : {A : Type 0} → false ≡ true → A
none e = absurd (grind (arith, e))

by_test : (s : Fabric) (test : Bool) (a b : FabricStep) → Rises s a → Rises s b → Rises s (if test then a else b)
by_test s true a b first second = first
by_test s false a b first second = second

accessed_rises : (config : Config) (s : Fabric) (n block : ℕ) (need : Need) → Rises s (step_of_access config s n block need)
accessed_rises config s n block need =
    by_test s (has_miss (node_at s n).cache.miss) (step_refused s Waits) (accesses config s n block need) (le_refl s.point, none)
    (by_test s (puts_on (node_at s n).cache.put block) (step_refused s Waits) _ (le_refl s.point, none)
    (by_test s (serves need (line_of (node_at s n).cache block).state) _ (misses config s n block need)
    (by_test s (lacks_room config (node_at s n) block need) (step_refused s LogFull) (step_with_answer s Retired) (le_refl s.point, none) (le_refl s.point, none))
    (by_test s (not (is_present (line_of (node_at s n).cache block).state)
    && nat_le config.ways (frames_taken (node_at s n).cache config.sets block)) (step_refused s NeedsEvict) _ (le_refl s.point, none)
    (by_test s (is_full s 1) (step_refused s NetFull) (step_of_miss s n block need) (le_refl s.point, none) (le_refl s.point, none)))))

begins_put_rises : (s : Fabric) (n block : ℕ) → Rises s (begins_put s n block)
begins_put_rises s n block =
    by_test s (has_put (node_at s n).cache.put) (step_refused s PutOpen) _ (le_refl s.point, none)
    (by_test s (is_full s 1) (step_refused s NetFull) _ (le_refl s.point, none) (le_refl s.point, none))

evicts_rises : (s : Fabric) (n block : ℕ) (line : LineState) → Rises s (evicts s n block line)
evicts_rises s n block state.Absent = (le_refl s.point, none)
evicts_rises s n block state.Shared = (le_refl s.point, none)
evicts_rises s n block state.Owned = begins_put_rises s n block
evicts_rises s n block state.Modified = begins_put_rises s n block
evicts_rises s n block state.Exclusive = begins_put_rises s n block

hops_rises : (s : Fabric) (found : Option Flight) → Rises s (hops s found)
hops_rises s None = (le_refl s.point, none)
hops_rises s (Some f) =
    by_test s (is_there f) (step_refused s Arrived) (hops_to s f (next_switch (routes_of s) f)) (le_refl s.point, none)
    (by_test s (is_dead s.net.dead (next_switch (routes_of s) f)) _ _ (le_refl s.point, none) (le_refl s.point, none))

loses_rises : (s : Fabric) (found : Option Flight) → Rises s (loses s found)
loses_rises s None = (le_refl s.point, none)
loses_rises s (Some f) = (le_refl s.point, none)

module _ (config : Config) (s : Fabric) (m : Message) where
  at_cache : (reply : CacheReply) → Rises s (delivers config s m (AtCache reply))
  at_cache reply = by_test s (nat_lt config.log (length reply.after.log)) (step_refused s LogFull) _ (le_refl s.point, none)
      (by_test s (nat_lt (net_limit + 1) (length s.net.flights + length reply.sends)) (step_refused s NetFull) _ (le_refl s.point, none) (le_refl s.point, none))

  at_home : (reply : HomeReply) → Rises s (delivers config s m (AtHome reply))
  at_home reply = by_test s (nat_lt config.log (length reply.after.log)) (step_refused s LogFull) _ (le_refl s.point, none)
      (by_test s (nat_lt (net_limit + 1) (length s.net.flights + length reply.sends)) (step_refused s NetFull) _ (le_refl s.point, none) (le_refl s.point, none))

  delivers_rises : Rises s (delivers config s m (outcome_of s m m.body))
  delivers_rises =
      each_outcome s m (λ x. Rises s (delivers config s m x)) at_cache at_home (le_refl s.point, none) (λ k. (le_refl s.point, none)) (λ k is. (le_refl s.point, none))

flight_rises : (config : Config) (s : Fabric) (found : Option Flight) → Rises s (delivers_flight config s found)
flight_rises config s None = (le_refl s.point, none)
flight_rises config s (Some f) = by_test s (not (is_there f)) (step_refused s NotArrived) _ (le_refl s.point, none)
    (by_test s (nat_lt (node_at s f.message.to).now f.message.tag) (step_refused s Held)
    (delivers config s f.message (outcome_of s f.message f.message.body)) (le_refl s.point, none)
    (delivers_rises config s f.message))

recovers_rises : (s : Fabric) (k : ℕ) (cut : Option (ℕ × ℕ)) → Rises s (recovers s k cut)
unfolding fabric_restored_to
recovers_rises s k (Some pair) = (le_refl s.point, none)
recovers_rises s k None = (le_refl s.point, none)

evicted_rises : (s : Fabric) (n block : ℕ) → Rises s (step_of_eviction s n block)
evicted_rises s n block =
    by_test s (misses_on (node_at s n).cache.miss block) (step_refused s MissOpen) _ (le_refl s.point, none)
    (evicts_rises s n block (line_of (node_at s n).cache block).state)

edged_rises : (s : Fabric) (n : ℕ) → Rises s (step_of_edge s n)
edged_rises s n = by_test s (nat_eq ((node_at s n).now - (node_at s n).known) checkpoint_limit) (step_refused s CheckpointsFull) _ (le_refl s.point, none) (le_refl s.point, none)

killed_rises : (s : Fabric) (switch : ℕ) → Rises s (step_of_kill s switch)
killed_rises s switch = by_test s (is_dead s.net.dead switch) (step_refused s AlreadyDead) _ (le_refl s.point, none) (le_refl s.point, none)

reported_rises : (s : Fabric) (n : ℕ) → Rises s (step_of_report s n)
reported_rises s n = by_test s (is_full s 1) (step_refused s NetFull) _ (le_refl s.point, none) (le_refl s.point, none)

-- the records of the interval that is left and those that stay are all
either_more : (p : Retirement → Bool) (x : Retirement) (xs : List Retirement) (b : Bool) → p x ≡ b →
    length (map (λ (r : Retirement). r.did) (filter p xs)) + length (filter (λ r. not (p r)) xs) ≡ length xs →
    length (map (λ (r : Retirement). r.did) (filter p (x ∷ xs))) + length (filter (λ r. not (p r)) (x ∷ xs)) ≡ suc (length xs)
either_more p x xs true e h = rw e (omega (arith, h))
either_more p x xs false e h = rw e (omega (arith, h))

parted : (p : Retirement → Bool) (xs : List Retirement) →
    length (map (λ (r : Retirement). r.did) (filter p xs)) + length (filter (λ r. not (p r)) xs) ≡ length xs
parted p [] = refl
parted p (x ∷ xs) = either_more p x xs (p x) refl (parted p xs)

-- an event of the machine: the point isn't taken back, it rises where a validation was done, and there is one record more at most
pub record GoesOn (s : State) (x : MachineStep) : Type 0 where
  pub point : s.fabric.point ≤ x.state.fabric.point
  pub records_are : records x.state ≤ records s + 1
  pub rises : is_validated x.answer ≡ true → s.fabric.point < x.state.fabric.point

module _ (image : ImageData) (config : Config) (s : State) where
  few : records s ≤ records s + 1
  few = omega arith

  hears : (x : Option News) (moved : FabricStep) → Rises s.fabric moved → GoesOn s (machine_step_of (state_after_news s x) moved)
  hears None moved h = record { point = h.0; records_are = few; rises = h.1 }
  hears (Some (told.LostCopy n block)) moved h = record { point = h.0; records_are = few; rises = h.1 }
  hears (Some (told.Ready n k)) moved h = record { point = h.0; records_are = few; rises = h.1 }
  hears (Some (told.Advance n k)) moved h = record { point = h.0; records_are = few; rises = h.1 }

  carries : (moved : FabricStep) → Rises s.fabric moved → GoesOn s (machine_step_of s moved)
  carries moved h = record { point = h.0; records_are = few; rises = h.1 }

  rest : (done : Bool) (changed : State) (moved : FabricStep) → Rises s.fabric moved → records changed ≤ records s + 1 →
      GoesOn s (with_rest s done changed moved)
  rest true changed moved h g = record { point = h.0; records_are = g; rises = h.1 }
  rest false changed moved h g = record { point = h.0; records_are = few; rises = h.1 }

  commits : records (committed_next s) ≤ records s + 1
  commits =
      let a = length-append s.committed (records_of (filter (λ r. nat_eq r.interval s.fabric.point) s.pending)) in
      let b = parted (λ r. nat_eq r.interval s.fabric.point) s.pending in omega (arith, a, b)

  advanced_rises : Rises s.fabric (step_of_advance s.fabric (s.fabric.point + 1))
  advanced_rises =
      by_test s.fabric (is_full s.fabric (length s.fabric.nodes)) _ _ (le_refl s.fabric.point, none) (omega arith, λ e. omega arith)

  validating : (unready : Option ℕ) → GoesOn s (validates s unready)
  validating (Some node) = record { point = le_refl s.fabric.point; records_are = few; rises = none }
  validating None = let moved = step_of_advance s.fabric (s.fabric.point + 1) in
      rest (is_validated moved.answer) (committed_next s) moved advanced_rises commits

  restored_few : records (restored_rest s) ≤ records s + 1
  unfolding restored_rest
  restored_few = omega arith

  retires : (n : ℕ) → GoesOn s (step_of_retirement image s n)
  retires n = record {
    point = let e = same_point s.fabric n (next_with image (processor_at s n) (found_at image s n)).effect.write in omega (arith, e);
    records_are =
        let a = length-append s.pending (record { interval = (node_at s.fabric n).now; did = record_with n (found_at image s n) } ∷ []) in
        omega (arith, a);
    rises = none;
  }

  still_waits : GoesOn s (stopped s Waits)
  still_waits = record { point = le_refl s.fabric.point; records_are = few; rises = none }

  still_ended : GoesOn s (stopped s Ended)
  still_ended = record { point = le_refl s.fabric.point; records_are = few; rises = none }

  still_none : GoesOn s (stopped s NoInput)
  still_none = record { point = le_refl s.fabric.point; records_are = few; rises = none }

  pub step_goes : (e : Event) → GoesOn s (step_of image config s e)
  unfolding step_of
  step_goes (event.Step n) =
      each_step image config s n (GoesOn s) (retires n)
      (λ block need. carries (step_of_access config s.fabric n block need) (accessed_rises config s.fabric n block need))
      still_ended still_waits still_none
  step_goes (event.Evict n block) = let moved = step_of_eviction s.fabric n block in hears moved.told moved (evicted_rises s.fabric n block)
  step_goes (event.Edge n) = let moved = step_of_edge s.fabric n in
      rest (is_edged moved.answer) (with_processor s n (with_checkpoint (processor_at s n))) moved (edged_rises s.fabric n) few
  step_goes (event.Hop id) = carries (step_of_hop s.fabric id) (hops_rises s.fabric (flight_of s.fabric.net.flights id))
  step_goes (event.Deliver id) = let moved = step_of_delivery config s.fabric id in
      hears moved.told moved (flight_rises config s.fabric (flight_of s.fabric.net.flights id))
  step_goes (event.Lose id) = carries (step_of_loss s.fabric id) (loses_rises s.fabric (flight_of s.fabric.net.flights id))
  step_goes (event.Kill switch) = carries (step_of_kill s.fabric switch) (killed_rises s.fabric switch)
  step_goes (event.Report n) = carries (step_of_report s.fabric n) (reported_rises s.fabric n)
  step_goes event.Validate = validating (unready_node s)
  step_goes event.Recover = let moved = step_of_recovery s.fabric s.fabric.point in
      rest (is_recovered moved.answer) (restored_rest s) moved
      (recovers_rises s.fabric s.fabric.point (first_cut_off (living_switches s.fabric))) restored_few
  step_goes (event.Input n byte) = record { point = le_refl s.fabric.point; records_are = few; rises = none }
