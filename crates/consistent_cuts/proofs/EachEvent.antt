-- Every event of the machine keeps what is joined, with the retirements along the run.
use Rattle.std.proofs.Common.{◌≡◌, ℕ, zero, suc, ◌+◌, ◌-◌, ◌<◌, ◌≤◌, Bool, true, false, List, [], ◌∷◌, length, Option, Some, None, arith}
use Rattle.std.proofs.Common.{refl, sym, ap, subst, nat_lt, nat_le, nat_eq, if◌then◌else◌}
use Rattle.std.specs.Prelude.{slice_index, position}
use Rattle.std.proofs.lemmas.Bool.Decides.{nat_tests}
use Rattle.sn_base.specs.Image.{ImageData}
use Rattle.sn_base.specs.declared.config.Config.{Config}
use Rattle.sn_base.specs.declared.event.Event.{Event}
use Rattle.sn_base.specs.declared.event.Event.TheVariants as event
use Rattle.sn_base.specs.declared.event.Answer.{Answer}
use Rattle.sn_base.specs.declared.event.Answer.TheVariants as answer
use Rattle.sn_msg.specs.declared.Message.{Message}
use Rattle.sn_model.specs.declared.cache.LineState.{LineState}
use Rattle.sn_model.specs.declared.cache.LineState.TheVariants as line
use Rattle.sn_model.specs.Caches.{line_of, block_count}
use Rattle.sn_model.specs.Fabric.{Fabric, Flight, FabricStep, node_at, with_node, step_refused, step_with_answer}
use Rattle.sn_model.specs.Net.{flight_of, is_full, sending}
use Rattle.sn_model.specs.NodeEvents.{step_of_eviction, evicts, begins_put, step_of_edge, after_edge, step_of_report, checkpoint_limit}
use Rattle.sn_model.specs.NetEvents.{step_of_hop, hops, step_of_loss, loses, step_of_kill, step_of_delivery, delivers, delivers_flight, outcome_of, Outcome, Busy}
use Rattle.sn_model.specs.NetEvents.{AtCache, AtHome, Noted}
use Rattle.sn_model.specs.PointEvents.{step_of_advance, advances, step_of_recovery, recovers, living_switches}
use Rattle.sn_model.specs.FabricEvents.{FabricEvent, moved_by}
use Rattle.sn_model.specs.FabricEvents as fabric
use Rattle.route_plan.specs.Routes.{first_cut_off}
use Rattle.sn_model.specs.Machine.{State}
use Rattle.sn_model.specs.Instructions.{machine_step_of}
use Rattle.sn_model.specs.MachineEvents.{state_after_news, machine_step_with_news, edges, validates, commits, unready_node, restores, is_recovered, is_edged}
use Rattle.sn_model.specs.Step.{step_of}
use Rattle.sn_model.specs.Trace.{TraceEntry, trace_after_event}
use Rattle.sn_coherence.specs.Records.{Records, unreserves, rolls_back}
use Rattle.sn_consistency.specs.Entries.{Entry}
use Rattle.sn_consistency.specs.Sorted.{entries_below_cut}
use Rattle.fabric_bounds.specs.Recorded.{KeepsRecords, MayBeRecorded, recorded_by, heard_by}
use Rattle.consistent_cuts.specs.RunInvariant.{RunInvariant, Joins}
use Rattle.consistent_cuts.specs.Runs.{EventFits}
use Rattle.consistent_cuts.proofs.Clocks.{IsQuiet, same_hopped, same_lost, same_killed, same_reported}
use Rattle.consistent_cuts.proofs.Hearings.{Rightly, rightly_evicted, rightly_delivered}
use Rattle.consistent_cuts.proofs.Hears.{hearing_joins}
use Rattle.consistent_cuts.proofs.Turns.{edge_joins, input_joins}
use Rattle.consistent_cuts.proofs.Points.{validation_joins, recovery_joins, restored_is}
use Rattle.consistent_cuts.proofs.FabricAfter.{FabricHalf}
use Rattle.consistent_cuts.proofs.Retirement.{stepped_joins}
use Rattle.consistent_cuts.proofs.SteppedCases.{is_point_answer}
use Rattle.consistent_cuts.proofs.Traced.{before}

-- an event that isn't an instruction
abbrev pub IsNoStep : Event → Type 0
IsNoStep (event.Step n) = ⊥
IsNoStep _ = Unit {0}

-- which answers don't

pub ordinary_begins : (s : Fabric) (n block : ℕ) → is_point_answer (begins_put s n block).answer ≡ false
ordinary_begins s n block = grind arith

pub ordinary_evicts : (s : Fabric) (n block : ℕ) (state : LineState) → is_point_answer (evicts s n block state).answer ≡ false
ordinary_evicts s n block line.Absent = refl
ordinary_evicts s n block line.Shared = refl
ordinary_evicts s n block line.Owned = ordinary_begins s n block
ordinary_evicts s n block line.Modified = ordinary_begins s n block
ordinary_evicts s n block line.Exclusive = ordinary_begins s n block

pub ordinary_evicted : (s : Fabric) (n block : ℕ) → is_point_answer (step_of_eviction s n block).answer ≡ false
ordinary_evicted s n block = grind (arith, ordinary_evicts s n block (line_of (node_at s n).cache block).state)

pub ordinary_delivers : (config : Config) (s : Fabric) (m : Message) (outcome : Outcome) →
    is_point_answer (delivers config s m outcome).answer ≡ false
ordinary_delivers config s m Busy = refl
ordinary_delivers config s m (AtCache reply) = grind arith
ordinary_delivers config s m (AtHome reply) = grind arith
ordinary_delivers config s m (Noted fabric told) = refl

pub ordinary_flight : (config : Config) (s : Fabric) (f : Option Flight) → is_point_answer (delivers_flight config s f).answer ≡ false
ordinary_flight config s None = refl
ordinary_flight config s (Some f) = grind (arith, ordinary_delivers config s f.message (outcome_of s f.message f.message.body))

pub ordinary_hops : (s : Fabric) (f : Option Flight) → is_point_answer (hops s f).answer ≡ false
ordinary_hops s None = refl
ordinary_hops s (Some f) = grind arith

pub ordinary_loses : (s : Fabric) (f : Option Flight) → is_point_answer (loses s f).answer ≡ false
ordinary_loses s None = refl
ordinary_loses s (Some f) = refl

-- so the retirements stay
stays_by : (image : ImageData) (s : State) (e : Event) (a : Answer) (trace : List TraceEntry) → IsNoStep e → is_point_answer a ≡ false →
    trace_after_event image s e a trace ≡ trace
stays_by image s e a trace plain b = by_answer a b
  where
    others : (e : Event) → IsNoStep e → trace_after_event image s e answer.Retired trace ≡ trace
    others (event.Step n) plain = absurd plain
    others (event.Evict n block) plain = refl
    others (event.Edge n) plain = refl
    others (event.Hop id) plain = refl
    others (event.Deliver id) plain = refl
    others (event.Lose id) plain = refl
    others (event.Kill switch) plain = refl
    others (event.Report n) plain = refl
    others event.Validate plain = refl
    others event.Recover plain = refl
    others (event.Input n byte) plain = refl

    by_answer : (a : Answer) → is_point_answer a ≡ false → trace_after_event image s e a trace ≡ trace
    by_answer answer.Retired b = others e plain
    by_answer (answer.Recovered undo) b = cc
    by_answer _ b = refl

-- where no node is unready each reported number is above the point
position_step : (k : ℕ) (xs : List ℕ) (p : ℕ → Bool) → position p (k ∷ xs) ≡ None → (p k ≡ false) × (position p xs ≡ None)
position_step k xs p e = grind (arith, e)

all_above : (xs : List ℕ) (point : ℕ) → position (λ k. nat_le k point) xs ≡ None → (n : ℕ) → n < length xs → point < slice_index xs n
all_above [] point e n l = absurd (omega (arith, l))
all_above (x ∷ xs) point e zero l = grind (arith, nat_tests, (position_step x xs (λ k. nat_le k point) e).0)
all_above (x ∷ xs) point e (suc n) l = all_above xs point (position_step x xs (λ k. nat_le k point) e).1 n (grind (arith, l))

module _ (half : FabricHalf) (image : ImageData) (config : Config) (s : State) (trace : List TraceEntry) (r : ℕ → Records) (list : ℕ → List Entry) (j : RunInvariant image s r list trace) where
  abbrev N : ℕ
  N = length s.fabric.nodes

  is_node : (n : ℕ) → nat_lt n N ≡ true → n < N
  is_node n e = grind (arith, nat_tests)

  -- an event of the fabric of which the rest hears
  heard_joins : (moved : FabricStep) (e : Event) → IsNoStep e → is_point_answer moved.answer ≡ false → Rightly s.fabric moved.fabric moved.told →
      KeepsRecords moved.fabric (λ b. heard_by moved.told b (r b)) →
      Joins image (machine_step_with_news s moved).state (trace_after_event image s e moved.answer trace)
  heard_joins moved e plain ordinary right k =
      subst (Joins image (machine_step_with_news s moved).state) (sym (stays_by image s e moved.answer trace plain ordinary))
      ((λ b. heard_by moved.told b (r b)), list, hearing_joins image s r list trace j moved.fabric moved.told right k)

  -- one of which nobody hears
  quiet_joins : (moved : FabricStep) (e : Event) → IsNoStep e → is_point_answer moved.answer ≡ false → IsQuiet s.fabric moved →
      KeepsRecords moved.fabric (λ b. heard_by moved.told b (r b)) →
      Joins image (machine_step_of s moved).state (trace_after_event image s e moved.answer trace)
  quiet_joins moved e plain ordinary quiet k =
      subst (λ x. Joins image (record (state_after_news s x) { fabric = moved.fabric }) (trace_after_event image s e moved.answer trace)) quiet.told
      (heard_joins moved e plain ordinary (subst (Rightly s.fabric moved.fabric) (sym quiet.told) quiet.clocks) k)

  recorded : (e : FabricEvent) → MayBeRecorded s.fabric r e →
      KeepsRecords (moved_by config s.fabric e).fabric (recorded_by s.fabric r e (moved_by config s.fabric e))
  recorded e may = half.event config s.fabric r e j.fabric may

  module _ (id : ℕ) where
    hopped_kept : KeepsRecords (step_of_hop s.fabric id).fabric (λ b. heard_by (step_of_hop s.fabric id).told b (r b))
    unfolding moved_by
    hopped_kept = recorded (fabric.Hop id) tt

    lost_kept : KeepsRecords (step_of_loss s.fabric id).fabric (λ b. heard_by (step_of_loss s.fabric id).told b (r b))
    unfolding moved_by
    lost_kept = recorded (fabric.Lose id) tt

    killed_kept : KeepsRecords (step_of_kill s.fabric id).fabric (λ b. heard_by (step_of_kill s.fabric id).told b (r b))
    unfolding moved_by
    killed_kept = recorded (fabric.Kill id) tt

    delivered_kept : KeepsRecords (step_of_delivery config s.fabric id).fabric (λ b. heard_by (step_of_delivery config s.fabric id).told b (r b))
    unfolding moved_by
    delivered_kept = recorded (fabric.Deliver id) tt

  module _ (n : ℕ) (l : n < N) where
    reported_kept : KeepsRecords (step_of_report s.fabric n).fabric (λ b. heard_by (step_of_report s.fabric n).told b (r b))
    unfolding moved_by
    reported_kept = recorded (fabric.Report n) l

    evicted_kept : (block : ℕ) → block < block_count →
        KeepsRecords (step_of_eviction s.fabric n block).fabric (λ b. heard_by (step_of_eviction s.fabric n block).told b (r b))
    unfolding moved_by
    evicted_kept block low = recorded (fabric.Evict n block) (l, low)

    edged_kept : KeepsRecords (step_of_edge s.fabric n).fabric (λ b. if is_edged (step_of_edge s.fabric n).answer then unreserves (r b) n else r b)
    unfolding moved_by
    edged_kept = recorded (fabric.Edge n) l

    -- a clock edge
    edging : (full : Bool) →
        KeepsRecords (if full then step_refused s.fabric answer.CheckpointsFull
        else step_with_answer (with_node s.fabric n (after_edge (node_at s.fabric n))) (answer.Edged ((node_at s.fabric n).now + 1))).fabric
        (λ b. if is_edged (if full then step_refused s.fabric answer.CheckpointsFull
        else step_with_answer (with_node s.fabric n (after_edge (node_at s.fabric n)))
        (answer.Edged ((node_at s.fabric n).now + 1))).answer then unreserves (r b) n else r b) →
        Joins image (edges s n (if full then step_refused s.fabric answer.CheckpointsFull
        else step_with_answer (with_node s.fabric n (after_edge (node_at s.fabric n))) (answer.Edged ((node_at s.fabric n).now + 1)))).state
        (trace_after_event image s (event.Edge n)
        (edges s n (if full then step_refused s.fabric answer.CheckpointsFull
        else step_with_answer (with_node s.fabric n (after_edge (node_at s.fabric n))) (answer.Edged ((node_at s.fabric n).now + 1)))).answer trace)
    edging true k = (r, list, j)
    edging false k = ((λ b. unreserves (r b) n), list, edge_joins image s r list trace j n l k)

    edged_joins : Joins image (edges s n (step_of_edge s.fabric n)).state
        (trace_after_event image s (event.Edge n) (edges s n (step_of_edge s.fabric n)).answer trace)
    edged_joins = edging (nat_eq ((node_at s.fabric n).now - (node_at s.fabric n).known) checkpoint_limit) edged_kept

  -- a validation
  ready_all : unready_node s ≡ None → (n : ℕ) → n < length s.reported → s.fabric.point < slice_index s.reported n
  ready_all none n l = all_above s.reported s.fabric.point none n l

  module _ (none : unready_node s ≡ None) where
    pub all_reported : (b n : ℕ) → b < block_count → n < N → s.fabric.point < (r b).reported n
    all_reported b n lb ln =
        let a = ready_all none n (let x = j.shape.reported in omega (arith, x, ln)) in
        let d = j.agrees.reported b n lb ln in
        omega (arith, a, d)

    reached : (n : ℕ) → n < N → s.fabric.point + 1 ≤ (node_at s.fabric n).now
    reached n l = (half.finished s.fabric r j.fabric all_reported).now n l

    advanced_kept : KeepsRecords (step_of_advance s.fabric (s.fabric.point + 1)).fabric
        (λ b. heard_by (step_of_advance s.fabric (s.fabric.point + 1)).told b (r b))
    unfolding moved_by
    advanced_kept = recorded (fabric.Advance (s.fabric.point + 1)) (refl, all_reported)

    committing : (full : Bool) →
        KeepsRecords (if full then step_refused s.fabric answer.NetFull
        else sending (record s.fabric { point = s.fabric.point + 1 }) 0 0 (advances (s.fabric.point + 1) 0 s.fabric.nodes)
        (answer.Validated (s.fabric.point + 1))).fabric
        (λ b. heard_by (if full then step_refused s.fabric answer.NetFull
        else sending (record s.fabric { point = s.fabric.point + 1 }) 0 0 (advances (s.fabric.point + 1) 0 s.fabric.nodes)
        (answer.Validated (s.fabric.point + 1))).told b (r b)) →
        Joins image (commits s (if full then step_refused s.fabric answer.NetFull
        else sending (record s.fabric { point = s.fabric.point + 1 }) 0 0 (advances (s.fabric.point + 1) 0 s.fabric.nodes)
        (answer.Validated (s.fabric.point + 1)))).state
        (trace_after_event image s event.Validate
        (commits s (if full then step_refused s.fabric answer.NetFull
        else sending (record s.fabric { point = s.fabric.point + 1 }) 0 0 (advances (s.fabric.point + 1) 0 s.fabric.nodes)
        (answer.Validated (s.fabric.point + 1)))).answer trace)
    committing true k = (r, list, j)
    committing false k = (
      r,
      list,
      validation_joins image s r list trace j
          (sending (record s.fabric { point = s.fabric.point + 1 }) 0 0 (advances (s.fabric.point + 1) 0 s.fabric.nodes)
          (answer.Validated (s.fabric.point + 1))).fabric refl refl reached k,
    )

  validating : (unready : Option ℕ) → unready_node s ≡ unready →
      Joins image (validates s unready).state (trace_after_event image s event.Validate (validates s unready).answer trace)
  validating (Some n) e = (r, list, j)
  validating None e = committing e (is_full s.fabric (length s.fabric.nodes)) (advanced_kept e)

  -- a recovery
  recovered_kept : KeepsRecords (step_of_recovery s.fabric s.fabric.point).fabric
      (λ b. if is_recovered (step_of_recovery s.fabric s.fabric.point).answer then rolls_back (r b) N s.fabric.point else r b)
  unfolding moved_by
  recovered_kept = recorded (fabric.Recover s.fabric.point) refl

  restoring : (pair : Option (ℕ × ℕ)) →
      KeepsRecords (recovers s.fabric s.fabric.point pair).fabric
      (λ b. if is_recovered (recovers s.fabric s.fabric.point pair).answer then rolls_back (r b) N s.fabric.point else r b) →
      Joins image (restores s (recovers s.fabric s.fabric.point pair)).state
      (trace_after_event image s event.Recover (restores s (recovers s.fabric s.fabric.point pair)).answer trace)
  restoring (Some pair) k = (r, list, j)
  restoring None k = subst (λ x. Joins image x (before s.fabric.point trace)) (sym (restored_is s)) (
    (λ b. rolls_back (r b) N s.fabric.point),
    entries_below_cut list s.fabric.point,
    recovery_joins image s r list trace j
        (subst (λ x. KeepsRecords x (λ b. rolls_back (r b) N s.fabric.point)) (ap (λ x. x.fabric) (restored_is s)) k),
  )

  abbrev EventJoins : Event → Type 0
  EventJoins e = Joins image (step_of image config s e).state (trace_after_event image s e (step_of image config s e).answer trace)

  pub event_joins : (e : Event) → EventFits N e → EventJoins e
  unfolding step_of
  event_joins (event.Step n) fits = stepped_joins half image config s n trace (is_node n fits.numbers) (r, list, j)
  event_joins (event.Evict n block) fits =
      let low : block < block_count = grind (arith, nat_tests, fits.block) in
      heard_joins (step_of_eviction s.fabric n block) (event.Evict n block) tt (ordinary_evicted s.fabric n block)
      (rightly_evicted s.fabric n block (is_node n fits.numbers)) (evicted_kept n (is_node n fits.numbers) block low)
  event_joins (event.Edge n) fits = edged_joins n (is_node n fits.numbers)
  event_joins (event.Hop id) fits =
      quiet_joins (step_of_hop s.fabric id) (event.Hop id) tt (ordinary_hops s.fabric (flight_of s.fabric.net.flights id))
      (same_hopped s.fabric id) (hopped_kept id)
  event_joins (event.Deliver id) fits =
      heard_joins (step_of_delivery config s.fabric id) (event.Deliver id) tt (ordinary_flight config s.fabric (flight_of s.fabric.net.flights id))
      (rightly_delivered config s.fabric j.fabric.0 j.fabric.1 id (λ f found. half.flight s.fabric id f j.fabric.1.shape found))
      (delivered_kept id)
  event_joins (event.Lose id) fits =
      quiet_joins (step_of_loss s.fabric id) (event.Lose id) tt (ordinary_loses s.fabric (flight_of s.fabric.net.flights id))
      (same_lost s.fabric id) (lost_kept id)
  event_joins (event.Kill switch) fits =
      quiet_joins (step_of_kill s.fabric switch) (event.Kill switch) tt (grind arith) (same_killed s.fabric switch) (killed_kept switch)
  event_joins (event.Report n) fits =
      quiet_joins (step_of_report s.fabric n) (event.Report n) tt (grind arith) (same_reported s.fabric n)
      (reported_kept n (is_node n fits.numbers))
  event_joins event.Validate fits = validating (unready_node s) refl
  event_joins event.Recover fits = restoring (first_cut_off (living_switches s.fabric)) recovered_kept
  event_joins (event.Input n byte) fits = (r, list, input_joins image s r list trace j n (is_node n fits.numbers) byte)
