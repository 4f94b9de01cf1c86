-- What each event does to a machine after a run.
use Rattle.std.proofs.Common.{◌≡◌, ◌≢◌, ℕ, ◌+◌, ◌-◌, ◌<◌, Bool, true, false, List, [], ◌∷◌, ◌++◌, length, Option, Some, None, arith, refl}
use Rattle.std.proofs.Common.{sym, ap, ◌∙◌, subst, nat_eq, nat_lt, true≢false, if◌then◌else◌, inl, inr, get_or-set_same, get_or-set_other}
use Rattle.std.proofs.lemmas.Bool.Decides.{nat_tests}
use Rattle.sn_base.specs.Image.{ImageData}
use Rattle.sn_base.specs.declared.config.Config.{Config}
use Rattle.sn_base.specs.declared.event.Event.{Event}
use Rattle.sn_base.specs.declared.event.Event.TheVariants as event
use Rattle.sn_base.specs.declared.event.Answer.{Answer}
use Rattle.sn_base.specs.declared.event.Answer.TheVariants as answer
use Rattle.sn_base.specs.declared.event.Undo.{Undo}
use Rattle.rv_core.specs.declared.step.Want.{Want}
use Rattle.rv_core.specs.declared.step.Want.TheVariants as want
use Rattle.rv_core.specs.Core.{block_of, is_reserved}
use Rattle.rv_core.specs.Execution.{end_of}
use Rattle.rv_core.specs.Step.{want_of}
use Rattle.route_plan.specs.Routes.{first_cut_off}
use Rattle.sn_model.specs.Fabric.{Fabric, FabricStep, node_at, with_node, step_refused, step_with_answer}
use Rattle.sn_model.specs.Net.{flight_of, is_full, sending}
use Rattle.sn_model.specs.Access.{step_of_access}
use Rattle.sn_model.specs.NodeEvents.{step_of_eviction, after_edge, step_of_report, checkpoint_limit}
use Rattle.sn_model.specs.NetEvents.{step_of_hop, step_of_loss, step_of_kill, step_of_delivery}
use Rattle.sn_model.specs.PointEvents.{advances, recovers, living_switches}
use Rattle.sn_model.specs.Machine.{State, Processor, processor_at, with_processor, first_processor}
use Rattle.sn_model.specs.Instructions.{MachineStep, machine_step_of, step_of_retirement, step_of_instruction, found_at, found_by, next_with}
use Rattle.sn_model.specs.Instructions as step
use Rattle.sn_model.specs.MachineEvents.{machine_step_with_news, edges, with_checkpoint, validates, commits, unready_node, restores, step_of_input}
use Rattle.sn_model.specs.Step.{step_of}
use Rattle.sn_model.specs.RecoveryPoint.{IsRestored}
use Rattle.sn_model.specs.Trace.{TraceEntry, entry_at, trace_after_event}
use Rattle.sn_coherence.specs.Records.{Records}
use Rattle.sn_consistency.specs.Entries.{Entry}
use Rattle.sn_consistency.specs.Committed.{Begins}
use Rattle.sn_consistency.specs.Laws.{own_reservation}
use Rattle.sn_consistency.proofs.CoreLaws.{next_reservation}
use Rattle.fabric_bounds.specs.Coherent.{NothingUnfinished}
use Rattle.consistent_cuts.specs.Headline.{IsStepOfRun, IsUntouched, MayUnreserve, Reserving}
use Rattle.consistent_cuts.specs.RunInvariant.{RunInvariant}
use Rattle.consistent_cuts.specs.Lists.{retirement_of}
use Rattle.consistent_cuts.specs.Runs.{EventFits}
use Rattle.consistent_cuts.proofs.Clocks.{part_set}
use Rattle.consistent_cuts.proofs.EachEvent.{ordinary_evicted, ordinary_flight, ordinary_hops, ordinary_loses, all_reported}
use Rattle.consistent_cuts.proofs.FabricAfter.{FabricHalf}
use Rattle.consistent_cuts.proofs.Points.{restored_state, restored_is}
use Rattle.consistent_cuts.proofs.Restored.{is_restored, is_untouched}
use Rattle.consistent_cuts.proofs.RestSays.{IsOrdinary, begins_same, ordinary_carried, ordinary_hearing, ordinary_retired, unreserved_told}
use Rattle.consistent_cuts.proofs.SteppedCases.{is_point_answer, stepped_cases, LeavesTrace}

-- an ordinary answer validates nothing and recovers nothing
no_validation : (a : Answer) (k : ℕ) → is_point_answer a ≡ false → a ≡ answer.Validated k → ⊥
no_validation a k e is = true≢false (sym (ap is_point_answer is) ∙ e)

no_recovery : (a : Answer) (undo : Undo) → is_point_answer a ≡ false → a ≡ answer.Recovered undo → ⊥
no_recovery a undo e is = true≢false (sym (ap is_point_answer is) ∙ e)

-- an answer that leaves the retirements isn't TraceEntry
leaves_unretired : (image : ImageData) (s : State) (n : ℕ) (a : Answer) → LeavesTrace image s n a → a ≡ answer.Retired → ⊥
leaves_unretired image s n a leaves is =
    let h : trace_after_event image s (event.Step n) answer.Retired [] ≡ [] = subst (λ x. trace_after_event image s (event.Step n) x [] ≡ []) is (leaves.1 []) in
    cc

module _ (half : FabricHalf) (image : ImageData) (config : Config) (s : State) (r : ℕ → Records) (list : ℕ → List Entry) (trace : List TraceEntry) (j : RunInvariant image s r list trace) (count : length s.fabric.nodes ≡ config.nodes) where
  abbrev N : ℕ
  N = length s.fabric.nodes

  there : (n : ℕ) → n < config.nodes → n < length s.processors
  there n l = let a = j.shape.processors in omega (arith, a, l, count)

  conditional_is : (n address : ℕ) → want_of image (processor_at s n).core ≡ want.Sc address →
      (entry_at image s n).did.sc_done ≡ is_reserved (processor_at s n).core.reservation (block_of address)
  conditional_is n address e = ap (λ w. (found_by s n w).sc_done) e

  abbrev Retires : Event → MachineStep → Type 0
  Retires e x =
      (n : ℕ) → e ≡ event.Step n → x.answer ≡ answer.Retired → x.state.pending ≡ s.pending ++ retirement_of (entry_at image s n) ∷ []

  abbrev Unreserves : Event → MachineStep → Type 0
  Unreserves e x =
      (n block : ℕ) → n < config.nodes → is_reserved (processor_at s n).core.reservation block ≡ true →
      is_reserved (processor_at x.state n).core.reservation block ≡ false → MayUnreserve image config s n block e

  -- an event that neither moves the point nor goes back to it
  ordinary : (e : Event) (x : MachineStep) → IsOrdinary s x → Retires e x → Unreserves e x → IsStepOfRun image config s e x
  ordinary e x o retires unreserves = record {
    validated = λ k is. absurd (no_validation x.answer k o.no_point is);
    grows = λ k is. absurd (no_validation x.answer k o.no_point is);
    stays = λ no. (o.committed, o.released);
    restored = λ undo is. absurd (no_recovery x.answer undo o.no_point is);
    given = o.given;
    retires = retires;
    conditional = conditional_is;
    unreserves = unreserves;
  }

  -- that a reservation isn't lost where the core is as before
  kept : (n block : ℕ) (p : Processor) → p.core ≡ (processor_at s n).core → is_reserved (processor_at s n).core.reservation block ≡ true →
      is_reserved p.core.reservation block ≡ false → ⊥
  kept n block p same a b = true≢false (sym a ∙ ap (λ c. is_reserved c.reservation block) (sym same) ∙ b)

  -- an instruction

  abbrev next : ℕ → Processor
  next n = record (processor_at s n) { core = (next_with image (processor_at s n) (found_at image s n)).core }

  lost_by : (m block : ℕ) (w : Want) → want_of image (processor_at s m).core ≡ w →
      is_reserved (processor_at s m).core.reservation block ≡ true →
      is_reserved (own_reservation w (processor_at s m).core.reservation) block ≡ false → Reserving image s m
  lost_by m block (want.Lr address) e a b = (address, inl e)
  lost_by m block (want.Sc address) e a b = (address, inr e)
  lost_by m block want.Nothing e a b = absurd (true≢false (sym a ∙ b))
  lost_by m block want.Input e a b = absurd (true≢false (sym a ∙ b))
  lost_by m block (want.Load address) e a b = absurd (true≢false (sym a ∙ b))
  lost_by m block (want.Store address) e a b = absurd (true≢false (sym a ∙ b))
  lost_by m block (want.Amo address) e a b = absurd (true≢false (sym a ∙ b))

  own_unreserved : (n block : ℕ) → n < config.nodes → is_reserved (processor_at s n).core.reservation block ≡ true →
      is_reserved (processor_at (step_of_retirement image s n).state n).core.reservation block ≡ false → Reserving image s n
  own_unreserved n block l a b =
      lost_by n block (want_of image (processor_at s n).core) refl a
      (ap (λ x. is_reserved x block)
      (sym (next_reservation image (processor_at s n).core (found_at image s n).seen (found_at image s n).sc_done
      (found_at image s n).read))
      ∙ ap (λ p. is_reserved p.core.reservation block) (sym (get_or-set_same s.processors n (next n) (first_processor 0 0) (there n l)))
      ∙ b)

  unreserved_by : (m n block : ℕ) → n < config.nodes → is_reserved (processor_at s n).core.reservation block ≡ true →
      is_reserved (processor_at (step_of_retirement image s m).state n).core.reservation block ≡ false → (m ≡ n) × Reserving image s n
  unreserved_by m n block l a b = go (nat_eq n m) refl
    where
      go : (p : Bool) → nat_eq n m ≡ p → (m ≡ n) × Reserving image s n
      go false i =
          let d : n ≢ m = grind (arith, nat_tests) in
          absurd (kept n block (processor_at (step_of_retirement image s m).state n)
          (ap (λ p. p.core) (get_or-set_other s.processors m n (next m) (first_processor 0 0) d)) a b)
      go true i =
          let same : m ≡ n = grind (arith, nat_tests) in (
            same,
            own_unreserved n block l a
                (subst (λ x. is_reserved (processor_at (step_of_retirement image s x).state n).core.reservation block ≡ false) same b),
          )

  step_of_run : (n : ℕ) → n < N → IsStepOfRun image config s (event.Step n) (step_of_instruction image config s n)
  step_of_run n l = stepped_cases image config s n l (IsStepOfRun image config s (event.Step n))
      (λ can. ordinary (event.Step n) (step_of_retirement image s n) (ordinary_retired image s n)
      (λ m same is. ap (λ x. s.pending ++ retirement_of (entry_at image s x) ∷ []) (node_same n m same))
      (λ m block lm a b. unreserved_by n m block lm a b))
      (λ block access low leaves. ordinary_step (machine_step_of s (step_of_access config s.fabric n block access))
      (ordinary_carried s (step_of_access config s.fabric n block access) leaves.0) leaves (λ m b lm x y. kept m b (processor_at s m) refl x y))
      (λ a leaves. ordinary_step (step.machine_step_refused s a)
      (record { no_point = leaves.0; committed = refl; released = refl; given = λ m. begins_same (processor_at s m).given }) leaves
      (λ m b lm x y. kept m b (processor_at s m) refl x y))
    where
      node_same : (n m : ℕ) → event.Step n ≡ event.Step m → n ≡ m
      node_same n m e = cc

      ordinary_step : (x : MachineStep) → IsOrdinary s x → LeavesTrace image s n x.answer →
          ((m b : ℕ) → m < config.nodes → is_reserved (processor_at s m).core.reservation b ≡ true →
          is_reserved (processor_at x.state m).core.reservation b ≡ false → ⊥) → IsStepOfRun image config s (event.Step n) x
      ordinary_step x o leaves never =
          ordinary (event.Step n) x o (λ m same is. absurd (leaves_unretired image s n x.answer leaves is))
          (λ m b lm p q. absurd (never m b lm p q))

  -- the other events of a node, and of the network

  abbrev same_cores : Event → MachineStep → Type 0
  same_cores e x = (n : ℕ) → (processor_at x.state n).core ≡ (processor_at s n).core

  kept_all : (e : Event) (x : MachineStep) → same_cores e x → Unreserves e x
  kept_all e x same n block l a b = absurd (kept n block (processor_at x.state n) (same n) a b)

  abbrev Says : Event → MachineStep → Type 0
  Says e x = IsStepOfRun image config s e x

  carried_says : (e : Event) (moved : FabricStep) → ((n : ℕ) → e ≡ event.Step n → ⊥) → is_point_answer moved.answer ≡ false →
      Says e (machine_step_of s moved)
  carried_says e moved other calm =
      ordinary e (machine_step_of s moved) (ordinary_carried s moved calm) (λ n same is. absurd (other n same))
      (kept_all e (machine_step_of s moved) (λ n. refl))

  evicted_says : (n block : ℕ) → Says (event.Evict n block) (machine_step_with_news s (step_of_eviction s.fabric n block))
  evicted_says n block =
      ordinary (event.Evict n block) (machine_step_with_news s (step_of_eviction s.fabric n block))
      (ordinary_hearing s (step_of_eviction s.fabric n block) (ordinary_evicted s.fabric n block)) (λ m same is. absurd (let x = same in cc))
      (λ m b l x y. unreserved_told s (step_of_eviction s.fabric n block).told m b (there m l) x y)

  delivered_says : (id : ℕ) → Says (event.Deliver id) (machine_step_with_news s (step_of_delivery config s.fabric id))
  delivered_says id =
      ordinary (event.Deliver id) (machine_step_with_news s (step_of_delivery config s.fabric id))
      (ordinary_hearing s (step_of_delivery config s.fabric id) (ordinary_flight config s.fabric (flight_of s.fabric.net.flights id)))
      (λ m same is. absurd (let x = same in cc))
      (λ m b l x y. unreserved_told s (step_of_delivery config s.fabric id).told m b (there m l) x y)

  -- a clock edge
  edge_unreserves : (n : ℕ) (fabric : Fabric) (m block : ℕ) → is_reserved (processor_at s m).core.reservation block ≡ true →
      is_reserved (processor_at (with_processor s n (with_checkpoint (processor_at s n))) m).core.reservation block ≡ false → n ≡ m
  edge_unreserves n fabric m block a b = go (nat_eq m n) refl
    where
      go : (p : Bool) → nat_eq m n ≡ p → n ≡ m
      go true i = grind (arith, nat_tests)
      go false i =
          let d : m ≢ n = grind (arith, nat_tests) in
          absurd (kept m block (processor_at (with_processor s n (with_checkpoint (processor_at s n))) m)
          (ap (λ p. p.core) (get_or-set_other s.processors n m (with_checkpoint (processor_at s n)) (first_processor 0 0) d)) a b)

  edging : (n : ℕ) (full : Bool) →
      Says (event.Edge n) (edges s n
      (if full then step_refused s.fabric answer.CheckpointsFull
      else step_with_answer (with_node s.fabric n (after_edge (node_at s.fabric n))) (answer.Edged ((node_at s.fabric n).now + 1))))
  edging n true =
      ordinary (event.Edge n) (step.machine_step_refused s answer.CheckpointsFull)
      (record { no_point = refl; committed = refl; released = refl; given = λ m. begins_same (processor_at s m).given })
      (λ m same is. absurd (let x = same in cc)) (kept_all (event.Edge n) (step.machine_step_refused s answer.CheckpointsFull) (λ m. refl))
  edging n false =
      ordinary (event.Edge n) after
      (record {
        no_point = refl;
        committed = refl;
        released = refl;
        given = λ m. subst (Begins (processor_at s m).given) (sym (given_same m)) (begins_same (processor_at s m).given);
      })
      (λ m same is. absurd (let x = same in cc))
      (λ m b l x y. edge_unreserves n s.fabric m b x y)
    where
      after : MachineStep
      after = edges s n (step_with_answer (with_node s.fabric n (after_edge (node_at s.fabric n))) (answer.Edged ((node_at s.fabric n).now + 1)))

      given_same : (m : ℕ) → (processor_at (with_processor s n (with_checkpoint (processor_at s n))) m).given ≡ (processor_at s m).given
      given_same m = part_set (λ p. p.given) s.processors n m (with_checkpoint (processor_at s n)) (first_processor 0 0) refl

  -- a byte of input
  abbrev more : ℕ → ℕ → Processor
  more n byte = record (processor_at s n) { given = (processor_at s n).given ++ byte ∷ [] }

  core_same : (n byte m : ℕ) → (processor_at (with_processor s n (more n byte)) m).core ≡ (processor_at s m).core
  core_same n byte m = part_set (λ p. p.core) s.processors n m (more n byte) (first_processor 0 0) refl

  grown : (n byte : ℕ) → n < length s.processors → (m : ℕ) →
      Begins (processor_at s m).given (processor_at (with_processor s n (more n byte)) m).given
  grown n byte l m = go (nat_eq m n) refl
    where
      go : (p : Bool) → nat_eq m n ≡ p → Begins (processor_at s m).given (processor_at (with_processor s n (more n byte)) m).given
      go false i =
          let d : m ≢ n = grind (arith, nat_tests) in
          subst (Begins (processor_at s m).given)
          (ap (λ p. p.given) (sym (get_or-set_other s.processors n m (more n byte) (first_processor 0 0) d)))
          (begins_same (processor_at s m).given)
      go true i =
          let e : n ≡ m = grind (arith, nat_tests) in
          subst (λ x. Begins (processor_at s x).given (processor_at (with_processor s n (more n byte)) x).given) e
          (subst (Begins (processor_at s n).given)
          (ap (λ p. p.given) (sym (get_or-set_same s.processors n (more n byte) (first_processor 0 0) l)))
          (record { more = byte ∷ []; is = refl }))

  input_says : (n byte : ℕ) → n < length s.processors → Says (event.Input n byte) (step_of_input s n byte)
  input_says n byte l =
      ordinary (event.Input n byte) (step_of_input s n byte) (record { no_point = refl; committed = refl; released = refl; given = grown n byte l })
      (λ m same is. absurd (let x = same in cc))
      (kept_all (event.Input n byte) (step_of_input s n byte) (core_same n byte))

  -- a validation

  refusal_says : (e : Event) (a : Answer) → ((n : ℕ) → e ≡ event.Step n → ⊥) → is_point_answer a ≡ false → Says e (step.machine_step_refused s a)
  refusal_says e a other calm =
      ordinary e (step.machine_step_refused s a)
      (record { no_point = calm; committed = refl; released = refl; given = λ m. begins_same (processor_at s m).given })
      (λ n same is. absurd (other n same)) (kept_all e (step.machine_step_refused s a) (λ n. refl))

  abbrev committed : MachineStep
  committed =
      commits s (sending (record s.fabric { point = s.fabric.point + 1 }) 0 0 (advances (s.fabric.point + 1) 0 s.fabric.nodes)
      (answer.Validated (s.fabric.point + 1)))

  committing : (none : unready_node s ≡ None) (full : Bool) →
      Says event.Validate (commits s
      (if full then step_refused s.fabric answer.NetFull
      else sending (record s.fabric { point = s.fabric.point + 1 }) 0 0 (advances (s.fabric.point + 1) 0 s.fabric.nodes)
      (answer.Validated (s.fabric.point + 1))))
  committing none true = refusal_says event.Validate answer.NetFull (λ n e. cc) refl
  committing none false = record {
    validated =
        λ k is. (
          sym (number k is),
          subst (NothingUnfinished s.fabric) (number k is)
              (half.finished s.fabric r j.fabric (all_reported half image config s trace r list j none)),
        );
    grows = λ k is. (refl, refl);
    stays = λ no. absurd (no (s.fabric.point + 1) refl);
    restored = λ undo is. cc;
    given = λ n. begins_same (processor_at s n).given;
    retires = λ n same is. cc;
    conditional = conditional_is;
    unreserves = λ n block l a b. absurd (kept n block (processor_at s n) refl a b);
  }
    where
      number : (k : ℕ) → answer.Validated (s.fabric.point + 1) ≡ answer.Validated k → s.fabric.point + 1 ≡ k
      number k is = cc

  validating : (unready : Option ℕ) → unready_node s ≡ unready → Says event.Validate (validates s unready)
  validating (Some n) e = refusal_says event.Validate (answer.NotReady n) (λ m e. cc) refl
  validating None e = committing e (is_full s.fabric (length s.fabric.nodes))

  -- a recovery

  restoring : (pair : Option (ℕ × ℕ)) → Says event.Recover (restores s (recovers s.fabric s.fabric.point pair))
  restoring (Some pair) = refusal_says event.Recover (answer.CutOff pair.0 pair.1) (λ n e. cc) refl
  restoring None = record {
    validated = λ k is. cc;
    grows = λ k is. cc;
    stays = λ no. (ap (λ x. x.committed) (restored_is s), ap (λ x. x.released) (restored_is s));
    restored = λ undo is. subst (λ x. IsRestored x (end_of image config.nodes s.committed) × IsUntouched s x) (sym (restored_is s)) (
      subst (λ nodes. IsRestored (restored_state s) (end_of image nodes s.committed)) count (is_restored half image s r list trace j),
      is_untouched half image s r list trace j,
    );
    given = λ n. subst (λ x. Begins (processor_at s n).given (processor_at x n).given) (sym (restored_is s))
        (subst (Begins (processor_at s n).given) (sym ((is_untouched half image s r list trace j).given n))
        (begins_same (processor_at s n).given));
    retires = λ n same is. cc;
    conditional = conditional_is;
    unreserves = λ n block l a b. tt;
  }

  pub event_says : (e : Event) → EventFits config.nodes e → Says e (step_of image config s e)
  unfolding step_of
  event_says (event.Step n) fits = step_of_run n (is_node n fits.numbers)
    where
      is_node : (n : ℕ) → nat_lt n config.nodes ≡ true → n < N
      is_node n e = let c = count in grind (arith, nat_tests)
  event_says (event.Evict n block) fits = evicted_says n block
  event_says (event.Edge n) fits = edging n (nat_eq ((node_at s.fabric n).now - (node_at s.fabric n).known) checkpoint_limit)
  event_says (event.Hop id) fits =
      carried_says (event.Hop id) (step_of_hop s.fabric id) (λ n e. cc) (ordinary_hops s.fabric (flight_of s.fabric.net.flights id))
  event_says (event.Deliver id) fits = delivered_says id
  event_says (event.Lose id) fits =
      carried_says (event.Lose id) (step_of_loss s.fabric id) (λ n e. cc) (ordinary_loses s.fabric (flight_of s.fabric.net.flights id))
  event_says (event.Kill switch) fits = carried_says (event.Kill switch) (step_of_kill s.fabric switch) (λ n e. cc) (grind arith)
  event_says (event.Report n) fits = carried_says (event.Report n) (step_of_report s.fabric n) (λ m e. cc) (grind arith)
  event_says event.Validate fits = validating (unready_node s) refl
  event_says event.Recover fits = restoring (first_cut_off (living_switches s.fabric))
  event_says (event.Input n byte) fits = input_says n byte (there n (grind (arith, nat_tests, fits.numbers)))
