-- A clock edge and a byte of input keep what is joined.
use Rattle.std.proofs.Common.{◌≡◌, ◌≢◌, ℕ, suc, ◌+◌, ◌-◌, ◌<◌, ◌≤◌, Bool, true, false, List, [], ◌∷◌, ◌++◌, length, drop, arith, refl, sym}
use Rattle.std.proofs.Common.{ap, ◌∙◌, subst, nat_eq, get_or-set_same, get_or-set_other, length-set, length-append}
use Rattle.std.specs.Prelude.{get_or}
use Rattle.std.proofs.lemmas.Bool.Decides.{nat_tests}
use Rattle.std.proofs.lemmas.List.{get_or-append_right, get_or_append_left, drop-append-le}
use Rattle.sn_base.specs.Image.{ImageData}
use Rattle.rv_core.specs.declared.state.CoreState.{CoreState}
use Rattle.rv_core.specs.Core.{bare, is_reserved}
use Rattle.sn_model.specs.Caches.{block_count}
use Rattle.sn_model.specs.Fabric.{Fabric, first_node, node_at, with_node}
use Rattle.sn_model.specs.NodeEvents.{after_edge}
use Rattle.sn_model.specs.Machine.{State, Processor, processor_at, with_processor}
use Rattle.sn_model.specs.Instructions.{taken_by}
use Rattle.sn_model.specs.MachineEvents.{with_checkpoint, checkpoint_of}
use Rattle.sn_model.specs.Trace.{TraceEntry}
use Rattle.sn_coherence.specs.Records.{Records, unreserves}
use Rattle.sn_consistency.specs.Entries.{Entry}
use Rattle.sn_consistency.specs.Outline as sorted
use Rattle.fabric_bounds.specs.Recorded.{KeepsRecords}
use Rattle.consistent_cuts.specs.Outlines.{outline_of, interval_of, start_places}
use Rattle.consistent_cuts.specs.RunInvariant.{RunInvariant}
use Rattle.consistent_cuts.proofs.Clocks.{same_clocks, part_set}
use Rattle.consistent_cuts.proofs.Hears.{at_each, kept_checkpoint, recount}
use Rattle.consistent_cuts.proofs.Outlines.{same_history, edge_keeps, input_keeps}
use Rattle.consistent_cuts.proofs.Traced.{traced_same}

module _ (image : ImageData) (s : State) (r : ℕ → Records) (list : ℕ → List Entry) (trace : List TraceEntry) (j : RunInvariant image s r list trace) (e : ℕ) (l : e < length s.fabric.nodes) where
  abbrev N : ℕ
  N = length s.fabric.nodes

  there : e < length s.processors
  there = let a = j.shape.processors in omega (arith, a, l)

  -- node e's clock edge
  abbrev later : Fabric
  later = with_node s.fabric e (after_edge (node_at s.fabric e))

  abbrev edged : State
  edged = record (with_processor s e (with_checkpoint (processor_at s e))) { fabric = later }

  abbrev each : (P : ℕ → Processor → Type 0) → P e (with_checkpoint (processor_at s e)) → ((m : ℕ) → m ≢ e → P m (processor_at s m)) →
      (m : ℕ) → P m (processor_at edged m)
  each = at_each s e (with_checkpoint (processor_at s e)) there

  bare_each : (m : ℕ) → bare (processor_at s m).core ≡ bare (processor_at edged m).core
  bare_each = each (λ m p. bare (processor_at s m).core ≡ bare p.core) refl (λ m d. refl)

  given_each : (m : ℕ) → (processor_at s m).given ≡ (processor_at edged m).given
  given_each = each (λ m p. (processor_at s m).given ≡ p.given) refl (λ m d. refl)

  known_each : (m : ℕ) → (node_at later m).known ≡ (node_at s.fabric m).known
  known_each m = part_set (λ x. x.known) s.fabric.nodes e m (after_edge (node_at s.fabric e)) first_node refl

  now_here : (node_at later e).now ≡ (node_at s.fabric e).now + 1
  now_here = ap (λ x. x.now) (get_or-set_same s.fabric.nodes e (after_edge (node_at s.fabric e)) first_node l)

  now_there : (m : ℕ) → m ≢ e → (node_at later m).now ≡ (node_at s.fabric m).now
  now_there m d = ap (λ x. x.now) (get_or-set_other s.fabric.nodes e m (after_edge (node_at s.fabric e)) first_node d)

  count : length later.nodes ≡ N
  count = length-set s.fabric.nodes e (after_edge (node_at s.fabric e))

  interval_here : interval_of s.fabric e ≡ (node_at s.fabric e).now
  interval_here = grind (arith, nat_tests)

  interval_each : (m : ℕ) → interval_of later m ≡ (sorted.outline_after_edge (outline_of s r list) e).interval m
  interval_each m = go (nat_eq m e) refl
    where
      go : (q : Bool) → nat_eq m e ≡ q → interval_of later m ≡ (sorted.outline_after_edge (outline_of s r list) e).interval m
      go true i =
          let d : m ≡ e = grind (arith, nat_tests) in
          subst (λ x. interval_of later x ≡ (sorted.outline_after_edge (outline_of s r list) e).interval x) (sym d)
          (let a = now_here in let b = count in let g = interval_here in grind (arith, nat_tests))
      go false i =
          let d : m ≢ e = grind (arith, nat_tests) in
          let a = now_there m d in let b = count in grind (arith, nat_tests)

  reserved_each : (m b : ℕ) → (sorted.outline_after_edge (outline_of s r list) e).reserved m b ≡ is_reserved (processor_at edged m).core.reservation b
  reserved_each =
      each (λ m p. (b : ℕ) → (sorted.outline_after_edge (outline_of s r list) e).reserved m b ≡ is_reserved p.core.reservation b)
      (λ b. grind (arith, nat_tests)) (λ m d b. grind (arith, nat_tests))

  count_here : (node_at s.fabric e).known + length (processor_at s e).checkpoints ≡ (node_at s.fabric e).now + 1
  count_here = j.shape.checkpoints e l

  abbrev taken_checkpoints : List CoreState
  taken_checkpoints = (processor_at s e).checkpoints ++ bare (processor_at s e).core ∷ []

  checkpoint_here : (k : ℕ) → (node_at s.fabric e).known ≤ k → k ≤ (node_at s.fabric e).now + 1 →
      get_or taken_checkpoints (k - (node_at later e).known) (bare (processor_at s e).core)
      ≡ (sorted.outline_after_edge (outline_of s r list) e).checkpoint e k
  checkpoint_here k low up =
      ap (λ x. get_or taken_checkpoints (k - x) (bare (processor_at s e).core)) (known_each e)
      ∙ go (nat_eq k (suc (node_at s.fabric e).now)) refl
    where
      go : (q : Bool) → nat_eq k (suc (node_at s.fabric e).now) ≡ q →
          get_or taken_checkpoints (k - (node_at s.fabric e).known) (bare (processor_at s e).core)
          ≡ (sorted.outline_after_edge (outline_of s r list) e).checkpoint e k
      go true i =
          let a = count_here in
          let d : length (processor_at s e).checkpoints ≤ k - (node_at s.fabric e).known = grind (arith, nat_tests) in
          let z : k - (node_at s.fabric e).known - length (processor_at s e).checkpoints ≡ 0 = grind (arith, nat_tests) in
          let h = get_or-append_right (processor_at s e).checkpoints (bare (processor_at s e).core ∷ [])
          (length (processor_at s e).checkpoints) (k - (node_at s.fabric e).known) (bare (processor_at s e).core) refl d in
          let g = interval_here in
          h ∙ ap (λ x. get_or (bare (processor_at s e).core ∷ []) x (bare (processor_at s e).core)) z ∙ grind (arith, nat_tests)
      go false i =
          let a = count_here in
          let d : k - (node_at s.fabric e).known < length (processor_at s e).checkpoints = grind (arith, nat_tests) in
          let h = get_or_append_left (processor_at s e).checkpoints (bare (processor_at s e).core ∷ []) (bare (processor_at s e).core)
          (k - (node_at s.fabric e).known) d in
          let q = kept_checkpoint (processor_at s e).checkpoints (k - (node_at s.fabric e).known) (bare (processor_at s e).core)
          (processor_at s e).core d in
          let g = interval_here in
          h ∙ q ∙ grind (arith, nat_tests)

  checkpoint_each : (m k : ℕ) → (node_at s.fabric m).known ≤ k → k ≤ interval_of later m →
      checkpoint_of (processor_at edged m) (node_at later m).known k ≡ (sorted.outline_after_edge (outline_of s r list) e).checkpoint m k
  checkpoint_each =
      each (λ m p. (k : ℕ) → (node_at s.fabric m).known ≤ k → k ≤ interval_of later m →
      checkpoint_of p (node_at later m).known k ≡ (sorted.outline_after_edge (outline_of s r list) e).checkpoint m k)
      (λ k low up. checkpoint_here k low (let a = interval_each e in let b = interval_here in grind (arith, nat_tests)))
      (λ m d k low up. ap (λ x. checkpoint_of (processor_at s m) x k) (known_each m) ∙ grind (arith, nat_tests))

  counts_each : (m : ℕ) → m < N → (node_at later m).known + length (processor_at edged m).checkpoints ≡ (node_at later m).now + 1
  counts_each = each (λ m p. m < N → (node_at later m).known + length p.checkpoints ≡ (node_at later m).now + 1)
      (λ ln. let a = count_here in let b = known_each e in let d = now_here in
      let g = length-append (processor_at s e).checkpoints (bare (processor_at s e).core ∷ []) in omega (arith, a, b, d, g))
      (λ m d ln. let a = j.shape.checkpoints m ln in let b = known_each m in let g = now_there m d in omega (arith, a, b, g))

  unreserved_each : (b : ℕ) → b < block_count → (n : ℕ) → n < N →
      (unreserves (r b) e).reserved n ≡ is_reserved (processor_at edged n).core.reservation b
  unreserved_each b lb = each (λ n p. n < N → (unreserves (r b) e).reserved n ≡ is_reserved p.core.reservation b)
      (λ ln. grind (arith, nat_tests)) (λ m d ln. let a = j.agrees.reserved b m lb ln in grind (arith, nat_tests))

  pub edge_joins : KeepsRecords later (λ b. unreserves (r b) e) → RunInvariant image edged (λ b. unreserves (r b) e) list trace
  edge_joins k = record {
    fabric = k;
    shape = record {
      processors = length-set s.processors e (with_checkpoint (processor_at s e)) ∙ j.shape.processors ∙ sym count;
      reported = j.shape.reported ∙ sym count;
      checkpoints = λ n ln. counts_each n (omega (arith, ln, count));
      taken = λ n ln. let a = j.shape.taken n (omega (arith, ln, count)) in let g = ap length (given_each n) in omega (arith, a, g);
    };
    agrees = record {
      reserved = λ b n lb ln. unreserved_each b lb n (omega (arith, ln, count));
      reported = λ b n lb ln. j.agrees.reported b n lb (omega (arith, ln, count));
    };
    sorted = recount image N (length later.nodes) (outline_of edged (λ b. unreserves (r b) e) list) count
        (edge_keeps image N (start_places image N) s edged r (λ b. unreserves (r b) e) list j.sorted
        (record { content = λ b i. refl; value = λ b. refl; last_write = λ b. refl; last_access = λ b n. refl }) e
        (record { core = bare_each; given = given_each; taken = λ n. refl }) refl interval_each known_each reserved_each checkpoint_each);
    traced = traced_same trace s edged j.traced refl refl refl refl refl;
    made = j.made;
  }

  -- a byte of input for node e
  module _ (byte : ℕ) where
    abbrev with_byte : Processor
    with_byte = record (processor_at s e) { given = (processor_at s e).given ++ byte ∷ [] }

    abbrev given : State
    given = with_processor s e with_byte

    abbrev each_given : (P : ℕ → Processor → Type 0) → P e with_byte → ((m : ℕ) → m ≢ e → P m (processor_at s m)) → (m : ℕ) →
        P m (processor_at given m)
    each_given = at_each s e with_byte there

    core_given : (m : ℕ) → (processor_at s m).core ≡ (processor_at given m).core
    core_given = each_given (λ m p. (processor_at s m).core ≡ p.core) refl (λ m d. refl)

    kept_given : (m : ℕ) → (processor_at given m).checkpoints ≡ (processor_at s m).checkpoints
    kept_given = each_given (λ m p. p.checkpoints ≡ (processor_at s m).checkpoints) refl (λ m d. refl)

    checkpoint_given : (m k : ℕ) →
        checkpoint_of (processor_at given m) (node_at s.fabric m).known k ≡ checkpoint_of (processor_at s m) (node_at s.fabric m).known k
    checkpoint_given =
        each_given (λ m p. (k : ℕ) →
        checkpoint_of p (node_at s.fabric m).known k ≡ checkpoint_of (processor_at s m) (node_at s.fabric m).known k) (λ k. refl)
        (λ m d k. refl)

    bytes_given : (m : ℕ) → (processor_at given m).given ≡ (sorted.given_to (outline_of s r list) e byte).given m
    bytes_given =
        each_given (λ m p. p.given ≡ (sorted.given_to (outline_of s r list) e byte).given m) (grind (arith, nat_tests))
        (λ m d. grind (arith, nat_tests))

    waiting_given : (m : ℕ) → drop (taken_by s m) (processor_at given m).given ≡ (sorted.given_to (outline_of s r list) e byte).waiting m
    waiting_given = each_given (λ m p. drop (taken_by s m) p.given ≡ (sorted.given_to (outline_of s r list) e byte).waiting m)
        (drop-append-le (taken_by s e) (processor_at s e).given (byte ∷ []) (j.shape.taken e l) ∙ grind (arith, nat_tests))
        (λ m d. grind (arith, nat_tests))

    more_given : (m : ℕ) → m < N → taken_by s m ≤ length (processor_at given m).given
    more_given = each_given (λ m p. m < N → taken_by s m ≤ length p.given)
        (λ ln. let a = j.shape.taken e l in let g = length-append (processor_at s e).given (byte ∷ []) in omega (arith, a, g))
        (λ m d ln. j.shape.taken m ln)

    pub input_joins : RunInvariant image given r list trace
    input_joins = record {
      fabric = j.fabric;
      shape = record {
        processors = length-set s.processors e with_byte ∙ j.shape.processors;
        reported = j.shape.reported;
        checkpoints = λ n ln. let a = j.shape.checkpoints n ln in let g = ap length (kept_given n) in omega (arith, a, g);
        taken = more_given;
      };
      agrees = record {
        reserved = λ b n lb ln. j.agrees.reserved b n lb ln ∙ ap (λ x. is_reserved x.reservation b) (core_given n);
        reported = j.agrees.reported;
      };
      sorted =
          input_keeps image N (start_places image N) s given r r list j.sorted (same_history r) e byte (same_clocks s.fabric)
          (λ n. ap bare (core_given n))
          (λ n b. ap (λ x. is_reserved x.reservation b) (core_given n)) checkpoint_given bytes_given waiting_given;
      traced = traced_same trace s given j.traced refl refl refl refl refl;
      made = j.made;
    }
