-- What the rest hears of an event keeps what is joined.
use Rattle.std.proofs.Common.{◌≡◌, ◌≢◌, ℕ, ◌+◌, ◌-◌, ◌<◌, ◌≤◌, Bool, true, false, max, cond, List, length, Option, Some, None, arith, refl}
use Rattle.std.proofs.Common.{sym, ap, ◌∙◌, subst, nat_eq, get_or-set_same, get_or-set_other, length-set, length-drop, get_or-drop}
use Rattle.std.proofs.Common.{if◌then◌else◌}
use Rattle.std.specs.Prelude.{slice_index, slice_set, get_or}
use Rattle.std.proofs.lemmas.Bool.Decides.{nat_tests}
use Rattle.std.proofs.lemmas.List.{get_or_default}
use Rattle.sn_base.specs.Image.{ImageData}
use Rattle.rv_core.specs.declared.state.CoreState.{CoreState}
use Rattle.rv_core.specs.Core.{bare, is_reserved}
use Rattle.sn_model.specs.declared.net.News.{News}
use Rattle.sn_model.specs.declared.net.News.TheVariants as told
use Rattle.sn_model.specs.Caches.{block_count}
use Rattle.sn_model.specs.Fabric.{Fabric, node_at}
use Rattle.sn_model.specs.Machine.{State, Processor, processor_at, with_processor, first_processor}
use Rattle.sn_model.specs.MachineEvents.{state_after_news, core_without_reservation, without_reservation, processor_with_freed, checkpoint_of}
use Rattle.sn_model.specs.Trace.{TraceEntry}
use Rattle.sn_coherence.specs.Records.{Records, unreserves, hears}
use Rattle.sn_consistency.specs.Entries.{Entry}
use Rattle.sn_consistency.specs.Outline as sorted
use Rattle.fabric_bounds.specs.Recorded.{KeepsRecords, heard_by}
use Rattle.consistent_cuts.specs.Outlines.{outline_of, interval_of, start_places}
use Rattle.consistent_cuts.specs.RunInvariant.{RunInvariant}
use Rattle.consistent_cuts.proofs.Clocks.{IsSameClocks}
use Rattle.consistent_cuts.proofs.Hearings.{IsNews, Rightly}
use Rattle.consistent_cuts.proofs.Outlines.{IsSameHistory, same_history, less_keeps, news_keeps}
use Rattle.consistent_cuts.proofs.Traced.{traced_same}

-- the machine with this fabric, of which the rest has heard this
abbrev pub hearing_of : State → Fabric → Option News → State
hearing_of s fabric told = record (state_after_news s told) { fabric = fabric }

-- a processor in its place
module _ (s : State) (n : ℕ) (processor : Processor) (l : n < length s.processors) where
  pub at_itself : processor_at (with_processor s n processor) n ≡ processor
  at_itself = get_or-set_same s.processors n processor (first_processor 0 0) l

  pub at_other : (m : ℕ) → m ≢ n → processor_at (with_processor s n processor) m ≡ processor_at s m
  at_other m d = get_or-set_other s.processors n m processor (first_processor 0 0) d

  pub at_each : (P : ℕ → Processor → Type 0) → P n processor → ((m : ℕ) → m ≢ n → P m (processor_at s m)) → (m : ℕ) →
      P m (processor_at (with_processor s n processor) m)
  at_each P here there m = go (nat_eq m n) refl
    where
      go : (b : Bool) → nat_eq m n ≡ b → P m (processor_at (with_processor s n processor) m)
      go true e =
          let i : m ≡ n = grind (arith, nat_tests) in
          subst (λ k. P k (processor_at (with_processor s n processor) k)) (sym i) (subst (P n) (sym at_itself) here)
      go false e = let d : m ≢ n = grind (arith, nat_tests) in subst (P m) (sym (at_other m d)) (there m d)

-- a core without its reservation on a block
pub unreserved_bare : (core : CoreState) (block : ℕ) → bare (core_without_reservation core block) ≡ bare core
unreserved_bare core block = grind arith

pub unreserved_is : (core : CoreState) (block b : ℕ) →
    is_reserved (core_without_reservation core block).reservation b ≡ cond (nat_eq b block) false (is_reserved core.reservation b)
unreserved_is core block b = go core.reservation refl
  where
    go : (x : Option ℕ) → core.reservation ≡ x →
        is_reserved (core_without_reservation core block).reservation b ≡ cond (nat_eq b block) false (is_reserved core.reservation b)
    go None i = grind (arith, nat_tests)
    go (Some r) i = grind (arith, nat_tests)

-- a checkpoint that is kept doesn't depend on the core
pub kept_checkpoint : (xs : List CoreState) (k : ℕ) (c d : CoreState) → k < length xs → get_or xs k c ≡ get_or xs k d
kept_checkpoint xs k c d l = get_or_default xs k c d l

-- the same with a number of nodes that is the same
pub recount : (image : ImageData) (N M : ℕ) (m : sorted.Outline) → M ≡ N → sorted.Keeps image N (start_places image N) m →
    sorted.Keeps image M (start_places image M) m
recount image N M m e k = subst (λ x. sorted.Keeps image x (start_places image x) m) (sym e) k

-- what is heard changes no history
heard_lost : (r : ℕ → Records) (n block : ℕ) → IsSameHistory r (λ b. heard_by (Some (told.LostCopy n block)) b (r b))
heard_lost r n block = record {
  content = λ b j. below_same b j (nat_eq b block);
  value = λ b. value_same b (nat_eq b block);
  last_write = λ b. write_same b (nat_eq b block);
  last_access = λ b m. access_same b m (nat_eq b block);
}
  where
    below_same : (b j : ℕ) (c : Bool) → (r b).below j ≡ (if c then unreserves (r b) n else r b).below j
    below_same b j true = refl
    below_same b j false = refl

    value_same : (b : ℕ) (c : Bool) → (r b).value ≡ (if c then unreserves (r b) n else r b).value
    value_same b true = refl
    value_same b false = refl

    write_same : (b : ℕ) (c : Bool) → (r b).last_write ≡ (if c then unreserves (r b) n else r b).last_write
    write_same b true = refl
    write_same b false = refl

    access_same : (b m : ℕ) (c : Bool) → (r b).last_access m ≡ (if c then unreserves (r b) n else r b).last_access m
    access_same b m true = refl
    access_same b m false = refl

module _ (image : ImageData) (s : State) (r : ℕ → Records) (list : ℕ → List Entry) (trace : List TraceEntry) (j : RunInvariant image s r list trace) (f : Fabric) where
  abbrev N : ℕ
  N = length s.fabric.nodes

  there : (e : ℕ) → e < N → e < length s.processors
  there e l = let a = j.shape.processors in omega (arith, a, l)

  -- nothing is heard
  module _ (c : IsSameClocks s.fabric f) (k : KeepsRecords f (λ b. heard_by None b (r b))) where
    nothing_heard : RunInvariant image (hearing_of s f None) (λ b. heard_by None b (r b)) list trace
    nothing_heard = record {
      fabric = k;
      shape = record {
        processors = j.shape.processors ∙ sym c.count;
        reported = j.shape.reported ∙ sym c.count;
        checkpoints =
            λ n l. let a = j.shape.checkpoints n (omega (arith, l, c.count)) in let b = c.known n in let d = c.now n in
            omega (arith, a, b, d);
        taken = λ n l. j.shape.taken n (omega (arith, l, c.count));
      };
      agrees = record {
        reserved = λ b n lb ln. j.agrees.reserved b n lb (omega (arith, ln, c.count));
        reported = λ b n lb ln. j.agrees.reported b n lb (omega (arith, ln, c.count));
      };
      sorted = recount image N (length f.nodes) (outline_of (hearing_of s f None) (λ b. heard_by None b (r b)) list) c.count
          (less_keeps image N (start_places image N) s (hearing_of s f None) r (λ b. heard_by None b (r b)) list j.sorted (same_history r) c
          (record { core = λ n. refl; given = λ n. refl; taken = λ n. refl }) (λ n b h. h)
          (λ n i l u. ap (λ x. checkpoint_of (processor_at s n) x i) (c.known n)));
      traced = traced_same trace s (hearing_of s f None) j.traced c.point refl refl refl refl;
      made = j.made;
    }

  -- node e lost its copy of a block
  module _ (e block : ℕ) (l : e < N) (c : IsSameClocks s.fabric f) (k : KeepsRecords f (λ b. heard_by (Some (told.LostCopy e block)) b (r b))) where
    abbrev without : State
    without = hearing_of s f (Some (told.LostCopy e block))

    abbrev each : (P : ℕ → Processor → Type 0) → P e (without_reservation (processor_at s e) block) →
        ((m : ℕ) → m ≢ e → P m (processor_at s m)) → (m : ℕ) → P m (processor_at without m)
    each = at_each s e (without_reservation (processor_at s e) block) (there e l)

    bare_each : (m : ℕ) → bare (processor_at s m).core ≡ bare (processor_at without m).core
    bare_each = each (λ m p. bare (processor_at s m).core ≡ bare p.core) (sym (unreserved_bare (processor_at s e).core block)) (λ m d. refl)

    given_each : (m : ℕ) → (processor_at s m).given ≡ (processor_at without m).given
    given_each = each (λ m p. (processor_at s m).given ≡ p.given) refl (λ m d. refl)

    kept_each : (m : ℕ) → (processor_at without m).checkpoints ≡ (processor_at s m).checkpoints
    kept_each = each (λ m p. p.checkpoints ≡ (processor_at s m).checkpoints) refl (λ m d. refl)

    fewer_here : (b : ℕ) → is_reserved (core_without_reservation (processor_at s e).core block).reservation b ≡ true →
        is_reserved (processor_at s e).core.reservation b ≡ true
    fewer_here b h = let a = unreserved_is (processor_at s e).core block b in grind (arith, nat_tests)

    fewer : (m b : ℕ) → is_reserved (processor_at without m).core.reservation b ≡ true →
        is_reserved (processor_at s m).core.reservation b ≡ true
    fewer =
        each (λ m p. (b : ℕ) → is_reserved p.core.reservation b ≡ true →
        is_reserved (processor_at s m).core.reservation b ≡ true) fewer_here (λ m d b h. h)

    checkpoint_each : (m i : ℕ) → (node_at s.fabric m).known ≤ i → i ≤ interval_of s.fabric m →
        checkpoint_of (processor_at without m) (node_at f m).known i ≡ checkpoint_of (processor_at s m) (node_at s.fabric m).known i
    checkpoint_each =
        each (λ m p. (i : ℕ) → (node_at s.fabric m).known ≤ i → i ≤ interval_of s.fabric m →
        checkpoint_of p (node_at f m).known i ≡ checkpoint_of (processor_at s m) (node_at s.fabric m).known i)
        (λ i low up. ap (λ x. get_or (processor_at s e).checkpoints (i - x) (core_without_reservation (processor_at s e).core block)) (c.known e)
        ∙ kept_checkpoint (processor_at s e).checkpoints (i - (node_at s.fabric e).known) (core_without_reservation (processor_at s e).core block)
        (processor_at s e).core (inside i low up))
        (λ m d i low up. ap (λ x. checkpoint_of (processor_at s m) x i) (c.known m))
      where
        interval : interval_of s.fabric e ≡ (node_at s.fabric e).now
        interval = grind (arith, nat_tests)

        inside : (i : ℕ) → (node_at s.fabric e).known ≤ i → i ≤ interval_of s.fabric e →
            i - (node_at s.fabric e).known < length (processor_at s e).checkpoints
        inside i low up = let a = j.shape.checkpoints e l in let b = interval in omega (arith, a, b, low, up)

    reserved_here : (b : ℕ) → b < block_count →
        (heard_by (Some (told.LostCopy e block)) b (r b)).reserved e ≡ is_reserved (core_without_reservation (processor_at s e).core block).reservation b
    reserved_here b lb = go (nat_eq b block) refl
      where
        go : (q : Bool) → nat_eq b block ≡ q →
            (if q then unreserves (r b) e else r b).reserved e ≡ is_reserved (core_without_reservation (processor_at s e).core block).reservation b
        go true i = let a = unreserved_is (processor_at s e).core block b in grind (arith, nat_tests)
        go false i = let a = unreserved_is (processor_at s e).core block b in let d = j.agrees.reserved b e lb l in grind (arith, nat_tests)

    reserved_there : (b m : ℕ) (q : Bool) → m ≢ e → (if q then unreserves (r b) e else r b).reserved m ≡ (r b).reserved m
    reserved_there b m true d = grind (arith, nat_tests)
    reserved_there b m false d = refl

    reported_same : (b m : ℕ) (q : Bool) → (if q then unreserves (r b) e else r b).reported m ≡ (r b).reported m
    reported_same b m true = refl
    reported_same b m false = refl

    copy_lost : RunInvariant image without (λ b. heard_by (Some (told.LostCopy e block)) b (r b)) list trace
    copy_lost = record {
      fabric = k;
      shape = record {
        processors = length-set s.processors e (without_reservation (processor_at s e) block) ∙ j.shape.processors ∙ sym c.count;
        reported = j.shape.reported ∙ sym c.count;
        checkpoints =
            λ n ln. let a = j.shape.checkpoints n (omega (arith, ln, c.count)) in let b = c.known n in let d = c.now n in
            let g = ap length (kept_each n) in omega (arith, a, b, d, g);
        taken = λ n ln. let a = j.shape.taken n (omega (arith, ln, c.count)) in let g = ap length (given_each n) in omega (arith, a, g);
      };
      agrees = record {
        reserved = λ b n lb ln. reserved_each b lb n (omega (arith, ln, c.count));
        reported = λ b n lb ln. reported_same b n (nat_eq b block) ∙ j.agrees.reported b n lb (omega (arith, ln, c.count));
      };
      sorted = recount image N (length f.nodes) (outline_of without (λ b. heard_by (Some (told.LostCopy e block)) b (r b)) list) c.count
          (less_keeps image N (start_places image N) s without r (λ b. heard_by (Some (told.LostCopy e block)) b (r b)) list j.sorted
          (heard_lost r e block) c
          (record { core = bare_each; given = given_each; taken = λ n. refl }) fewer checkpoint_each);
      traced = traced_same trace s without j.traced c.point refl refl refl refl;
      made = j.made;
    }
      where
        reserved_each : (b : ℕ) → b < block_count → (n : ℕ) → n < N →
            (heard_by (Some (told.LostCopy e block)) b (r b)).reserved n ≡ is_reserved (processor_at without n).core.reservation b
        reserved_each b lb =
            each (λ n p. n < N → (heard_by (Some (told.LostCopy e block)) b (r b)).reserved n ≡ is_reserved p.core.reservation b)
            (λ ln. reserved_here b lb) (λ m d ln. reserved_there b m (nat_eq b block) d ∙ j.agrees.reserved b m lb ln)

  -- the controller heard k from node e
  module _ (e k : ℕ) (l : e < N) (c : IsSameClocks s.fabric f) (kept : KeepsRecords f (λ b. heard_by (Some (told.Ready e k)) b (r b))) where
    abbrev with_report : State
    with_report = hearing_of s f (Some (told.Ready e k))

    reported_each : (b n : ℕ) → b < block_count → n < N →
        (hears (r b) e k).reported n ≡ slice_index (slice_set s.reported e (max (slice_index s.reported e) k)) n
    reported_each b n lb ln =
        let a = j.agrees.reported b n lb ln in let g = j.agrees.reported b e lb l in let h = j.shape.reported in
        grind (arith, nat_tests, get_or-set_same, get_or-set_other)

    report_heard : RunInvariant image with_report (λ b. heard_by (Some (told.Ready e k)) b (r b)) list trace
    report_heard = record {
      fabric = kept;
      shape = record {
        processors = j.shape.processors ∙ sym c.count;
        reported = length-set s.reported e (max (slice_index s.reported e) k) ∙ j.shape.reported ∙ sym c.count;
        checkpoints =
            λ n ln. let a = j.shape.checkpoints n (omega (arith, ln, c.count)) in let b = c.known n in let d = c.now n in
            omega (arith, a, b, d);
        taken = λ n ln. j.shape.taken n (omega (arith, ln, c.count));
      };
      agrees = record {
        reserved = λ b n lb ln. j.agrees.reserved b n lb (omega (arith, ln, c.count));
        reported = λ b n lb ln. reported_each b n lb (omega (arith, ln, c.count));
      };
      sorted = recount image N (length f.nodes) (outline_of with_report (λ b. heard_by (Some (told.Ready e k)) b (r b)) list) c.count
          (less_keeps image N (start_places image N) s with_report r (λ b. heard_by (Some (told.Ready e k)) b (r b)) list j.sorted
          (record { content = λ b i. refl; value = λ b. refl; last_write = λ b. refl; last_access = λ b n. refl }) c
          (record { core = λ n. refl; given = λ n. refl; taken = λ n. refl }) (λ n b h. h)
          (λ n i low up. ap (λ x. checkpoint_of (processor_at s n) x i) (c.known n)));
      traced = traced_same trace s with_report j.traced c.point refl refl refl refl;
      made = j.made;
    }

  -- node e heard of point k
  module _ (e k : ℕ) (l : e < N) (low : k ≤ s.fabric.point) (c : IsNews s.fabric f e k) (kept : KeepsRecords f (λ b. heard_by (Some (told.Advance e k)) b (r b))) where
    abbrev with_news : State
    with_news = hearing_of s f (Some (told.Advance e k))

    abbrev less : Processor
    less = processor_with_freed (processor_at s e) (node_at s.fabric e).known k

    abbrev each_news : (P : ℕ → Processor → Type 0) → P e less → ((m : ℕ) → m ≢ e → P m (processor_at s m)) → (m : ℕ) →
        P m (processor_at with_news m)
    each_news = at_each s e less (there e l)

    core_same : (m : ℕ) → (processor_at s m).core ≡ (processor_at with_news m).core
    core_same = each_news (λ m p. (processor_at s m).core ≡ p.core) refl (λ m d. refl)

    given_same : (m : ℕ) → (processor_at s m).given ≡ (processor_at with_news m).given
    given_same = each_news (λ m p. (processor_at s m).given ≡ p.given) refl (λ m d. refl)

    point_low : s.fabric.point ≤ (node_at s.fabric e).now
    point_low = let a = j.sorted.point_interval e in grind (arith, nat_tests)

    known_there : (m : ℕ) → m ≢ e → (node_at f m).known ≡ (node_at s.fabric m).known
    known_there m d = let a = c.known m in grind (arith, nat_tests)

    known_here : (node_at f e).known ≡ max (node_at s.fabric e).known k
    known_here = let a = c.known e in grind (arith, nat_tests)

    count_each : (m : ℕ) → m < N → (node_at f m).known + length (processor_at with_news m).checkpoints ≡ (node_at s.fabric m).now + 1
    count_each = each_news (λ m p. m < N → (node_at f m).known + length p.checkpoints ≡ (node_at s.fabric m).now + 1)
        (λ ln. let a = j.shape.checkpoints e l in let b = known_here in let d = point_low in
        let g = length-drop (k - (node_at s.fabric e).known) (processor_at s e).checkpoints in omega (arith, a, b, d, g, low))
        (λ m d ln. let a = j.shape.checkpoints m ln in let b = known_there m d in omega (arith, a, b))

    checkpoint_news : (m i : ℕ) → (node_at f m).known ≤ i → i ≤ interval_of s.fabric m →
        checkpoint_of (processor_at with_news m) (node_at f m).known i ≡ checkpoint_of (processor_at s m) (node_at s.fabric m).known i
    checkpoint_news =
        each_news (λ m p. (i : ℕ) → (node_at f m).known ≤ i → i ≤ interval_of s.fabric m →
        checkpoint_of p (node_at f m).known i ≡ checkpoint_of (processor_at s m) (node_at s.fabric m).known i)
        (λ i lo up. get_or-drop (k - (node_at s.fabric e).known) (processor_at s e).checkpoints (i - (node_at f e).known)
        (processor_at s e).core ∙ ap (λ x. get_or (processor_at s e).checkpoints x (processor_at s e).core) (place i lo))
        (λ m d i lo up. ap (λ x. checkpoint_of (processor_at s m) x i) (known_there m d))
      where
        place : (i : ℕ) → (node_at f e).known ≤ i →
            (k - (node_at s.fabric e).known) + (i - (node_at f e).known) ≡ i - (node_at s.fabric e).known
        place i lo = let a = known_here in omega (arith, a, lo)

    interval_same : (n : ℕ) → interval_of f n ≡ interval_of s.fabric n
    interval_same n = let a = c.count in let b = c.now n in let d = c.point in grind arith

    known_same : (n : ℕ) → (node_at f n).known ≡ (sorted.outline_after_news (outline_of s r list) e k).known n
    known_same n = let a = c.known n in grind (arith, nat_tests)

    news_heard : RunInvariant image with_news (λ b. heard_by (Some (told.Advance e k)) b (r b)) list trace
    news_heard = record {
      fabric = kept;
      shape = record {
        processors = length-set s.processors e less ∙ j.shape.processors ∙ sym c.count;
        reported = j.shape.reported ∙ sym c.count;
        checkpoints = λ n ln. let a = count_each n (omega (arith, ln, c.count)) in let d = c.now n in omega (arith, a, d);
        taken = λ n ln. let a = j.shape.taken n (omega (arith, ln, c.count)) in let g = ap length (given_same n) in omega (arith, a, g);
      };
      agrees = record {
        reserved = λ b n lb ln. j.agrees.reserved b n lb (omega (arith, ln, c.count)) ∙ ap (λ x. is_reserved x.reservation b) (core_same n);
        reported = λ b n lb ln. j.agrees.reported b n lb (omega (arith, ln, c.count));
      };
      sorted = recount image N (length f.nodes) (outline_of with_news (λ b. heard_by (Some (told.Advance e k)) b (r b)) list) c.count
          (news_keeps image N (start_places image N) s with_news r (λ b. heard_by (Some (told.Advance e k)) b (r b)) list j.sorted
          (same_history r) e k
          (record { core = λ n. ap bare (core_same n); given = given_same; taken = λ n. refl }) low c.point interval_same known_same
          (λ n b. ap (λ x. is_reserved x.reservation b) (core_same n)) checkpoint_news);
      traced = traced_same trace s with_news j.traced c.point refl refl refl refl;
      made = j.made;
    }

  -- whatever is heard
  pub hearing_joins : (x : Option News) → Rightly s.fabric f x → KeepsRecords f (λ b. heard_by x b (r b)) →
      RunInvariant image (hearing_of s f x) (λ b. heard_by x b (r b)) list trace
  hearing_joins None right k = nothing_heard right k
  hearing_joins (Some (told.LostCopy e block)) right k = copy_lost e block right.0 right.1 k
  hearing_joins (Some (told.Ready e n)) right k = report_heard e n right.0 right.1 k
  hearing_joins (Some (told.Advance e n)) right k = news_heard e n right.0 right.1 right.2 k
