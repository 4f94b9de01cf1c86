-- A validation and a recovery keep what is joined.
use Rattle.std.proofs.Common.{◌≡◌, ℕ, zero, suc, ◌+◌, ◌-◌, ◌<◌, ◌≤◌, Bool, true, false, List, [], ◌∷◌, ◌++◌, length, map, drop, arith, refl}
use Rattle.std.proofs.Common.{sym, ap, ◌∙◌, subst, nat_lt, length-append}
use Rattle.std.specs.Prelude.{slice_index_or, slice_index, get_or}
use Rattle.std.proofs.lemmas.Bool.Decides.{nat_tests}
use Rattle.std.proofs.lemmas.List.{get_or-map}
use Rattle.std.proofs.Math.ListN.{get_or-eq_default}
use Rattle.std.proofs.Math.Seq.{drop-append_seam}
use Rattle.sn_base.specs.Image.{ImageData}
use Rattle.rv_core.specs.declared.state.CoreState.{CoreState}
use Rattle.rv_core.specs.Core.{bare, is_reserved, start_of}
use Rattle.rv_core.specs.Flat.{flat_start, first_cores, core_at}
use Rattle.rv_core.specs.Execution.{in_of}
use Rattle.sn_model.specs.Fabric.{Fabric, first_node, node_at}
use Rattle.sn_model.specs.Machine.{State, Processor, Retirement, first_processor, processor_at}
use Rattle.sn_model.specs.Instructions.{taken_by, records_of}
use Rattle.sn_model.specs.MachineEvents.{committed_next, restored_rest, restored_processor, restored_processors, checkpoint_of}
use Rattle.sn_model.specs.PointEvents.{fabric_restored_to, restored_node, restored_homes, restored_net}
use Rattle.sn_model.specs.Trace.{TraceEntry}
use Rattle.sn_coherence.specs.Records.{Records, rolls_back}
use Rattle.sn_consistency.specs.Entries.{Entry}
use Rattle.sn_consistency.specs.Sorted.{at_cut, entries_below_cut}
use Rattle.sn_consistency.specs.Committed.{records_committed}
use Rattle.sn_consistency.proofs.CommittedPart.{in_of-append, committed_reads}
use Rattle.sn_consistency.proofs.Outline.{given_begins}
use Rattle.sn_consistency.proofs.Others.{cut_bare}
use Rattle.sn_consistency.proofs.Start.{start_shows}
use Rattle.fabric_bounds.specs.Recorded.{KeepsRecords}
use Rattle.consistent_cuts.specs.Outlines.{outline_of, start_places}
use Rattle.consistent_cuts.specs.RunInvariant.{RunInvariant}
use Rattle.consistent_cuts.proofs.Hears.{recount}
use Rattle.consistent_cuts.proofs.Made.{made_recovered, committed_sorted, reads_parted}
use Rattle.consistent_cuts.proofs.Outlines.{same_history, validation_keeps, recovery_keeps}
use Rattle.consistent_cuts.proofs.Traced.{traced_validated, traced_recovered, before, in_interval, elsewhere}

-- a number that is no node's has the first core for each checkpoint, and knows of no point
module _ (image : ImageData) (u : State) (N n k : ℕ) (high : N ≤ n) (nodes : length u.fabric.nodes ≡ N) (processors : length u.processors ≡ N) where
  nobodys_node : node_at u.fabric n ≡ first_node
  nobodys_node = get_or-eq_default u.fabric.nodes first_node (omega (arith, high, nodes))

  nobodys_processor : processor_at u n ≡ first_processor 0 0
  nobodys_processor = get_or-eq_default u.processors (first_processor 0 0) (omega (arith, high, processors))

  one_checkpoint : (i : ℕ) → get_or (start_of 0 0 ∷ []) i (start_of 0 0) ≡ start_of 0 0
  one_checkpoint zero = refl
  one_checkpoint (suc i) = refl

  nobodys_core : core_at (flat_start image N) n ≡ start_of 0 0
  nobodys_core =
      get_or-eq_default (first_cores N image.entry) (start_of 0 0) (let a = (start_shows image N).count in omega (arith, a, high))

  pub nobodys : ((node_at u.fabric n).known ≡ 0) × (checkpoint_of (processor_at u n) 0 k ≡ (start_places image N).core n)
  nobodys = (
    ap (λ x. x.known) nobodys_node,
    ap (λ p. checkpoint_of p 0 k) nobodys_processor ∙ one_checkpoint (k - 0) ∙ ap bare (sym nobodys_core),
  )

module _ (image : ImageData) (s : State) (r : ℕ → Records) (list : ℕ → List Entry) (trace : List TraceEntry) (j : RunInvariant image s r list trace) where
  abbrev N : ℕ
  N = length s.fabric.nodes

  -- the point rises by one
  module _ (f : Fabric) (nodes : f.nodes ≡ s.fabric.nodes) (point : f.point ≡ s.fabric.point + 1) (reached : (n : ℕ) → n < N → s.fabric.point + 1 ≤ (node_at s.fabric n).now) where
    abbrev next : State
    next = record (committed_next s) { fabric = f }

    count : length f.nodes ≡ N
    count = ap length nodes

    node_same : (n : ℕ) → node_at f n ≡ node_at s.fabric n
    node_same n = ap (λ ns. slice_index_or ns n first_node) nodes

    abbrev leaves : List Retirement
    leaves = in_interval s.fabric.point s.pending

    abbrev stays : List Retirement
    stays = elsewhere s.fabric.point s.pending

    taken_same : (n : ℕ) → taken_by s n ≡ taken_by next n
    taken_same n =
        let a : length (in_of n (s.committed ++ records_of leaves)) ≡ length (in_of n s.committed) + length (in_of n (records_of leaves)) =
        ap length (in_of-append n s.committed (records_of leaves)) ∙ length-append (in_of n s.committed) (in_of n (records_of leaves)) in
        let b = reads_parted n s.fabric.point s.pending in
        omega (arith, a, b)

    pub validation_joins : KeepsRecords f r → RunInvariant image next r list trace
    validation_joins k = record {
      fabric = k;
      shape = record {
        processors = j.shape.processors ∙ sym count;
        reported = j.shape.reported ∙ sym count;
        checkpoints =
            λ n ln. let a = j.shape.checkpoints n (omega (arith, ln, count)) in let b = ap (λ x. x.known) (node_same n) in
            let d = ap (λ x. x.now) (node_same n) in omega (arith, a, b, d);
        taken = λ n ln. let a = j.shape.taken n (omega (arith, ln, count)) in let g = taken_same n in omega (arith, a, g);
      };
      agrees = record {
        reserved = λ b n lb ln. j.agrees.reserved b n lb (omega (arith, ln, count));
        reported = λ b n lb ln. j.agrees.reported b n lb (omega (arith, ln, count));
      };
      sorted = recount image N (length f.nodes) (outline_of next r list) count
          (validation_keeps image N (start_places image N) s next r r list j.sorted (same_history r)
          (record { core = λ n. refl; given = λ n. refl; taken = taken_same }) refl
          (λ n i high. nobodys image next N n i high count j.shape.processors) count (omega (arith, point))
          (λ n ln. let a = reached n ln in omega (arith, a)) (λ n ln. ap (λ x. x.now) (node_same n))
          (λ n ln. ap (λ x. x.known) (node_same n)) (λ n b. refl)
          (λ n i ln. ap (λ x. checkpoint_of (processor_at s n) x i) (ap (λ x. x.known) (node_same n))));
      traced = traced_validated trace s next j.traced point refl refl refl refl;
      made = j.made;
    }

-- a recovery: what the lists of nodes and processors have then

restored_at : (fabric : Fabric) (k n : ℕ) (ps : List Processor) (i : ℕ) (d : Processor) → i < length ps →
    get_or (restored_processors fabric k n ps) i d ≡ restored_processor (get_or ps i d) (node_at fabric (n + i)).known k
restored_at fabric k n [] i d l = absurd (omega (arith, l))
restored_at fabric k n (p ∷ ps) zero d l = let e : n ≡ n + zero = omega arith in ap (λ x. restored_processor p (node_at fabric x).known k) e
restored_at fabric k n (p ∷ ps) (suc i) d l =
    let e : n + 1 + i ≡ n + suc i = omega arith in
    restored_at fabric k (n + 1) ps i d (omega (arith, l)) ∙ ap (λ x. restored_processor (get_or ps i d) (node_at fabric x).known k) e

pub restored_count : (fabric : Fabric) (k n : ℕ) (ps : List Processor) → length (restored_processors fabric k n ps) ≡ length ps
restored_count fabric k n [] = refl
restored_count fabric k n (p ∷ ps) = ap suc (restored_count fabric k (n + 1) ps)

pub map_count : {A B : Type 0} (f : A → B) (xs : List A) → length (map f xs) ≡ length xs
map_count f [] = refl
map_count f (x ∷ xs) = ap suc (map_count f xs)

-- the fabric and the rest as a recovery leaves them
abbrev pub restored_fabric : State → Fabric
restored_fabric s =
    record s.fabric {
      nodes = map (restored_node s.fabric.point) s.fabric.nodes;
      homes = restored_homes s.fabric s.fabric.point 0 s.fabric.homes;
      net = restored_net s.fabric.net;
    }

abbrev pub restored_state : State → State
restored_state s = record s {
  fabric = restored_fabric s;
  processors = restored_processors s.fabric s.fabric.point 0 s.processors;
  reported = map (λ (k : ℕ). s.fabric.point) s.reported;
  pending = [];
  held = [];
}

pub restored_is : (s : State) → record (restored_rest s) { fabric = fabric_restored_to s.fabric s.fabric.point } ≡ restored_state s
unfolding fabric_restored_to restored_rest
restored_is s = refl

module _ (image : ImageData) (s : State) (r : ℕ → Records) (list : ℕ → List Entry) (trace : List TraceEntry) (j : RunInvariant image s r list trace) where
  abbrev M : ℕ
  M = length s.fabric.nodes

  abbrev point : ℕ
  point = s.fabric.point

  abbrev u : State
  u = restored_state s

  pub count_nodes : length u.fabric.nodes ≡ M
  count_nodes = map_count (restored_node point) s.fabric.nodes

  count_processors : length u.processors ≡ M
  count_processors = restored_count s.fabric point 0 s.processors ∙ j.shape.processors

  abbrev pub checkpoint : ℕ → CoreState
  checkpoint n = checkpoint_of (processor_at s n) (node_at s.fabric n).known point

  -- a checkpoint has no reservation
  at_point : (n : ℕ) → (at_cut image (start_places image M) list point).core n ≡ checkpoint n
  at_point n = j.sorted.checkpoint n point (j.sorted.known_point n) (j.sorted.point_interval n)

  checkpoint_bare : (n : ℕ) → bare (checkpoint n) ≡ checkpoint n
  checkpoint_bare n = ap bare (sym (at_point n)) ∙ cut_bare image (start_places image M) (λ i. refl) list point n ∙ at_point n

  pub node_is : (n : ℕ) → n < M → node_at u.fabric n ≡ restored_node point (node_at s.fabric n)
  node_is n l = get_or-map (restored_node point) s.fabric.nodes n first_node first_node l

  pub processor_is : (n : ℕ) → n < M → processor_at u n ≡ restored_processor (processor_at s n) (node_at s.fabric n).known point
  processor_is n l =
      let e : 0 + n ≡ n = omega arith in
      restored_at s.fabric point 0 s.processors n (first_processor 0 0) (let a = j.shape.processors in omega (arith, a, l))
      ∙ ap (λ x. restored_processor (processor_at s n) (node_at s.fabric x).known point) e

  nobody_is : (n : ℕ) → M ≤ n → processor_at u n ≡ processor_at s n
  nobody_is n h =
      nobodys_processor image u M n 0 h count_nodes count_processors ∙ sym (nobodys_processor image s M n 0 h refl j.shape.processors)

  by_node : (P : ℕ → Processor → Type 0) →
      ((n : ℕ) → n < M → P n (restored_processor (processor_at s n) (node_at s.fabric n).known point)) →
      ((n : ℕ) → M ≤ n → P n (processor_at s n)) → (n : ℕ) → P n (processor_at u n)
  by_node P inside outside n = go (nat_lt n M) refl
    where
      go : (q : Bool) → nat_lt n M ≡ q → P n (processor_at u n)
      go true e = let l : n < M = grind (arith, nat_tests) in subst (P n) (sym (processor_is n l)) (inside n l)
      go false e = let h : M ≤ n = grind (arith, nat_tests) in subst (P n) (sym (nobody_is n h)) (outside n h)

  nobody_checkpoint : (n : ℕ) → M ≤ n → (processor_at s n).core ≡ checkpoint n
  nobody_checkpoint n h =
      let p = nobodys_processor image s M n 0 h refl j.shape.processors in
      ap (λ x. x.core) p ∙ sym (one_checkpoint image s M n 0 h refl j.shape.processors (point - (node_at s.fabric n).known))
      ∙ ap (λ x. checkpoint_of x (node_at s.fabric n).known point) (sym p)

  core_is : (n : ℕ) → bare (processor_at u n).core ≡ checkpoint n
  core_is =
      by_node (λ n p. bare p.core ≡ checkpoint n) (λ n l. checkpoint_bare n) (λ n h. ap bare (nobody_checkpoint n h) ∙ checkpoint_bare n)

  none_reserved : (c : CoreState) (b : ℕ) → bare c ≡ c → is_reserved c.reservation b ≡ false
  none_reserved c b e = ap (λ x. is_reserved x.reservation b) (sym e)

  free : (n b : ℕ) → is_reserved (processor_at u n).core.reservation b ≡ false
  free = by_node (λ n p. (b : ℕ) → is_reserved p.core.reservation b ≡ false) (λ n l b. none_reserved (checkpoint n) b (checkpoint_bare n))
      (λ n h b. ap (λ x. is_reserved x.reservation b) (nobody_checkpoint n h) ∙ none_reserved (checkpoint n) b (checkpoint_bare n))

  pub given_is : (n : ℕ) → (processor_at s n).given ≡ (processor_at u n).given
  given_is = by_node (λ n p. (processor_at s n).given ≡ p.given) (λ n l. refl) (λ n h. refl)

  pub known_is : (n : ℕ) → n < M → (node_at u.fabric n).known ≡ point
  known_is n l = ap (λ x. x.known) (node_is n l)

  pub now_is : (n : ℕ) → n < M → (node_at u.fabric n).now ≡ point
  now_is n l = ap (λ x. x.now) (node_is n l)

  first_of_one : (i k : ℕ) (c : CoreState) → i ≡ k → get_or (c ∷ []) (k - i) c ≡ c
  first_of_one i k c e = let z : k - i ≡ 0 = omega (arith, e) in ap (λ x. get_or (c ∷ []) x c) z

  checkpoint_is : (n : ℕ) → n < M → checkpoint_of (processor_at u n) (node_at u.fabric n).known point ≡ checkpoint n
  checkpoint_is n l =
      ap (λ p. checkpoint_of p (node_at u.fabric n).known point) (processor_is n l)
      ∙ first_of_one (node_at u.fabric n).known point (checkpoint n) (known_is n l)

  -- what was committed is what a node has taken
  committed_is : records_committed list point ≡ s.committed
  committed_is = committed_sorted image list trace j.made point ∙ sym j.traced.committed

  pub taken_is : (n : ℕ) → taken_by u n ≡ length (in_of n s.committed)
  taken_is n = omega arith

  left : (n : ℕ) → (processor_at s n).given ≡ (at_cut image (start_places image M) list point).taken n
      ++ drop (taken_by u n) (processor_at u n).given
  left n =
      let b = given_begins image M (start_places image M) (outline_of s r list) j.sorted n refl in
      let is : (processor_at s n).given ≡ in_of n s.committed ++ b.more = b.is ∙ ap (λ rs. in_of n rs ++ b.more) committed_is in
      let read : (at_cut image (start_places image M) list point).taken n
      ≡ in_of n s.committed = committed_reads image (start_places image M) list n point ∙ ap (in_of n) committed_is in
      let rest : drop (taken_by u n) (processor_at u n).given ≡ b.more =
      ap (λ k. drop k (processor_at u n).given) (taken_is n) ∙ ap (drop (length (in_of n s.committed))) (sym (given_is n) ∙ is)
      ∙ drop-append_seam (in_of n s.committed) b.more in
      is ∙ ap (λ xs. xs ++ b.more) (sym read) ∙ ap (λ xs. (at_cut image (start_places image M) list point).taken n ++ xs) (sym rest)

  enough : (n : ℕ) → taken_by u n ≤ length (processor_at u n).given
  enough n =
      let b = given_begins image M (start_places image M) (outline_of s r list) j.sorted n refl in
      let is : (processor_at u n).given ≡ in_of n s.committed ++ b.more = sym (given_is n) ∙ b.is
      ∙ ap (λ rs. in_of n rs ++ b.more) committed_is in
      let a = ap length is ∙ length-append (in_of n s.committed) b.more in
      let d = taken_is n in
      omega (arith, a, d)

  reported_is : (b n : ℕ) → n < M → (rolls_back (r b) M point).reported n ≡ slice_index u.reported n
  reported_is b n l =
      let a = get_or-map (λ (k : ℕ). point) s.reported n 0 0 (let x = j.shape.reported in omega (arith, x, l)) in
      grind (arith, nat_tests)

  pub recovery_joins : KeepsRecords u.fabric (λ b. rolls_back (r b) M point) →
      RunInvariant image u (λ b. rolls_back (r b) M point) (entries_below_cut list point) (before point trace)
  recovery_joins k = record {
    fabric = k;
    shape = record {
      processors = count_processors ∙ sym count_nodes;
      reported = map_count (λ (k : ℕ). point) s.reported ∙ j.shape.reported ∙ sym count_nodes;
      checkpoints = λ n l. counted n (omega (arith, l, count_nodes));
      taken = λ n l. enough n;
    };
    agrees = record {
      reserved = λ b n lb l. sym (free n b);
      reported = λ b n lb l. reported_is b n (omega (arith, l, count_nodes));
    };
    sorted = recount image M (length u.fabric.nodes) (outline_of u (λ b. rolls_back (r b) M point) (entries_below_cut list point)) count_nodes
        (recovery_keeps image M (start_places image M) s u r list j.sorted
        (λ n i h.
        nobodys image u M n i h count_nodes count_processors) refl count_nodes refl now_is known_is core_is free checkpoint_is given_is left);
    traced = traced_recovered trace s u j.traced refl refl refl refl refl;
    made = made_recovered image list trace j.made point;
  }
    where
      counted : (n : ℕ) → n < M → (node_at u.fabric n).known + length (processor_at u n).checkpoints ≡ (node_at u.fabric n).now + 1
      counted n l =
          let a = known_is n l in let b = now_is n l in let d = ap (λ p. length p.checkpoints) (processor_is n l) in omega (arith, a, b, d)
