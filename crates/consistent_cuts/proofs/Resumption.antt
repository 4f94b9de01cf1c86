-- A recovery leaves just the machine that goes on from what is saved of it.
use Rattle.std.proofs.Common.{◌≡◌, ◌≢◌, ℕ, zero, suc, ◌+◌, ◌<◌, ◌≤◌, Bool, true, false, cond, List, [], ◌∷◌, ◌++◌, length, map, arith, refl, sym, ap}
use Rattle.std.proofs.Common.{◌∙◌, subst, nat_eq, Option, Some, None}
use Rattle.std.specs.Prelude.{get_or, slice_index_or, filter, flat_map, replicate}
use Rattle.std.specs.List.{range_with_len}
use Rattle.std.proofs.lemmas.Bool.Decides.{nat_tests}
use Rattle.std.proofs.lemmas.List.{append-nil, ext_get_or, get_or-map}
use Rattle.std.proofs.lemmas.List.FromFn.{get_or-map-range_with_len, length-map-range_with_len}
use Rattle.sn_base.specs.Image.{ImageData}
use Rattle.sn_base.specs.declared.config.Config.{Config}
use Rattle.sn_base.specs.declared.event.Event.TheVariants as event
use Rattle.rv_core.specs.Core.{bare}
use Rattle.rv_core.specs.Flat.{FlatState, core_at}
use Rattle.rv_core.specs.Execution.{end_of, out_of}
use Rattle.log_buffer.specs.Log.{LogEntry}
use Rattle.route_plan.specs.Routes.{first_cut_off}
use Rattle.sn_model.specs.Caches.{Line, no_line, block_count}
use Rattle.sn_model.specs.Cuts.{holds_at, names_at}
use Rattle.sn_model.specs.Fabric.{Fabric, Node, node_at, home_of, first_node, no_entry}
use Rattle.sn_model.specs.Homes.{Holder, HomeEntry, Itself, OfCache, no_sharers}
use Rattle.sn_model.specs.Machine.{State, Processor, processor_at, first_processor}
use Rattle.sn_model.specs.MachineEvents.{restores, restored_processor, restored_processors}
use Rattle.sn_model.specs.PointEvents.{restored_line, restored_lines, restored_homes, restored_node, restored_net, recovers, living_switches}
use Rattle.sn_model.specs.RecoveryPoint.{HasOneHolderWith, block_in}
use Rattle.sn_model.specs.Step.{step_of}
use Rattle.sn_model.specs.Trace.{TraceEntry}
use Rattle.fabric_bounds.specs.Resumed.{each_below, content_owned, lines_owned, node_resumed, holder_resumed, home_resumed, homes_resumed, fabric_resumed}
use Rattle.fabric_bounds.specs.Resumed.{processor_resumed, resumed}
use Rattle.fabric_bounds.specs.Saved.{owner_named, owners_at, given_from, saved_of, owner_in, given_to}
use Rattle.sn_coherence.specs.Records.{Records}
use Rattle.sn_consistency.specs.Entries.{Entry}
use Rattle.fabric_bounds.proofs.KeptResumed.{length-lines_owned, line_resumed, length-homes_resumed, home_resumed_is}
use Rattle.fabric_bounds.proofs.Recovery.{restored_line_at, restored_home_at}
use Rattle.consistent_cuts.specs.RunInvariant.{RunInvariant, Holds}
use Rattle.consistent_cuts.proofs.Half.{half}
use Rattle.consistent_cuts.proofs.Moments.{cuts, end_register, puts_out}
use Rattle.consistent_cuts.proofs.Points.{restored_state, restored_is, processor_is, map_count, restored_count}

-- the owner that is saved of a block is whom its home names

abbrev owner_of : Holder → Option ℕ
owner_of (Itself content) = None
owner_of (OfCache node) = Some node

named_here : (h : Holder) (a b : ℕ) (rest : List (ℕ × ℕ)) → nat_eq a b ≡ true → owner_in rest b ≡ None →
    owner_in (owner_named a h ++ rest) b ≡ owner_of h
named_here (Itself content) a b rest e n = n
named_here (OfCache node) a b rest e n = rw e refl

named_there : (h : Holder) (a b : ℕ) (rest : List (ℕ × ℕ)) → nat_eq a b ≡ false → owner_in (owner_named a h ++ rest) b ≡ owner_in rest b
named_there (Itself content) a b rest e = refl
named_there (OfCache node) a b rest e = rw e refl

module _ (g : ℕ → Holder) where
  abbrev owners_of : ℕ → ℕ → List (ℕ × ℕ)
  owners_of a n = flat_map (λ x. owner_named x (g x)) (range_with_len a n)

  owners_past : (a n b : ℕ) → b < a → owner_in (owners_of a n) b ≡ None
  owners_past a zero b l = refl
  owners_past a (suc n) b l =
      named_there (g a) a b (owners_of (a + 1) n) (grind (arith, nat_tests)) ∙ owners_past (a + 1) n b (omega (arith, l))

  owners_here : (a n b : ℕ) → a ≤ b → b < a + n → owner_in (owners_of a n) b ≡ owner_of (g b)
  owners_here a zero b l u = absurd (omega (arith, l, u))
  owners_here a (suc n) b l u = go (nat_eq a b) refl (λ m. owners_here (a + 1) n b m (omega (arith, u)))
    where
      go : (q : Bool) → nat_eq a b ≡ q → (a + 1 ≤ b → owner_in (owners_of (a + 1) n) b ≡ owner_of (g b)) →
          owner_in (owners_of a (suc n)) b ≡ owner_of (g b)
      go true e later =
          let i : a ≡ b = grind (arith, nat_tests) in
          named_here (g a) a b (owners_of (a + 1) n) e (owners_past (a + 1) n b (omega (arith, i))) ∙ ap (λ x. owner_of (g x)) i
      go false e later = named_there (g a) a b (owners_of (a + 1) n) e ∙ later (grind (arith, nat_tests))

-- and it has the content of the cut
held_of : (s : Fabric) (b k : ℕ) (content : List ℕ) (h : Holder) → HasOneHolderWith s b k content h → (n : ℕ) → n < length s.nodes →
    holds_at s n b k ≡ content_owned (owner_of h) n content
held_of s b k content (Itself named) one n l = one.1 n l
held_of s b k content (OfCache owner) one n l = go (nat_eq owner n) refl
  where
    go : (q : Bool) → nat_eq owner n ≡ q → holds_at s n b k ≡ cond q (Some content) None
    go true e = let i : owner ≡ n = grind (arith, nat_tests) in subst (λ m. holds_at s m b k ≡ Some content) i one.1
    go false e = one.2 n l (λ i. absurd (grind (arith, nat_tests)))

named_of : (s : Fabric) (b k : ℕ) (content : List ℕ) (h : Holder) → HasOneHolderWith s b k content h →
    h ≡ holder_resumed (owner_of h) content
named_of s b k content (Itself named) one = ap Itself one.0
named_of s b k content (OfCache owner) one = refl

-- the bytes that are saved of a node are those that it was given

given_here : (n : ℕ) (bytes : List ℕ) (rest : List (ℕ × ℕ)) → given_to (map (λ x. (n, x)) bytes ++ rest) n ≡ bytes ++ given_to rest n
given_here n [] rest = refl
given_here n (x ∷ bytes) rest =
    let e : nat_eq n n ≡ true = grind (arith, nat_tests) in rw e (ap (λ l. x ∷ l) (given_here n bytes rest))

given_there : (n m : ℕ) (bytes : List ℕ) (rest : List (ℕ × ℕ)) → nat_eq n m ≡ false →
    given_to (map (λ x. (n, x)) bytes ++ rest) m ≡ given_to rest m
given_there n m [] rest e = refl
given_there n m (x ∷ bytes) rest e = rw e (given_there n m bytes rest e)

given_past : (n m : ℕ) (ps : List Processor) → m < n → given_to (given_from n ps) m ≡ []
given_past n m [] l = refl
given_past n m (p ∷ ps) l =
    given_there n m p.given (given_from (n + 1) ps) (grind (arith, nat_tests)) ∙ given_past (n + 1) m ps (omega (arith, l))

given_at : (n i : ℕ) (ps : List Processor) (d : Processor) → i < length ps → given_to (given_from n ps) (n + i) ≡ (get_or ps i d).given
given_at n i [] d l = absurd (omega (arith, l))
given_at n zero (p ∷ ps) d l =
    let e : n + zero ≡ n = omega arith in
    ap (λ m. given_to (given_from n (p ∷ ps)) m) e ∙ given_here n p.given (given_from (n + 1) ps)
    ∙ ap (λ l. p.given ++ l) (given_past (n + 1) n ps (omega arith)) ∙ append-nil p.given
given_at n (suc i) (p ∷ ps) d l =
    let e : n + 1 + i ≡ n + suc i = omega arith in
    given_there n (n + suc i) p.given (given_from (n + 1) ps) (grind (arith, nat_tests))
    ∙ ap (λ m. given_to (given_from (n + 1) ps) m) (sym e) ∙ given_at (n + 1) i ps d (omega (arith, l))

-- lists as long
as_many_lines : (log : List LogEntry) (k from : ℕ) (lines : List Line) → length (restored_lines log k from lines) ≡ length lines
as_many_lines log k from [] = refl
as_many_lines log k from (line ∷ lines) = ap suc (as_many_lines log k (from + 1) lines)

as_many_homes : (s : Fabric) (k from : ℕ) (homes : List HomeEntry) → length (restored_homes s k from homes) ≡ length homes
as_many_homes s k from [] = refl
as_many_homes s k from (entry ∷ homes) = ap suc (as_many_homes s k (from + 1) homes)

map_one : (point : ℕ) (xs : List ℕ) → map (λ (k : ℕ). point) xs ≡ replicate (length xs) point
map_one point [] = refl
map_one point (x ∷ xs) = ap (λ l. point ∷ l) (map_one point xs)

module _ (image : ImageData) (s : State) (r : ℕ → Records) (list : ℕ → List Entry) (trace : List TraceEntry) (j : RunInvariant image s r list trace) where
  abbrev N : ℕ
  N = length s.fabric.nodes

  abbrev point : ℕ
  point = s.fabric.point

  abbrev end : FlatState
  end = end_of image N s.committed

  abbrev owners : List (ℕ × ℕ)
  owners = owners_at s.fabric point

  abbrev given : List (ℕ × ℕ)
  given = given_from 0 s.processors

  abbrev content : ℕ → List ℕ
  content = block_in end.memory

  owner_is : (b : ℕ) → b < block_count → owner_in owners b ≡ owner_of (names_at s.fabric b point)
  unfolding owners_at
  owner_is b l = owners_here (λ x. names_at s.fabric x point) 0 block_count b (omega arith) (omega (arith, l))

  held_is : (n b : ℕ) → n < N → b < block_count → holds_at s.fabric n b point ≡ content_owned (owner_in owners b) n (content b)
  held_is n b l low =
      held_of s.fabric b point (content b) (names_at s.fabric b point) ((cuts half image s r list trace j).blocks b low) n l
      ∙ ap (λ o. content_owned o n (content b)) (sym (owner_is b low))

  named_is : (b : ℕ) → b < block_count → names_at s.fabric b point ≡ holder_resumed (owner_in owners b) (content b)
  named_is b low =
      named_of s.fabric b point (content b) (names_at s.fabric b point) ((cuts half image s r list trace j).blocks b low)
      ∙ ap (λ o. holder_resumed o (content b)) (sym (owner_is b low))

  lines_same : (n : ℕ) → n < N → restored_lines (node_at s.fabric n).log point 0 (node_at s.fabric n).cache.lines ≡ lines_owned owners content n
  lines_same n l =
      ext_get_or no_line (restored_lines (node_at s.fabric n).log point 0 (node_at s.fabric n).cache.lines) (lines_owned owners content n)
      (count ∙ sym (length-lines_owned owners content n))
      (λ b h. let low : b < block_count = subst (λ c. b < c) count h in
      restored_line_at point b (node_at s.fabric n) (subst (λ c. b < c) (sym (j.fabric.1.shape.lines n l)) low)
      ∙ ap restored_line (held_is n b l low) ∙ sym (line_resumed owners content n b low))
    where
      count : length (restored_lines (node_at s.fabric n).log point 0 (node_at s.fabric n).cache.lines) ≡ block_count
      count = as_many_lines (node_at s.fabric n).log point 0 (node_at s.fabric n).cache.lines ∙ j.fabric.1.shape.lines n l

  node_same : (n : ℕ) → n < N → restored_node point (node_at s.fabric n) ≡ node_resumed owners content point n
  node_same n l =
      ap (λ (ls : List Line). record { now = point; known = point; cache = record { lines = ls; miss = None; put = None }; log = [] })
      (lines_same n l)

  nodes_same : map (restored_node point) s.fabric.nodes ≡ each_below N (node_resumed owners content point)
  nodes_same =
      ext_get_or first_node (map (restored_node point) s.fabric.nodes) (each_below N (node_resumed owners content point))
      (map_count (restored_node point) s.fabric.nodes ∙ sym (length-map-range_with_len (node_resumed owners content point) 0 N))
      (λ n h. let l : n < N = subst (λ c. n < c) (map_count (restored_node point) s.fabric.nodes) h in
      get_or-map (restored_node point) s.fabric.nodes n first_node first_node l ∙ node_same n l
      ∙ sym (get_or-map-range_with_len (node_resumed owners content point) 0 N n n first_node l (omega arith)))

  homes_same : restored_homes s.fabric point 0 s.fabric.homes ≡ homes_resumed owners content
  homes_same =
      ext_get_or no_entry (restored_homes s.fabric point 0 s.fabric.homes) (homes_resumed owners content)
      (count ∙ sym (length-homes_resumed owners content))
      (λ b h. let low : b < block_count = subst (λ c. b < c) count h in
      restored_home_at s.fabric point b (subst (λ c. b < c) (sym j.fabric.1.shape.homes) low)
      ∙ ap (λ (o : Holder). record { holder = o; sharers = no_sharers; transaction = None }) (named_is b low)
      ∙ sym (home_resumed_is owners content b low))
    where
      count : length (restored_homes s.fabric point 0 s.fabric.homes) ≡ block_count
      count = as_many_homes s.fabric point 0 s.fabric.homes ∙ j.fabric.1.shape.homes

  processor_same : (n : ℕ) → n < N → restored_processor (processor_at s n) (node_at s.fabric n).known point ≡ processor_resumed end given n
  processor_same n l =
      let e : 0 + n ≡ n = omega arith in
      ap (λ c. record { core = c; checkpoints = c ∷ []; given = (processor_at s n).given }) (sym (end_register half image s r list trace j n))
      ∙ ap (λ (g : List ℕ). record { core = bare (core_at end n); checkpoints = bare (core_at end n) ∷ []; given = g })
      (sym (given_at 0 n s.processors (first_processor 0 0) (let c = j.shape.processors in omega (arith, c, l))) ∙ ap (given_to given) e)

  processors_same : restored_processors s.fabric point 0 s.processors ≡ each_below N (processor_resumed end given)
  processors_same =
      ext_get_or (first_processor 0 0) (restored_processors s.fabric point 0 s.processors) (each_below N (processor_resumed end given))
      (count ∙ sym (length-map-range_with_len (processor_resumed end given) 0 N))
      (λ n h. let l : n < N = subst (λ c. n < c) count h in
      processor_is image s r list trace j n l ∙ processor_same n l
      ∙ sym (get_or-map-range_with_len (processor_resumed end given) 0 N n n (first_processor 0 0) l (omega arith)))
    where
      count : length (restored_processors s.fabric point 0 s.processors) ≡ N
      count = restored_count s.fabric point 0 s.processors ∙ j.shape.processors

  reported_same : map (λ (k : ℕ). point) s.reported ≡ replicate N point
  reported_same = map_one point s.reported ∙ ap (λ n. replicate n point) j.shape.reported

  -- what goes on from what is saved, with so many nodes
  abbrev going_on : ℕ → State
  going_on nodes = record {
    fabric =
        fabric_resumed nodes owners (block_in (end_of image nodes s.committed).memory) point s.fabric.net.next_id s.fabric.net.dead;
    processors = each_below nodes (processor_resumed (end_of image nodes s.committed) given);
    reported = replicate nodes point;
    pending = [];
    committed = s.committed;
    held = [];
    released = out_of image nodes s.committed;
  }

  restored_same : restored_state s ≡ going_on N
  restored_same = λ i. record {
    fabric = record { nodes = nodes_same i; homes = homes_same i; net = restored_net s.fabric.net; point = point };
    processors = processors_same i;
    reported = reported_same i;
    pending = [];
    committed = s.committed;
    held = [];
    released = puts_out half image s r list trace j i;
  }

  pub restored_resumed : (nodes : ℕ) → N ≡ nodes → restored_state s ≡ going_on nodes
  restored_resumed nodes e = restored_same ∙ ap going_on e

pub recovery_resumes : (image : ImageData) (config : Config) (s : State) (trace : List TraceEntry) (applied : ℕ) →
    Holds image config.nodes s trace → first_cut_off (living_switches s.fabric) ≡ None →
    (step_of image config s event.Recover).state ≡ resumed image (saved_of config s applied)
unfolding step_of
recovery_resumes image config s trace applied (count, (r, list, j)) joined =
    ap (λ o. (restores s (recovers s.fabric s.fabric.point o)).state) joined ∙ restored_is s
    ∙ restored_resumed image s r list trace j config.nodes count
