-- Where it goes on from a recovery point the fabric has its shape, and each block has all its sentences: it is at rest.
use Rattle.std.proofs.Common.{◌≡◌, inl, inr, ◌∙◌, ℕ, suc, ◌<◌, ◌≤◌, Bool, true, false, cond, List, [], ◌∷◌, length, refl, ap, sym, subst, arith}
use Rattle.std.specs.Prelude.{nat_eq, nat_lt, slice_index_or, Option, Some, None}
use Rattle.std.proofs.lemmas.Bool.{cases_lt}
use Rattle.std.proofs.lemmas.Bool.Decides.{nat_tests}
use Rattle.std.proofs.lemmas.List.{length-replicate}
use Rattle.std.proofs.lemmas.List.FromFn.{get_or-map-range_with_len, length-map-range_with_len}
use Rattle.std.proofs.Math.ListN.{get_or-eq_default}
use Rattle.log_buffer.specs.Log.{logged_to}
use Rattle.sn_model.specs.Caches.{Line, line_of, no_line, is_owned, block_count}
use Rattle.sn_model.specs.Homes.{HomeEntry}
use Rattle.sn_model.specs.Fabric.{Fabric, Node, node_at, home_of, home_node, first_node, no_entry}
use Rattle.sn_model.specs.PointEvents.{restored_line}
use Rattle.sn_saved.specs.Resumed.{content_owned, lines_owned, cache_resumed, node_resumed, holder_resumed, home_resumed, homes_resumed}
use Rattle.sn_saved.specs.Resumed.{fabric_resumed}
use Rattle.sn_saved.specs.Saved.{owner_in, AreInside}
use Rattle.sn_coherence.specs.Block as block
use Rattle.sn_coherence.specs.RecordsInvariant.{RecordsInvariant}
use Rattle.sn_coherence.specs.OtherEvents.{owns, resting}
use Rattle.sn_coherence.specs.Records.{resting_records}
use Rattle.sn_coherence.specs.Same.{IsSame}
use Rattle.sn_coherence.specs.Log.{was_owned, old_content, was_home, old_cache, told_at}
use Rattle.sn_coherence.proofs.AtRest.{rest_kept, rest_recorded}
use Rattle.sn_coherence.proofs.Same.{same_kept, same_kept_records}
use Rattle.fabric_coherence.specs.View.{block_seen, line_seen, content_held, miss_seen, put_seen, put_issued, is_itself, owner_of}
use Rattle.fabric_coherence.specs.View.{content_of, kind_open, requester_of, begun_of}
use Rattle.fabric_coherence.specs.Steps.{IsShaped}
use Rattle.fabric_coherence.specs.Coherent.{FabricInvariant}
use Rattle.fabric_coherence.specs.Start.{is_home_owned, owner_or_zero, resumed_beside}
use Rattle.fabric_coherence.proofs.KeptStart.{length-empty_lines}
use Rattle.fabric_coherence.proofs.Recovery.{no_line_at, replicated}

-- a line, by the node whose cache owns the block

line_seen_of : (o : Option ℕ) (n : ℕ) (v : List ℕ) →
    line_seen (restored_line (content_owned o n v)).state ≡ cond (owns (is_home_owned o) (owner_or_zero o) n) block.Modified block.NoLine
line_seen_of None n v = refl
line_seen_of (Some owner) n v = grind (arith, nat_tests)

content_seen_of : (o : Option ℕ) (n : ℕ) (v : List ℕ) →
    (restored_line (content_owned o n v)).content ≡ cond (owns (is_home_owned o) (owner_or_zero o) n) v []
content_seen_of None n v = refl
content_seen_of (Some owner) n v = grind (arith, nat_tests)

pub owned_seen_of : (o : Option ℕ) (n : ℕ) (v : List ℕ) →
    is_owned (restored_line (content_owned o n v)).state ≡ owns (is_home_owned o) (owner_or_zero o) n
owned_seen_of None n v = refl
owned_seen_of (Some owner) n v = grind (arith, nat_tests)

held_seen_of : (o : Option ℕ) (n : ℕ) (v : List ℕ) →
    content_held (restored_line (content_owned o n v)) ≡ cond (owns (is_home_owned o) (owner_or_zero o) n) v []
held_seen_of None n v = refl
held_seen_of (Some owner) n v = grind (arith, nat_tests)

-- an owner that is listed is a node
pub owner_low : (nodes : ℕ) (owners : List (ℕ × ℕ)) (b : ℕ) → AreInside nodes owners → is_home_owned (owner_in owners b) ≡ false →
    owner_or_zero (owner_in owners b) < nodes
owner_low nodes [] b h e = absurd (cc)
owner_low nodes (o ∷ owners) b h e = go (nat_eq o.0 b) refl e (owner_low nodes owners b (λ k d l. h (suc k) d (omega (arith, l))))
  where
    go : (q : Bool) → nat_eq o.0 b ≡ q → is_home_owned (cond q (Some o.1) (owner_in owners b)) ≡ false →
        (is_home_owned (owner_in owners b) ≡ false → owner_or_zero (owner_in owners b) < nodes) →
        owner_or_zero (cond q (Some o.1) (owner_in owners b)) < nodes
    go true t f later = (h 0 o (omega arith)).1
    go false t f later = later f

-- the home's entry, by that node

itself_of : (o : Option ℕ) (v : List ℕ) → is_itself (holder_resumed o v) ≡ is_home_owned o
itself_of None v = refl
itself_of (Some owner) v = refl

owner_is : (o : Option ℕ) (v : List ℕ) → owner_of (holder_resumed o v) ≡ owner_or_zero o
owner_is None v = refl
owner_is (Some owner) v = refl

content_is : (o : Option ℕ) (v : List ℕ) → content_of (holder_resumed o v) ≡ cond (is_home_owned o) v []
content_is None v = refl
content_is (Some owner) v = refl

-- look-ups in what it goes on with

pub length-lines_owned : (owners : List (ℕ × ℕ)) (content : ℕ → List ℕ) (m : ℕ) → length (lines_owned owners content m) ≡ block_count
unfolding lines_owned
length-lines_owned owners content m =
    length-map-range_with_len (λ x. restored_line (content_owned (owner_in owners x) m (content x))) 0 block_count

pub line_resumed : (owners : List (ℕ × ℕ)) (content : ℕ → List ℕ) (m b : ℕ) → b < block_count →
    line_of (cache_resumed owners content m) b ≡ restored_line (content_owned (owner_in owners b) m (content b))
unfolding lines_owned
line_resumed owners content m b l =
    get_or-map-range_with_len (λ x. restored_line (content_owned (owner_in owners x) m (content x))) 0 block_count b b no_line l
    (omega arith)

pub line_past : (owners : List (ℕ × ℕ)) (content : ℕ → List ℕ) (m b : ℕ) → block_count ≤ b →
    line_of (cache_resumed owners content m) b ≡ no_line
line_past owners content m b l =
    get_or-eq_default (lines_owned owners content m) no_line (let c = length-lines_owned owners content m in omega (arith, c, l))

pub length-homes_resumed : (owners : List (ℕ × ℕ)) (content : ℕ → List ℕ) → length (homes_resumed owners content) ≡ block_count
unfolding homes_resumed
length-homes_resumed owners content = length-map-range_with_len (home_resumed owners content) 0 block_count

pub home_resumed_is : (owners : List (ℕ × ℕ)) (content : ℕ → List ℕ) (b : ℕ) → b < block_count →
    slice_index_or (homes_resumed owners content) b no_entry ≡ home_resumed owners content b
unfolding homes_resumed
home_resumed_is owners content b l =
    get_or-map-range_with_len (home_resumed owners content) 0 block_count b b no_entry l (omega arith)

pub count_resumed : (nodes point next_id : ℕ) (owners : List (ℕ × ℕ)) (content : ℕ → List ℕ) (dead : List Bool) →
    length (fabric_resumed nodes owners content point next_id dead).nodes ≡ nodes
count_resumed nodes point next_id owners content dead = length-map-range_with_len (node_resumed owners content point) 0 nodes

pub node_resumed_is : (nodes point next_id : ℕ) (owners : List (ℕ × ℕ)) (content : ℕ → List ℕ) (dead : List Bool) (m : ℕ) → m < nodes →
    node_at (fabric_resumed nodes owners content point next_id dead) m ≡ node_resumed owners content point m
node_resumed_is nodes point next_id owners content dead m l =
    get_or-map-range_with_len (node_resumed owners content point) 0 nodes m m first_node l (omega arith)

pub node_past : (nodes point next_id : ℕ) (owners : List (ℕ × ℕ)) (content : ℕ → List ℕ) (dead : List Bool) (m : ℕ) → nodes ≤ m →
    node_at (fabric_resumed nodes owners content point next_id dead) m ≡ first_node
node_past nodes point next_id owners content dead m l =
    get_or-eq_default (fabric_resumed nodes owners content point next_id dead).nodes first_node
    (let c = count_resumed nodes point next_id owners content dead in omega (arith, c, l))

module _ (nodes point next_id : ℕ) (owners : List (ℕ × ℕ)) (content : ℕ → List ℕ) (dead : List Bool) (some : 1 ≤ nodes) (few : nodes ≤ 16)
    (inside : AreInside nodes owners) where
  abbrev s : Fabric
  s = fabric_resumed nodes owners content point next_id dead

  as_many : length s.nodes ≡ nodes
  as_many = count_resumed nodes point next_id owners content dead

  here : (m : ℕ) → m < nodes → node_at s m ≡ node_resumed owners content point m
  here m l = node_resumed_is nodes point next_id owners content dead m l

  past : (m : ℕ) → nodes ≤ m → node_at s m ≡ first_node
  past m l = node_past nodes point next_id owners content dead m l

  -- of each number, whether it is a node's or not
  each : (P : Node → Type 0) (m : ℕ) → (m < nodes → P (node_resumed owners content point m)) → (nodes ≤ m → P first_node) →
      P (node_at s m)
  each P m h k = elim (cases_lt m nodes) [
    | inl l ↦ subst P (sym (here m l)) (h l)
    | inr l ↦ subst P (sym (past m l)) (k l)
  ]

  at_point : (m : ℕ) → m < nodes → point ≡ cond (nat_lt m (length s.nodes)) point 0
  at_point m l = let c = as_many in grind (arith, nat_tests)

  at_zero : (m : ℕ) → nodes ≤ m → 0 ≡ cond (nat_lt m (length s.nodes)) point 0
  at_zero m l = let c = as_many in grind (arith, nat_tests)

  module _ (b : ℕ) (within : b < block_count) where
    abbrev o : Option ℕ
    o = owner_in owners b

    abbrev mine : ℕ → Bool
    mine m = owns (is_home_owned o) (owner_or_zero o) m

    line_here : (m : ℕ) → line_of (cache_resumed owners content m) b ≡ restored_line (content_owned o m (content b))
    line_here m = line_resumed owners content m b within

    entry_is : home_of s b ≡ home_resumed owners content b
    entry_is = home_resumed_is owners content b within

    unowned : (m : ℕ) → nodes ≤ m → mine m ≡ false
    unowned m l = let h = owner_low nodes owners b inside in grind (arith, nat_tests)

    -- a fact of the line of a number
    of_line : {A : Type 0} (f : Line → A) (owned other : A) → ((m : ℕ) → f (restored_line (content_owned o m (content b))) ≡ cond (mine m) owned other) →
        f no_line ≡ other → (m : ℕ) → f (line_of (node_at s m).cache b) ≡ cond (mine m) owned other
    of_line f owned other h k m =
        each (λ x. f (line_of x.cache b) ≡ cond (mine m) owned other) m (λ l. ap f (line_here m) ∙ h m)
        (λ l. ap f (no_line_at b) ∙ (k ∙ sym (ap (λ q. cond q owned other) (unowned m l))))

    owned_as : (m : ℕ) → is_owned (line_of (node_at s m).cache b).state ≡ mine m
    owned_as m =
        each (λ x. is_owned (line_of x.cache b).state ≡ mine m) m
        (λ l. ap (λ (x : Line). is_owned x.state) (line_here m) ∙ owned_seen_of o m (content b))
        (λ l. ap (λ (x : Line). is_owned x.state) (no_line_at b) ∙ sym (unowned m l))

    unlogged : (m : ℕ) → (node_at s m).log ≡ []
    unlogged m = each (λ x. x.log ≡ []) m (λ l. refl) (λ l. refl)

    resumed-seen : IsSame (block_seen s (resumed_beside owners) b)
        (resting (length s.nodes) point next_id (home_node s b) (is_home_owned o) (owner_or_zero o) (content b))
    resumed-seen = record {
      point = refl;
      home = refl;
      now = λ m. each (λ x. x.now ≡ cond (nat_lt m (length s.nodes)) point 0) m (at_point m) (at_zero m);
      known = λ m. each (λ x. x.known ≡ cond (nat_lt m (length s.nodes)) point 0) m (at_point m) (at_zero m);
      line =
          of_line (λ x. line_seen x.state) block.Modified block.NoLine (λ m. line_seen_of o m (content b)) refl;
      content = of_line (λ x. x.content) (content b) [] (λ m. content_seen_of o m (content b)) refl;
      miss = λ m. each (λ x. miss_seen b x.cache.miss ≡ block.no_miss) m (λ l. refl) (λ l. refl);
      putting = λ m. each (λ x. put_seen b x.cache.put ≡ block.NoPut) m (λ l. refl) (λ l. refl);
      put_issued = λ m. each (λ x. put_issued x.cache.put ≡ 0) m (λ l. refl) (λ l. refl);
      at_home = ap (λ (e : HomeEntry). is_itself e.holder) entry_is ∙ itself_of o (content b);
      owner = ap (λ (e : HomeEntry). owner_of e.holder) entry_is ∙ owner_is o (content b);
      home_content = ap (λ (e : HomeEntry). content_of e.holder) entry_is ∙ content_is o (content b);
      sharers = λ m. ap (λ (e : HomeEntry). slice_index_or e.sharers m false) entry_is ∙ replicated 16 m false;
      kind = ap (λ (e : HomeEntry). kind_open e.transaction) entry_is;
      requester = ap (λ (e : HomeEntry). requester_of e.transaction) entry_is;
      begun = ap (λ (e : HomeEntry). begun_of e.transaction) entry_is;
      net = λ i. refl;
      next = refl;
      holds =
          λ m j. ap (λ l. told_at was_owned l false b (is_owned (line_of (node_at s m).cache b).state) j) (unlogged m) ∙ owned_as m;
      held =
          λ m j. ap (λ l. told_at old_content l false b (content_held (line_of (node_at s m).cache b)) j) (unlogged m)
          ∙ of_line content_held (content b) [] (λ n. held_seen_of o n (content b)) refl m;
      last = λ m. ap (λ l. logged_to l false b) (unlogged m);
      named_home =
          λ j. ap (λ l. told_at was_home l true b (is_itself (home_of s b).holder) j) (unlogged (home_node s b))
          ∙ (ap (λ (e : HomeEntry). is_itself e.holder) entry_is ∙ itself_of o (content b));
      named =
          λ j. ap (λ l. told_at old_cache l true b (owner_of (home_of s b).holder) j) (unlogged (home_node s b))
          ∙ (ap (λ (e : HomeEntry). owner_of e.holder) entry_is ∙ owner_is o (content b));
      home_held =
          λ j. ap (λ l. told_at old_content l true b (content_of (home_of s b).holder) j) (unlogged (home_node s b))
          ∙ (ap (λ (e : HomeEntry). content_of e.holder) entry_is ∙ content_is o (content b));
      home_last = ap (λ l. logged_to l true b) (unlogged (home_node s b));
      stage = refl;
      at = refl;
      waited = λ m. refl;
      framed = λ m j. refl;
    }

    low : home_node s b < length s.nodes
    low = let c = as_many in omega (arith, c, some)

    there : is_home_owned o ≡ false → owner_or_zero o < length s.nodes
    there e = let c = as_many in let h = owner_low nodes owners b inside e in omega (arith, c, h)

  resumed-shaped : IsShaped s
  resumed-shaped = record {
    some = subst (λ k. 1 ≤ k) (sym as_many) some;
    few = subst (λ k. k ≤ 16) (sym as_many) few;
    lines = λ m l. each (λ x. length x.cache.lines ≡ block_count) m (λ k. length-lines_owned owners content m) (λ k. length-empty_lines);
    homes = length-homes_resumed owners content;
    sharers = λ b l. ap (λ (e : HomeEntry). length e.sharers) (entry_is b l) ∙ length-replicate 16 false;
    below = tt;
    within = tt;
    rising = tt;
  }

  -- it has all of it, with the frames of what is owned beside it
  pub resumed-kept : FabricInvariant s (resumed_beside owners)
  resumed-kept = record {
    shape = resumed-shaped;
    blocks =
        λ b l. same_kept (length s.nodes) _
        (resting (length s.nodes) point next_id (home_node s b) (is_home_owned (owner_in owners b)) (owner_or_zero (owner_in owners b)) (content b))
        (resumed-seen b l)
        (rest_kept (length s.nodes) point next_id (home_node s b) (is_home_owned (owner_in owners b)) (owner_or_zero (owner_in owners b)) (content b)
        (low b l) (there b l));
  }

  -- and all that is recorded lies in interval 0
  pub resumed-recorded : (b : ℕ) → b < block_count → RecordsInvariant (block_seen s (resumed_beside owners) b) (resting_records nodes point (content b))
  resumed-recorded b l =
      subst (λ k. RecordsInvariant (block_seen s (resumed_beside owners) b) (resting_records k point (content b))) as_many
      (same_kept_records (block_seen s (resumed_beside owners) b)
      (resting (length s.nodes) point next_id (home_node s b) (is_home_owned (owner_in owners b)) (owner_or_zero (owner_in owners b)) (content b))
      (resting_records (length s.nodes) point (content b)) (resumed-seen b l)
      (rest_recorded (length s.nodes) point next_id (home_node s b) (is_home_owned (owner_in owners b)) (owner_or_zero (owner_in owners b)) (content b)
      (low b l) (there b l)))
