-- At the start the fabric has its shape, and each block has all its sentences.
use Rattle.std.proofs.Common.{◌≡◌, ◌⊎◌, inl, inr, ◌∙◌, ℕ, zero, suc, ◌+◌, ◌%◌, ◌<◌, ◌≤◌, true, false, [], ◌∷◌, ◌++◌, length, refl, ap, sym}
use Rattle.std.proofs.Common.{subst, arith, length-append}
use Rattle.std.specs.Prelude.{slice_index_or, replicate}
use Rattle.std.proofs.lemmas.Bool.{cases_lt}
use Rattle.std.proofs.lemmas.List.{get_or_append_left, get_or_push, length-replicate}
use Rattle.log_buffer.specs.Log.{logged_to}
use Rattle.sn_base.specs.Image.{ImageData}
use Rattle.sn_model.specs.Caches.{Line, line_of, no_line, empty_lines, is_owned, block_count}
use Rattle.sn_model.specs.Homes.{HomeEntry}
use Rattle.sn_model.specs.Fabric.{Fabric, Node, node_at, home_of, home_node, first_node, initial_block, first_home, first_homes}
use Rattle.sn_model.specs.Fabric.{homes_below, no_entry, first_fabric}
use Rattle.sn_coherence.specs.OtherEvents.{start}
use Rattle.sn_coherence.specs.Same.{IsSame}
use Rattle.sn_coherence.specs.Block as block
use Rattle.sn_coherence.specs.Log.{was_owned, old_content, was_home, old_cache, told_at}
use Rattle.sn_coherence.proofs.Ends.{start_kept}
use Rattle.sn_coherence.proofs.EndsRecords.{start_recorded}
use Rattle.sn_coherence.proofs.Same.{same_kept, same_kept_records}
use Rattle.sn_coherence.specs.RecordsInvariant.{RecordsInvariant}
use Rattle.sn_coherence.specs.Records.{no_records}
use Rattle.fabric_coherence.specs.View.{block_seen, line_seen, content_held, miss_seen, put_seen, put_issued, is_itself, owner_of}
use Rattle.fabric_coherence.specs.View.{content_of, kind_open, requester_of, begun_of}
use Rattle.fabric_coherence.specs.Steps.{IsShaped}
use Rattle.fabric_coherence.specs.Coherent.{FabricInvariant}
use Rattle.fabric_coherence.specs.Start.{first_ghost}
use Rattle.fabric_coherence.proofs.Recovery.{no_line_at, replicated}

-- each node at the start
first_at : (P : Node → Type 0) (nodes m : ℕ) → P first_node → P (slice_index_or (replicate nodes first_node) m first_node)
first_at P nodes m h = subst P (sym (replicated nodes m first_node)) h

-- each home at the start
length-homes_below : (k : ℕ) (image : ImageData) → length (homes_below k image) ≡ k
length-homes_below zero image = refl
length-homes_below (suc k) image =
    length-append (homes_below k image) (first_home image k ∷ []) ∙ (ap (λ n. n + 1) (length-homes_below k image) ∙ omega arith)

home_pushed : (k : ℕ) (image : ImageData) (b : ℕ) → b < k + 1 →
    (b < k → slice_index_or (homes_below k image) b no_entry ≡ first_home image b) → (b < k) ⊎ (k ≤ b) →
    slice_index_or (homes_below k image ++ first_home image k ∷ []) b no_entry ≡ first_home image b
home_pushed k image b l h (inl q) =
    get_or_append_left (homes_below k image) (first_home image k ∷ []) no_entry b (subst (λ n. b < n) (sym (length-homes_below k image)) q)
    ∙ h q
home_pushed k image b l h (inr q) =
    let e : k ≡ b = omega arith in
    get_or_push (homes_below k image) (first_home image k) no_entry b (length-homes_below k image ∙ e) ∙ ap (first_home image) e

home_at : (k : ℕ) (image : ImageData) (b : ℕ) → b < k → slice_index_or (homes_below k image) b no_entry ≡ first_home image b
home_at zero image b l = absurd (omega arith)
home_at (suc k) image b l = home_pushed k image b (omega arith) (home_at k image b) (cases_lt b k)

pub first_homes_at : (image : ImageData) (b : ℕ) → b < block_count → slice_index_or (first_homes image) b no_entry ≡ first_home image b
unfolding first_homes
first_homes_at image b l = home_at block_count image b l

pub length-first_homes : (image : ImageData) → length (first_homes image) ≡ block_count
unfolding first_homes
length-first_homes image = length-homes_below block_count image

pub length-empty_lines : length empty_lines ≡ block_count
unfolding empty_lines
length-empty_lines = length-replicate block_count no_line

low : (b n : ℕ) → 1 ≤ n → b % n < n
low b n l = omega arith

module _ (image : ImageData) (nodes : ℕ) (some : 1 ≤ nodes) (few : nodes ≤ 16) where
  abbrev s : Fabric
  s = first_fabric image nodes

  as_many : length s.nodes ≡ nodes
  as_many = length-replicate nodes first_node

  each : (P : Node → Type 0) (m : ℕ) → P first_node → P (node_at s m)
  each P m h = first_at P nodes m h

  module _ (b : ℕ) (within : b < block_count) where
    entry_is : home_of s b ≡ first_home image b
    entry_is = first_homes_at image b within

    line_is : (m : ℕ) → line_of (node_at s m).cache b ≡ no_line
    line_is m = each (λ x. line_of x.cache b ≡ no_line) m (no_line_at b)

    unlogged : (m : ℕ) → (node_at s m).log ≡ []
    unlogged m = each (λ x. x.log ≡ []) m refl

    start-seen : IsSame (block_seen s first_ghost b) (start (home_node s b) (initial_block image b))
    start-seen = record {
      point = refl;
      home = refl;
      now = λ m. each (λ x. x.now ≡ 0) m refl;
      known = λ m. each (λ x. x.known ≡ 0) m refl;
      line = λ m. ap (λ (x : Line). line_seen x.state) (line_is m);
      content = λ m. ap (λ (x : Line). x.content) (line_is m);
      miss = λ m. each (λ x. miss_seen b x.cache.miss ≡ block.no_miss) m refl;
      putting = λ m. each (λ x. put_seen b x.cache.put ≡ block.NoPut) m refl;
      put_issued = λ m. each (λ x. put_issued x.cache.put ≡ 0) m refl;
      at_home = ap (λ (e : HomeEntry). is_itself e.holder) entry_is;
      owner = ap (λ (e : HomeEntry). owner_of e.holder) entry_is;
      home_content = ap (λ (e : HomeEntry). content_of e.holder) entry_is;
      sharers = λ m. ap (λ (e : HomeEntry). slice_index_or e.sharers m false) entry_is ∙ replicated 16 m false;
      kind = ap (λ (e : HomeEntry). kind_open e.transaction) entry_is;
      requester = ap (λ (e : HomeEntry). requester_of e.transaction) entry_is;
      begun = ap (λ (e : HomeEntry). begun_of e.transaction) entry_is;
      net = λ i. refl;
      next = refl;
      holds =
          λ m j. each (λ x. told_at was_owned x.log false b (is_owned (line_of x.cache b).state) j ≡ false) m
          (ap (λ (x : Line). is_owned x.state) (no_line_at b));
      held =
          λ m j. each (λ x. told_at old_content x.log false b (content_held (line_of x.cache b)) j ≡ []) m (ap content_held (no_line_at b));
      last = λ m. ap (λ l. logged_to l false b) (unlogged m);
      named_home =
          λ j. ap (λ l. told_at was_home l true b (is_itself (home_of s b).holder) j) (unlogged (home_node s b))
          ∙ ap (λ (e : HomeEntry). is_itself e.holder) entry_is;
      named =
          λ j. ap (λ l. told_at old_cache l true b (owner_of (home_of s b).holder) j) (unlogged (home_node s b))
          ∙ ap (λ (e : HomeEntry). owner_of e.holder) entry_is;
      home_held =
          λ j. ap (λ l. told_at old_content l true b (content_of (home_of s b).holder) j) (unlogged (home_node s b))
          ∙ ap (λ (e : HomeEntry). content_of e.holder) entry_is;
      home_last = ap (λ l. logged_to l true b) (unlogged (home_node s b));
      stage = refl;
      at = refl;
      waited = λ m. refl;
      framed = λ m j. refl;
    }

  start-shaped : IsShaped s
  start-shaped = record {
    some = subst (λ k. 1 ≤ k) (sym as_many) some;
    few = subst (λ k. k ≤ 16) (sym as_many) few;
    lines = λ m l. each (λ x. length x.cache.lines ≡ block_count) m length-empty_lines;
    homes = length-first_homes image;
    sharers = λ b l. ap (λ (e : HomeEntry). length e.sharers) (entry_is b l) ∙ length-replicate 16 false;
    below = tt;
    within = tt;
    rising = tt;
  }

  -- the start has all of it, with nothing beside it
  pub start-kept : FabricInvariant s first_ghost
  start-kept = record {
    shape = start-shaped;
    blocks =
        λ b l. same_kept (length s.nodes) _ (start (home_node s b) (initial_block image b)) (start-seen b l)
        (start_kept (length s.nodes) (home_node s b) (initial_block image b) (low b (length s.nodes) start-shaped.some));
  }

  -- and nothing is recorded
  pub start-recorded : (b : ℕ) → b < block_count → RecordsInvariant (block_seen s first_ghost b) (no_records (initial_block image b))
  start-recorded b l =
      same_kept_records (block_seen s first_ghost b) (start (home_node s b) (initial_block image b)) (no_records (initial_block image b))
      (start-seen b l) (start_recorded (home_node s b) (initial_block image b))
