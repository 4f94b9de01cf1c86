-- A program's start has what is joined.
use Rattle.std.proofs.Common.{◌≡◌, ℕ, zero, suc, ◌+◌, ◌-◌, ◌*◌, ◌<◌, ◌≤◌, Bool, true, false, List, [], ◌∷◌, ◌++◌, length, take, drop, arith}
use Rattle.std.proofs.Common.{refl, sym, ap, ◌∙◌, subst, nat_lt, ◌⊎◌, inl, inr}
use Rattle.std.specs.Prelude.{get_or}
use Rattle.std.proofs.lemmas.Bool.Decides.{nat_tests}
use Rattle.std.proofs.lemmas.Bool.{cases_order}
use Rattle.std.proofs.lemmas.List.{length_push, get_or_append_left, get_or-append_right, length-replicate, get_or-replicate}
use Rattle.std.proofs.Math.ListN.{get_or-eq_default}
use Rattle.sn_base.specs.Blocks.{ram_start, ram_size}
use Rattle.sn_base.specs.Image.{ImageData, SegmentData, byte_at, bytes_from}
use Rattle.rv_core.specs.declared.state.CoreState.{CoreState}
use Rattle.rv_core.specs.Core.{bare, is_reserved, start_of}
use Rattle.rv_core.specs.Flat.{flat_start, first_cores, core_at, initial_memory}
use Rattle.sn_model.specs.Caches.{block_count}
use Rattle.sn_model.specs.Fabric.{first_node, node_at, initial_block}
use Rattle.sn_model.specs.Machine.{State, Processor, processor_at, first_processor, first_processors}
use Rattle.sn_model.specs.Machine as machine
use Rattle.sn_model.specs.MachineEvents.{checkpoint_of}
use Rattle.sn_coherence.specs.RecordsInvariant.{RecordsInvariant}
use Rattle.sn_coherence.specs.Records.{Records, no_records}
use Rattle.sn_consistency.specs.Entries.{Places}
use Rattle.sn_consistency.specs.Outline.{first_outline}
use Rattle.sn_consistency.specs.Words.{block_in}
use Rattle.sn_consistency.proofs.Outline.{begun_keeps}
use Rattle.fabric_bounds.specs.View.{block_seen}
use Rattle.fabric_bounds.specs.Recorded.{KeepsRecords}
use Rattle.consistent_cuts.specs.Outlines.{outline_of, start_places}
use Rattle.consistent_cuts.specs.RunInvariant.{Joins}
use Rattle.consistent_cuts.proofs.FabricAfter.{FabricHalf}
use Rattle.consistent_cuts.proofs.Hears.{recount}
use Rattle.consistent_cuts.proofs.Outlines.{IsSameKept, same_kept}

-- the bytes of a block are a part of those of memory

drop_bytes : (k m a : ℕ) (segments : List SegmentData) → drop k (bytes_from (k + m) segments a) ≡ bytes_from m segments (a + k)
drop_bytes zero m a segments =
    let e : a ≡ a + 0 = omega arith in let f : 0 + m ≡ m = omega arith in ap (λ x. bytes_from x segments a) f ∙ ap (bytes_from m segments) e
drop_bytes (suc k) m a segments =
    let f : suc k + m ≡ suc (k + m) = omega arith in
    let e : a + 1 + k ≡ a + suc k = omega arith in
    ap (λ x. drop (suc k) (bytes_from x segments a)) f ∙ drop_bytes k m (a + 1) segments ∙ ap (bytes_from m segments) e

take_bytes : (k m a : ℕ) (segments : List SegmentData) → take k (bytes_from (k + m) segments a) ≡ bytes_from k segments a
take_bytes zero m a segments = refl
take_bytes (suc k) m a segments =
    let f : suc k + m ≡ suc (k + m) = omega arith in
    ap (λ x. take (suc k) (bytes_from x segments a)) f ∙ ap (λ xs. byte_at segments a ∷ xs) (take_bytes k m (a + 1) segments)

part_of : (n k m a : ℕ) (segments : List SegmentData) → n ≡ k + (64 + m) →
    take 64 (drop k (bytes_from n segments a)) ≡ bytes_from 64 segments (a + k)
part_of n k m a segments e =
    ap (λ x. take 64 (drop k (bytes_from x segments a))) e ∙ ap (take 64) (drop_bytes k (64 + m) a segments)
    ∙ take_bytes 64 m (a + k) segments

pub initial_is : (image : ImageData) (b : ℕ) → b < block_count → block_in (initial_memory image) b ≡ initial_block image b
unfolding block_in initial_memory
initial_is image b l = part_of ram_size (64 * b) (ram_size - (64 * b + 64)) ram_start image.segments (omega (arith, l))

-- the first nodes and processors

module _ (entry : ℕ) where
  count_processors : (n : ℕ) → length (first_processors n entry) ≡ n
  count_processors zero = refl
  count_processors (suc n) = length_push (first_processors n entry) (first_processor n entry) ∙ omega (arith, count_processors n)

  count_cores : (n : ℕ) → length (first_cores n entry) ≡ n
  count_cores zero = refl
  count_cores (suc n) = length_push (first_cores n entry) (start_of n entry) ∙ omega (arith, count_cores n)

  -- the last of a list that grows at its end
  last_of : {A : Type 0} (xs : List A) (y d : A) (n k : ℕ) → length xs ≡ n → k ≡ n → get_or (xs ++ y ∷ []) k d ≡ y
  last_of xs y d n k e i =
      let z : k - n ≡ 0 = omega (arith, i) in
      get_or-append_right xs (y ∷ []) n k d e (omega (arith, i)) ∙ ap (λ x. get_or (y ∷ []) x d) z

  processor_of : (n k : ℕ) → k < n → get_or (first_processors n entry) k (first_processor 0 0) ≡ first_processor k entry
  processor_of zero k l = absurd (omega (arith, l))
  processor_of (suc n) k l = go (cases_order k n) (λ h. processor_of n k h)
    where
      go : ((k ≡ n) ⊎ ((k < n) ⊎ (n < k))) → (k < n → get_or (first_processors n entry) k (first_processor 0 0) ≡ first_processor k entry) →
          get_or (first_processors (suc n) entry) k (first_processor 0 0) ≡ first_processor k entry
      go (inl i) earlier =
          last_of (first_processors n entry) (first_processor n entry) (first_processor 0 0) n k (count_processors n) i
          ∙ ap (λ x. first_processor x entry) (sym i)
      go (inr (inl h)) earlier =
          get_or_append_left (first_processors n entry) (first_processor n entry ∷ []) (first_processor 0 0) k
          (let c = count_processors n in omega (arith, c, h)) ∙ earlier h
      go (inr (inr h)) earlier = absurd (omega (arith, h, l))

  core_of : (n k : ℕ) → k < n → get_or (first_cores n entry) k (start_of 0 0) ≡ start_of k entry
  core_of zero k l = absurd (omega (arith, l))
  core_of (suc n) k l = go (cases_order k n) (λ h. core_of n k h)
    where
      go : ((k ≡ n) ⊎ ((k < n) ⊎ (n < k))) → (k < n → get_or (first_cores n entry) k (start_of 0 0) ≡ start_of k entry) →
          get_or (first_cores (suc n) entry) k (start_of 0 0) ≡ start_of k entry
      go (inl i) earlier =
          last_of (first_cores n entry) (start_of n entry) (start_of 0 0) n k (count_cores n) i ∙ ap (λ x. start_of x entry) (sym i)
      go (inr (inl h)) earlier =
          get_or_append_left (first_cores n entry) (start_of n entry ∷ []) (start_of 0 0) k (let c = count_cores n in omega (arith, c, h))
          ∙ earlier h
      go (inr (inr h)) earlier = absurd (omega (arith, h, l))

module _ (half : FabricHalf) (image : ImageData) (nodes : ℕ) (some : 1 ≤ nodes) (few : nodes ≤ 16) where
  abbrev s : State
  s = machine.start_of image nodes

  abbrev F : Places
  F = start_places image nodes

  abbrev r : ℕ → Records
  r b = no_records (F.content b)

  count : length s.fabric.nodes ≡ nodes
  count = length-replicate nodes first_node

  node_is : (n : ℕ) → node_at s.fabric n ≡ first_node
  node_is n = go (nat_lt n nodes) refl
    where
      go : (q : Bool) → nat_lt n nodes ≡ q → node_at s.fabric n ≡ first_node
      go true e = get_or-replicate nodes n first_node first_node (grind (arith, nat_tests))
      go false e = get_or-eq_default s.fabric.nodes first_node (let c = count in grind (arith, nat_tests))

  -- each processor is a first one, and so is each core of the flat machine
  by_processor : (P : ℕ → Processor → CoreState → Type 0) → ((n : ℕ) → P n (first_processor n image.entry) (start_of n image.entry)) →
      ((n : ℕ) → P n (first_processor 0 0) (start_of 0 0)) →
      (n : ℕ) → P n (processor_at s n) (core_at (flat_start image nodes) n)
  by_processor P here there n = go (nat_lt n nodes) refl
    where
      go : (q : Bool) → nat_lt n nodes ≡ q → P n (processor_at s n) (core_at (flat_start image nodes) n)
      go true e =
          let l : n < nodes = grind (arith, nat_tests) in
          subst (λ p. P n p (core_at (flat_start image nodes) n)) (sym (processor_of image.entry nodes n l))
          (subst (P n (first_processor n image.entry)) (sym (core_of image.entry nodes n l)) (here n))
      go false e =
          let h : nodes ≤ n = grind (arith, nat_tests) in
          let a : processor_at s n
          ≡ first_processor 0 0 = get_or-eq_default s.processors (first_processor 0 0)
          (let c = count_processors image.entry nodes in omega (arith, c, h)) in
          let d : core_at (flat_start image nodes) n
          ≡ start_of 0 0 = get_or-eq_default (first_cores nodes image.entry) (start_of 0 0)
          (let c = count_cores image.entry nodes in omega (arith, c, h)) in
          subst (λ p. P n p (core_at (flat_start image nodes) n)) (sym a) (subst (P n (first_processor 0 0)) (sym d) (there n))

  one : (c : CoreState) (k : ℕ) → get_or (c ∷ []) k c ≡ c
  one c zero = refl
  one c (suc k) = refl

  free : (n b : ℕ) → is_reserved (processor_at s n).core.reservation b ≡ false
  free = by_processor (λ n p c. (b : ℕ) → is_reserved p.core.reservation b ≡ false) (λ n b. refl) (λ n b. refl)

  same_start : IsSameKept (first_outline F) (outline_of s r (λ x. []))
  same_start = record {
    point = refl;
    interval = λ n. let a = ap (λ x. x.now) (node_is n) in grind arith;
    known = λ n. sym (ap (λ x. x.known) (node_is n));
    core = by_processor (λ n p c. bare c ≡ bare p.core) (λ n. refl) (λ n. refl);
    reserved = λ n b. sym (free n b);
    checkpoint = λ n k low up. checkpoint_is n k;
    given = by_processor (λ n p c. [] ≡ p.given) (λ n. refl) (λ n. refl);
    waiting = by_processor (λ n p c. [] ≡ drop 0 p.given) (λ n. refl) (λ n. refl);
    list = λ x. refl;
    content = λ b k. refl;
    value = λ b. refl;
    last_write = λ b. refl;
    last_access = λ b n. refl;
  }
    where
      checkpoint_is : (n k : ℕ) → checkpoint_of (processor_at s n) (node_at s.fabric n).known k ≡ F.core n
      checkpoint_is n k =
          by_processor (λ n p c. (i : ℕ) → get_or p.checkpoints (k - i) p.core ≡ bare c) (λ n i. one (start_of n image.entry) (k - i))
          (λ n i. one (start_of 0 0) (k - i)) n (node_at s.fabric n).known

  kept : KeepsRecords s.fabric r
  kept = let k = half.start image nodes some few in
      (k.0, k.1, λ b l. subst (λ v. RecordsInvariant (block_seen s.fabric k.0 b) (no_records v)) (sym (initial_is image b l)) (k.2 b l))

  pub start_joins : Joins image s []
  start_joins = (
    r,
    (λ x. []),
    record {
      fabric = kept;
      shape = record {
        processors = count_processors image.entry nodes ∙ sym count;
        reported = length-replicate nodes 0 ∙ sym count;
        checkpoints =
            λ n l. by_processor (λ n p c. (node_at s.fabric n).known + length p.checkpoints ≡ (node_at s.fabric n).now + 1) (λ n. counted n)
            (λ n. counted n) n;
        taken = λ n l. omega arith;
      };
      agrees = record {
        reserved = λ b n lb l. sym (free n b);
        reported = λ b n lb l. sym (get_or-replicate nodes n 0 0 (omega (arith, l, count)));
      };
      sorted =
          recount image nodes (length s.fabric.nodes) (outline_of s r (λ x. [])) count
          (same_kept image nodes F (first_outline F) (outline_of s r (λ x. [])) same_start (begun_keeps image nodes F (λ n. refl)));
      traced = record { pending = refl; committed = refl; held = refl; released = refl };
      made = record { did = λ x. refl; out = λ x. refl };
    },
  )
    where
      counted : (n : ℕ) → (node_at s.fabric n).known + 1 ≡ (node_at s.fabric n).now + 1
      counted n = let a = node_is n in let b = ap (λ x. x.known) a in let c = ap (λ x. x.now) a in omega (arith, b, c)
