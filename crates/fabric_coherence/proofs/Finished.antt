-- What is finished before a checkpoint: where each block says that nothing is unfinished, nothing is, and the other way round.
use Rattle.std.proofs.Common.{◌≡◌, ◌≢◌, ℕ, zero, suc, ◌+◌, ◌<◌, ◌≤◌, Bool, true, false, ◌||◌, List, [], ◌∷◌, length, refl, sym, subst}
use Rattle.std.proofs.Common.{arith, slice_index_or, Option, Some, None}
use Rattle.std.proofs.lemmas.Bool.Decides.{nat_tests}
use Rattle.std.specs.List.{list_any}
use Rattle.sn_model.specs.Caches.{Miss, Put, block_count}
use Rattle.sn_model.specs.Cuts.{miss_before, put_before, transaction_before, unfinished_node, is_unfinished}
use Rattle.sn_model.specs.Homes.{HomeEntry, Transaction}
use Rattle.sn_model.specs.Fabric.{Fabric, node_at, home_of, first_node, no_entry}
use Rattle.sn_coherence.specs.Block as block
use Rattle.sn_coherence.specs.OtherEvents.{validate}
use Rattle.sn_coherence.specs.Events.{Validate, NothingUnfinished as NoneOfBlockUnfinished}
use Rattle.sn_coherence.specs.RecordsInvariant.{RecordsInvariant}
use Rattle.sn_coherence.specs.Records.{Records}
use Rattle.sn_coherence.proofs.EachRowRecords.{validate_recorded}
use Rattle.sn_coherence.proofs.WhatFollows.{kept_finished}
use Rattle.sn_coherence.proofs.Whole.{event_kept}
use Rattle.sn_coherence.proofs.WholeRecords.{nothing_unfinished}
use Rattle.fabric_coherence.specs.View.{GhostState, block_seen, miss_seen, put_seen, put_issued, kind_open, begun_of}
use Rattle.fabric_coherence.specs.Coherent.{FabricInvariant, NothingUnfinished}
use Rattle.fabric_coherence.specs.Leads.{Leads}

-- where no element passes each fails, and the other way round

none_step : (x y : Bool) → (x || y) ≡ false → (x ≡ false) × (y ≡ false)
none_step false y e = (refl, e)
none_step true y e = absurd (cc)

none_at : {A : Type 0} (p : A → Bool) (xs : List A) (d : A) (i : ℕ) → list_any p xs ≡ false → i < length xs →
    p (slice_index_or xs i d) ≡ false
none_at p [] d i e l = absurd (omega arith)
none_at p (x ∷ xs) d zero e l = (none_step (p x) (list_any p xs) e).0
none_at p (x ∷ xs) d (suc i) e l = none_at p xs d i (none_step (p x) (list_any p xs) e).1 (omega arith)

both_none : (x y : Bool) → x ≡ false → y ≡ false → (x || y) ≡ false
both_none false y e f = f
both_none true y e f = absurd (cc)

all_none : {A : Type 0} (p : A → Bool) (xs : List A) (d : A) → ((i : ℕ) → i < length xs → p (slice_index_or xs i d) ≡ false) →
    list_any p xs ≡ false
all_none p [] d h = refl
all_none p (x ∷ xs) d h = both_none (p x) (list_any p xs) (h zero (omega arith)) (all_none p xs d (λ i l. h (suc i) (omega arith)))

-- a miss, a put and a transaction that are open, in the block's words and in the fabric's

miss_unfinished : (o k : ℕ) (miss : Option Miss) → miss_before miss k ≡ false → (miss_seen o miss).want ≢ block.Nothing →
    k ≤ (miss_seen o miss).issued
miss_unfinished o k miss e w = grind (arith, nat_tests)

put_unfinished : (o k : ℕ) (put : Option Put) → put_before put k ≡ false → put_seen o put ≢ block.NoPut → k ≤ put_issued put
put_unfinished o k put e w = grind (arith, nat_tests)

home_unfinished : (k : ℕ) (transaction : Option Transaction) → transaction_before transaction k ≡ false →
    kind_open transaction ≢ block.Idle → k ≤ begun_of transaction
home_unfinished k transaction e w = grind (arith, nat_tests)

miss_finished : (m : Option Miss) (k : ℕ) → ((miss_seen 0 m).want ≢ block.Nothing → k ≤ (miss_seen 0 m).issued) → miss_before m k ≡ false
miss_finished None k h = refl
miss_finished (Some m) k h = grind (arith, nat_tests)

put_finished : (m : Option Put) (k : ℕ) → (put_seen 0 m ≢ block.NoPut → k ≤ put_issued m) → put_before m k ≡ false
put_finished None k h = refl
put_finished (Some m) k h = grind (arith, nat_tests)

pub home_finished : (x : Option Transaction) (k : ℕ) → (kind_open x ≢ block.Idle → k ≤ begun_of x) → transaction_before x k ≡ false
home_finished None k h = refl
home_finished (Some x) k h = grind (arith, nat_tests)

module _ (s : Fabric) (t : GhostState) (k : ℕ) where
  lists_none : is_unfinished s k ≡ false →
      (list_any (λ node. unfinished_node node k) s.nodes ≡ false)
      × (list_any (λ entry. transaction_before entry.transaction k) s.homes ≡ false)
  unfolding is_unfinished
  lists_none e =
      none_step (list_any (λ node. unfinished_node node k) s.nodes) (list_any (λ entry. transaction_before entry.transaction k) s.homes) e

  none_listed : list_any (λ node. unfinished_node node k) s.nodes ≡ false →
      list_any (λ entry. transaction_before entry.transaction k) s.homes ≡ false → is_unfinished s k ≡ false
  unfolding is_unfinished
  none_listed e f =
      both_none (list_any (λ node. unfinished_node node k) s.nodes) (list_any (λ entry. transaction_before entry.transaction k) s.homes) e f

  -- what the fabric says of each block
  pub none_unfinished : NothingUnfinished s k → length s.homes ≡ block_count → (o : ℕ) → o < block_count →
      NoneOfBlockUnfinished (length s.nodes) (block_seen s t o) k
  none_unfinished f homes o l = record {
    now = f.now;
    miss = λ n q w. miss_unfinished o k (node_at s n).cache.miss (none_step _ _ (of_node n q)).0 w;
    put = λ n q w. put_unfinished o k (node_at s n).cache.put (none_step _ _ (of_node n q)).1 w;
    home = λ w. home_unfinished k (home_of s o).transaction of_home w;
  }
    where
      of_node : (n : ℕ) → n < length s.nodes → unfinished_node (node_at s n) k ≡ false
      of_node n q = none_at (λ node. unfinished_node node k) s.nodes first_node n (lists_none f.none).0 q

      of_home : transaction_before (home_of s o).transaction k ≡ false
      of_home =
          none_at (λ (entry : HomeEntry). transaction_before entry.transaction k) s.homes no_entry o (lists_none f.none).1
          (subst (λ c. o < c) (sym homes) l)

  -- what each block says of the fabric
  pub is_finished : ((o : ℕ) → o < block_count → NoneOfBlockUnfinished (length s.nodes) (block_seen s t o) k) →
      length s.homes ≡ block_count → NothingUnfinished s k
  is_finished each homes = record {
    now = first.now;
    none = none_listed
        (all_none (λ node. unfinished_node node k) s.nodes first_node
        (λ n l. both_none _ _ (miss_finished (node_at s n).cache.miss k (first.miss n l))
        (put_finished (node_at s n).cache.put k (first.put n l))))
        (all_none (λ (entry : HomeEntry). transaction_before entry.transaction k) s.homes no_entry
        (λ b l. home_finished (home_of s b).transaction k (each b (subst (λ c. b < c) homes l)).home));
  }
    where
      first : NoneOfBlockUnfinished (length s.nodes) (block_seen s t 0) k
      first = each 0 (omega arith)

module _ (s : Fabric) (t : GhostState) (kept : FabricInvariant s t) where
  -- nothing is unfinished before the point
  pub point_finished : NothingUnfinished s s.point
  point_finished = is_finished s t s.point (λ o l. kept_finished (length s.nodes) (block_seen s t o) (kept.blocks o l)) kept.shape.homes

  -- and none before the next, where every node has reported more
  pub reported_finished : (r : ℕ → Records) → ((b : ℕ) → b < block_count → RecordsInvariant (block_seen s t b) (r b)) →
      ((b n : ℕ) → b < block_count → n < length s.nodes → s.point < (r b).reported n) → NothingUnfinished s (s.point + 1)
  reported_finished r recorded above = is_finished s t (s.point + 1)
      (λ o l. nothing_unfinished (length s.nodes) (block_seen s t o) (r o) (kept.blocks o l) (recorded o l).reports
      (λ n q. above o n l q)) kept.shape.homes

  -- so the point may rise for each block
  pub rises_leads : NothingUnfinished s (s.point + 1) → (o : ℕ) → o < block_count →
      Leads (length s.nodes) (block_seen s t o) (λ r. r) (validate (length s.nodes) (block_seen s t o))
  rises_leads f o l = record {
    kept = λ k. event_kept (length s.nodes) (block_seen s t o) Validate k finished;
    records = λ r k v. validate_recorded (length s.nodes) (block_seen s t o) r 0 k v finished;
  }
    where
      finished : NoneOfBlockUnfinished (length s.nodes) (block_seen s t o) (s.point + 1)
      finished = none_unfinished s t (s.point + 1) f kept.shape.homes o l
