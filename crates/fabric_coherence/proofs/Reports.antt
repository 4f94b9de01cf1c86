-- What is at most the ready number as each block tells it is at most the ready number of the fabric.
use Rattle.std.proofs.Common.{◌≡◌, ◌≢◌, ℕ, zero, suc, ◌+◌, ◌%◌, ◌<◌, ◌≤◌, Bool, true, false, List, [], ◌∷◌, length, refl, sym, subst, arith}
use Rattle.std.proofs.Common.{if◌then◌else◌, nat_eq, Option, Some, None}
use Rattle.std.specs.Prelude.{slice_index_or}
use Rattle.std.proofs.lemmas.Bool.Decides.{nat_tests}
use Rattle.sn_model.specs.Caches.{Miss, Put, block_count}
use Rattle.sn_model.specs.Homes.{HomeEntry, Transaction}
use Rattle.sn_model.specs.Fabric.{Fabric, node_at, home_of, no_entry}
use Rattle.sn_model.specs.NodeEvents.{ready_of, least_begun, begun_by, issued_by, put_issued_by}
use Rattle.sn_coherence.specs.Block as block
use Rattle.sn_coherence.specs.Events.{IsReady}
use Rattle.fabric_coherence.specs.View.{GhostState, block_seen, miss_seen, put_seen, put_issued, kind_open, begun_of}
use Rattle.fabric_coherence.specs.Coherent.{FabricInvariant}

below_begun : (k now : ℕ) (transaction : Option Transaction) → k ≤ now → (kind_open transaction ≢ block.Idle → k ≤ begun_of transaction) →
    k ≤ begun_by now transaction
below_begun k now None l h = l
below_begun k now (Some transaction) l h = grind (arith, nat_tests)

below_issued : (k now : ℕ) (miss : Option Miss) → k ≤ now → ((miss_seen 0 miss).want ≢ block.Nothing → k ≤ (miss_seen 0 miss).issued) →
    k ≤ issued_by now miss
below_issued k now None l h = l
below_issued k now (Some miss) l h = grind (arith, nat_tests)

below_put : (k now : ℕ) (put : Option Put) → k ≤ now → (put_seen 0 put ≢ block.NoPut → k ≤ put_issued put) → k ≤ put_issued_by now put
below_put k now None l h = l
below_put k now (Some put) l h = grind (arith, nat_tests)

-- the homes of a node, from a block on
least_step : (k rest : ℕ) (mine : Bool) (transaction : Option Transaction) → k ≤ rest →
    (mine ≡ true → kind_open transaction ≢ block.Idle → k ≤ begun_of transaction) → k ≤ (if mine then begun_by rest transaction else rest)
least_step k rest true transaction l h = below_begun k rest transaction l (h refl)
least_step k rest false transaction l h = l

mine_is : (h n : ℕ) → nat_eq h n ≡ true → h ≡ n
mine_is h n e = grind (arith, nat_tests)

below_least : (k now nodes n start : ℕ) (homes : List HomeEntry) → k ≤ now →
    ((i : ℕ) → i < length homes → (start + i) % nodes ≡ n → kind_open (slice_index_or homes i no_entry).transaction ≢ block.Idle →
    k ≤ begun_of (slice_index_or homes i no_entry).transaction) →
    k ≤ least_begun now nodes n start homes
below_least k now nodes n start [] l h = l
below_least k now nodes n start (entry ∷ homes) l h =
    let q : start ≡ start + zero = omega arith in
    least_step k (least_begun now nodes n (start + 1) homes) (nat_eq (start % nodes) n) entry.transaction
    (below_least k now nodes n (start + 1) homes l
    (λ i m e. let r : start + 1 + i ≡ start + suc i = omega arith in h (suc i) (omega arith) (subst (λ x. x % nodes ≡ n) r e)))
    (λ e. h zero (omega arith) (subst (λ x. x % nodes ≡ n) q (mine_is (start % nodes) n e)))

pub ready_above : (s : Fabric) (t : GhostState) (n k : ℕ) → FabricInvariant s t → ((b : ℕ) → b < block_count → IsReady (block_seen s t b) n k) →
    k ≤ ready_of s n
unfolding ready_of
ready_above s t n k kept each =
    below_put k _ (node_at s n).cache.put
    (below_issued k _ (node_at s n).cache.miss
    (below_least k (node_at s n).now (length s.nodes) n 0 s.homes first.of_now home) first.of_miss)
    first.of_put
  where
    first : IsReady (block_seen s t 0) n k
    first = each 0 (omega arith)

    home : (b : ℕ) → b < length s.homes → (0 + b) % length s.nodes ≡ n → kind_open (home_of s b).transaction ≢ block.Idle →
        k ≤ begun_of (home_of s b).transaction
    home b l e =
        (each b (subst (λ c. b < c) kept.shape.homes l)).of_home
        (let q : 0 + b ≡ b = omega arith in sym (subst (λ x. x % length s.nodes ≡ n) q e))
