-- A report leads every block on: its number is at most the ready number that each block tells.
use Rattle.std.proofs.Common.{◌≡◌, ◌≢◌, ℕ, zero, suc, ◌+◌, ◌%◌, ◌<◌, ◌≤◌, Bool, true, false, List, [], ◌∷◌, length, refl, sym, subst, arith}
use Rattle.std.proofs.Common.{rules, if◌then◌else◌, nat_eq, Option, Some, None}
use Rattle.std.specs.Prelude.{slice_index_or}
use Rattle.std.proofs.lemmas.Bool.Decides.{nat_tests}
use Rattle.sn_base.specs.declared.event.Answer.TheVariants.{NetFull, Reported}
use Rattle.sn_msg.specs.declared.Body.TheVariants.{Ready}
use Rattle.sn_model.specs.Caches.{Miss, Put, block_count}
use Rattle.sn_model.specs.CacheRows.{send}
use Rattle.sn_model.specs.Homes.{HomeEntry, Transaction}
use Rattle.sn_model.specs.Fabric.{Fabric, node_at, home_of, home_node, no_entry, FabricStep, step_refused}
use Rattle.sn_model.specs.Net.{routes_of, sending, is_full}
use Rattle.sn_model.specs.NodeEvents.{step_of_report, ready_of, least_begun, begun_by, issued_by, put_issued_by}
use Rattle.sn_coherence.specs.Block as block
use Rattle.sn_coherence.specs.OtherEvents.{report}
use Rattle.sn_coherence.specs.Events.{IsReady, Report}
use Rattle.fabric_coherence.specs.View.{GhostState, block_seen, miss_seen, put_seen, put_issued, kind_open, begun_of}
use Rattle.fabric_coherence.specs.Steps.{IsShaped, losing, lost_at_once}
use Rattle.fabric_coherence.specs.Coherent.{FabricInvariant}
use Rattle.fabric_coherence.specs.Leads.{Goes, Moves}
use Rattle.fabric_coherence.proofs.NetShape.{with_net-shaped, posted-shaped, net-shaped}
use Rattle.fabric_coherence.proofs.NodeOther.{report-seen}
use Rattle.fabric_coherence.proofs.KeptCommon.{frames_stay, quiet_losing, goes_each, as_it_is, by_test}

-- each least is at most what it was made of

begun_low : (now : ℕ) (transaction : Option Transaction) → begun_by now transaction ≤ now
begun_low now None = omega arith
begun_low now (Some transaction) = omega arith

begun_seen : (now : ℕ) (transaction : Option Transaction) → kind_open transaction ≢ block.Idle →
    begun_by now transaction ≤ begun_of transaction
begun_seen now None opened = absurd (opened refl)
begun_seen now (Some transaction) opened = omega arith

issued_low : (now : ℕ) (miss : Option Miss) → issued_by now miss ≤ now
issued_low now None = omega arith
issued_low now (Some miss) = omega arith

issued_here : (now b : ℕ) (miss : Miss) (c : Bool) → nat_eq miss.block b ≡ c → issued_by now (Some miss) ≤ (miss_seen b (Some miss)).issued
issued_here now b miss c e = grind (arith, nat_tests)

issued_seen : (now b : ℕ) (miss : Option Miss) → (miss_seen b miss).want ≢ block.Nothing → issued_by now miss ≤ (miss_seen b miss).issued
issued_seen now b None opened = absurd (opened refl)
issued_seen now b (Some miss) opened = issued_here now b miss (nat_eq miss.block b) refl

put_low : (now : ℕ) (put : Option Put) → put_issued_by now put ≤ now
put_low now None = omega arith
put_low now (Some put) = omega arith

put_seen_low : (now b : ℕ) (put : Option Put) → put_seen b put ≢ block.NoPut → put_issued_by now put ≤ put_issued put
put_seen_low now b None opened = absurd (opened refl)
put_seen_low now b (Some put) opened = omega arith

-- the least of the transactions is at most the node's interval, and at most where each one of its homes was begun

least_step : (rest now : ℕ) (mine : Bool) (transaction : Option Transaction) → rest ≤ now →
    (if mine then begun_by rest transaction else rest) ≤ now
least_step rest now true transaction l = let k : begun_by rest transaction ≤ rest = begun_low rest transaction in omega arith
least_step rest now false transaction l = l

least_low : (now nodes n start : ℕ) (homes : List HomeEntry) → least_begun now nodes n start homes ≤ now
least_low now nodes n start [] = omega arith
least_low now nodes n start (entry ∷ homes) =
    least_step (least_begun now nodes n (start + 1) homes) now (nat_eq (start % nodes) n) entry.transaction
    (least_low now nodes n (start + 1) homes)

least_first : (rest : ℕ) (mine : Bool) (transaction : Option Transaction) → mine ≡ true → kind_open transaction ≢ block.Idle →
    (if mine then begun_by rest transaction else rest) ≤ begun_of transaction
least_first rest true transaction e opened = begun_seen rest transaction opened
least_first rest false transaction e opened = grind arith

is_of : (h n : ℕ) → h ≡ n → nat_eq h n ≡ true
is_of h n e = grind (arith, nat_tests)

least_of : (now nodes n start : ℕ) (homes : List HomeEntry) (i : ℕ) → i < length homes → (start + i) % nodes ≡ n →
    kind_open (slice_index_or homes i no_entry).transaction ≢ block.Idle →
    least_begun now nodes n start homes ≤ begun_of (slice_index_or homes i no_entry).transaction
least_of now nodes n start [] i l e opened = absurd (omega arith)
least_of now nodes n start (entry ∷ homes) zero l e opened =
    let q : start + zero ≡ start = omega arith in
    least_first (least_begun now nodes n (start + 1) homes) (nat_eq (start % nodes) n) entry.transaction
    (is_of (start % nodes) n (subst (λ k. k % nodes ≡ n) q e)) opened
least_of now nodes n start (entry ∷ homes) (suc i) l e opened =
    let q : start + suc i ≡ start + 1 + i = omega arith in
    least_step (least_begun now nodes n (start + 1) homes) (begun_of (slice_index_or homes i no_entry).transaction)
    (nat_eq (start % nodes) n) entry.transaction
    (least_of now nodes n (start + 1) homes i (omega arith) (subst (λ k. k % nodes ≡ n) q e) opened)

module _ (s : Fabric) (t : GhostState) (kept : FabricInvariant s t) (n : ℕ) where
  abbrev homes_least : ℕ
  homes_least = least_begun (node_at s n).now (length s.nodes) n 0 s.homes

  abbrev miss_least : ℕ
  miss_least = issued_by homes_least (node_at s n).cache.miss

  abbrev least : ℕ
  least = put_issued_by miss_least (node_at s n).cache.put

  least_is : ready_of s n ≡ least
  unfolding ready_of
  least_is = refl

  below_miss : least ≤ miss_least
  below_miss = put_low miss_least (node_at s n).cache.put

  below_homes : least ≤ homes_least
  below_homes =
      let a : least ≤ miss_least = below_miss in let b : miss_least ≤ homes_least = issued_low homes_least (node_at s n).cache.miss in
      omega arith

  at_most : (x y z : ℕ) → x ≤ y → y ≤ z → x ≤ z
  at_most x y z l k = omega arith

  least-ready : (b : ℕ) → b < block_count → IsReady (block_seen s t b) n least
  least-ready b w = record {
    of_now = at_most least homes_least (node_at s n).now below_homes (least_low (node_at s n).now (length s.nodes) n 0 s.homes);
    of_miss =
        λ opened. at_most least miss_least (miss_seen b (node_at s n).cache.miss).issued below_miss
        (issued_seen homes_least b (node_at s n).cache.miss opened);
    of_put = λ opened. put_seen_low miss_least b (node_at s n).cache.put opened;
    of_home = λ e opened. at_most least homes_least (begun_of (home_of s b).transaction) below_homes
        (least_of (node_at s n).now (length s.nodes) n 0 s.homes b (subst (λ k. b < k) (sym kept.shape.homes) w) (home_is e) opened);
  }
    where
      home_is : n ≡ home_node s b → (0 + b) % length s.nodes ≡ n
      home_is e = let q : b ≡ 0 + b = omega arith in subst (λ k. k % length s.nodes ≡ n) q (sym e)

  report-ready : (b : ℕ) → b < block_count → IsReady (block_seen s t b) n (ready_of s n)
  report-ready b w = subst (IsReady (block_seen s t b) n) (sym least_is) (least-ready b w)

  -- the report, where the network has room for it
  abbrev sends : FabricStep
  sends = sending s n 0 (send 0 (Ready (ready_of s n)) ∷ []) (Reported (ready_of s n))

  first_block : 0 < block_count
  first_block = search rules

  module _ (l : n < length s.nodes) where
    report-shaped : IsShaped sends.fabric
    report-shaped = with_net-shaped s sends.fabric.net kept.shape
        (posted-shaped (routes_of s) s.net n (node_at s n).now 0 (send 0 (Ready (ready_of s n)) ∷ []) (length s.nodes) l first_block
        ((kept.shape.some, kept.shape.some), tt) (net-shaped s kept.shape))

    report_goes : Goes s t (λ b r. r) sends.fabric t
    report_goes = goes_each s t (λ b r. r) sends.fabric t refl (frames_stay s t) report-shaped
        (λ b. losing (report (block_seen s t b) n (ready_of s n)) (lost_at_once sends.sent))
        (λ b w. report-seen s t n b (ready_of s n) kept.shape)
        (λ b w. quiet_losing (length s.nodes) (block_seen s t b) (Report n (ready_of s n)) (lost_at_once sends.sent)
        (l, report-ready b w) tt)

    -- a report
    pub reported_moves : Moves s t (step_of_report s n)
    reported_moves = by_test s t (is_full s 1) (step_refused s NetFull) sends (λ e. as_it_is s t NetFull kept.shape) (λ e. (t, report_goes))
