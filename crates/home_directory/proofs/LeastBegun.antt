-- What a home has open counts in a report of its node: the walk over all blocks that the machine's definitions take comes
-- to the least of the home's own entries.
use Rattle.std.proofs.Common.{◌≡◌, ◌≢◌, ℕ, zero, suc, ◌+◌, ◌-◌, ◌*◌, ◌/◌, ◌%◌, ◌<◌, ◌≤◌, Bool, true, false, List, length, get_or, drop}
use Rattle.std.proofs.Common.{refl, sym, ap, ◌∙◌, subst, arith, ⊎_elim}
use Rattle.std.specs.Prelude.{nat_eq, min, if◌then◌else◌, Option, Some, None}
use Rattle.std.proofs.Math.Nat.{mod-lt, div-add-mod, mul_comm, add-div_left}
use Rattle.std.proofs.lemmas.Nat.{div-add-mod', div-mul-add, le-div}
use Rattle.std.proofs.lemmas.Bool.{cases_lt}
use Rattle.std.proofs.lemmas.Bool.Decides.{nat_tests}
use Rattle.std.proofs.lemmas.List.{drop_more, drop_all}
use Rattle.sn_model.specs.Caches.{block_count}
use Rattle.sn_model.specs.Homes.{HomeEntry, Transaction}
use Rattle.sn_model.specs.Fabric.{no_entry}
use Rattle.sn_model.specs.NodeEvents.{begun_by, least_begun}
use Rattle.home_directory.specs.Home.{places_of, begun_of, lesser_of, least_open}

-- a block's place is one of its home's
pub place_inside : (b n : ℕ) → 0 < n → b < block_count → b / n < places_of (b % n) n
place_inside b n l h =
    let e : n * (b / n) + b % n ≡ b = div-add-mod b n in
    let c : n * (b / n) ≡ b / n * n = mul_comm n (b / n) in
    let k : b / n * n ≤ 65535 - b % n = omega arith in
    let d : b / n ≤ (65535 - b % n) / n = le-div (b / n) (65535 - b % n) n l k in
    omega arith

-- how many of the blocks before one have their home at node n of so many
before : ℕ → ℕ → ℕ → ℕ
before nodes n b = (b + (nodes - 1 - n)) / nodes

sum_at : (b m n nodes : ℕ) → n < nodes → m + n ≡ b → b + (nodes - 1 - n) ≡ m + (nodes - 1)
sum_at b m n nodes l e = omega arith

sum_next : (b m n nodes : ℕ) → n < nodes → m + n ≡ b → b + 1 + (nodes - 1 - n) ≡ nodes + (m + 0)
sum_next b m n nodes l e = omega arith

sum_low : (b m r n nodes : ℕ) → n < nodes → r < n → m + r ≡ b → b + (nodes - 1 - n) ≡ m + (r + (nodes - 1 - n))
sum_low b m r n nodes l h e = omega arith

sum_low_next : (b m r n nodes : ℕ) → n < nodes → r < n → m + r ≡ b → b + 1 + (nodes - 1 - n) ≡ m + (r + 1 + (nodes - 1 - n))
sum_low_next b m r n nodes l h e = omega arith

sum_high : (b m r n nodes : ℕ) → n < nodes → n < r → m + r ≡ b → b + (nodes - 1 - n) ≡ nodes + (m + (r - 1 - n))
sum_high b m r n nodes l h e = omega arith

sum_high_next : (b m r n nodes : ℕ) → n < nodes → n < r → m + r ≡ b → b + 1 + (nodes - 1 - n) ≡ nodes + (m + (r - n))
sum_high_next b m r n nodes l h e = omega arith

before_at : (nodes n b : ℕ) → n < nodes → b % nodes ≡ n → before nodes n b ≡ b / nodes
unfolding before
before_at nodes n b l e =
    ap (λ (k : ℕ). k / nodes)
    (sum_at b (b / nodes * nodes) n nodes l (ap (λ (r : ℕ). b / nodes * nodes + r) (sym e) ∙ div-add-mod' b nodes))
    ∙ div-mul-add (b / nodes) nodes (nodes - 1) (omega arith)

before_next : (nodes n b : ℕ) → n < nodes → b % nodes ≡ n → before nodes n (b + 1) ≡ b / nodes + 1
unfolding before
before_next nodes n b l e =
    ap (λ (k : ℕ). k / nodes)
    (sum_next b (b / nodes * nodes) n nodes l (ap (λ (r : ℕ). b / nodes * nodes + r) (sym e) ∙ div-add-mod' b nodes))
    ∙ add-div_left (b / nodes * nodes + 0) (omega arith)
    ∙ ap (λ (k : ℕ). k + 1) (div-mul-add (b / nodes) nodes 0 (omega arith))

before_other : (nodes n b : ℕ) → n < nodes → b % nodes ≢ n → before nodes n (b + 1) ≡ before nodes n b
unfolding before
before_other nodes n b l ne =
    let m : b % nodes < nodes = mod-lt b (omega arith) in
    let e : b / nodes * nodes + b % nodes ≡ b = div-add-mod' b nodes in
    ⊎_elim
    (λ (h : b % nodes < n).
    ap (λ (k : ℕ). k / nodes) (sum_low_next b (b / nodes * nodes) (b % nodes) n nodes l h e)
    ∙ div-mul-add (b / nodes) nodes (b % nodes + 1 + (nodes - 1 - n)) (omega arith)
    ∙ sym (ap (λ (k : ℕ). k / nodes) (sum_low b (b / nodes * nodes) (b % nodes) n nodes l h e)
    ∙ div-mul-add (b / nodes) nodes (b % nodes + (nodes - 1 - n)) (omega arith)))
    (λ (g : n ≤ b % nodes).
    let h : n < b % nodes = omega arith in
    ap (λ (k : ℕ). k / nodes) (sum_high_next b (b / nodes * nodes) (b % nodes) n nodes l h e)
    ∙ add-div_left (b / nodes * nodes + (b % nodes - n)) (omega arith)
    ∙ ap (λ (k : ℕ). k + 1) (div-mul-add (b / nodes) nodes (b % nodes - n) (omega arith))
    ∙ sym (
    ap (λ (k : ℕ). k / nodes) (sum_high b (b / nodes * nodes) (b % nodes) n nodes l h e)
    ∙ add-div_left (b / nodes * nodes + (b % nodes - 1 - n)) (omega arith)
    ∙ ap (λ (k : ℕ). k + 1) (div-mul-add (b / nodes) nodes (b % nodes - 1 - n) (omega arith))
    ))
    (cases_lt (b % nodes) n)

last_sum : (n nodes : ℕ) → n < nodes → n < 65536 → 65536 + (nodes - 1 - n) ≡ nodes + (65535 - n)
last_sum n nodes l h = omega arith

before_end : (nodes n : ℕ) → n < nodes → n < 65536 → before nodes n 65536 ≡ places_of n nodes
unfolding before
before_end nodes n l h = ap (λ (k : ℕ). k / nodes) (last_sum n nodes l h) ∙ add-div_left (65535 - n) (omega arith)

-- one more entry counts the same in both
open_step : (x now : ℕ) (t : Option Transaction) (rest : Option ℕ) → Some x ≡ lesser_of (Some now) rest →
    Some (begun_by x t) ≡ lesser_of (Some now) (lesser_of (begun_of t) rest)
open_step x now None rest e = e
open_step x now (Some t) None e = let k : x ≡ now = cc in ap (λ (j : ℕ). Some j) (omega arith)
open_step x now (Some t) (Some i) e = let k : x ≡ min now i = cc in ap (λ (j : ℕ). Some j) (omega arith)

-- the least begun of a node's blocks from one on is that of its home's entries from its place on
module _ (homes entries : List HomeEntry) (nodes n now : ℕ) (l : n < nodes) (few : nodes ≤ 16) (count : length homes ≡ block_count) (filled : length entries ≡ places_of n nodes) (same : (b : ℕ) → b < block_count → b % nodes ≡ n → get_or homes b no_entry ≡ get_or entries (b / nodes) no_entry) where
  inside_here : (b : ℕ) → b % nodes ≡ n → b < block_count → b / nodes < length entries
  inside_here b e h = rw filled (subst (λ (k : ℕ). b / nodes < places_of k nodes) e (place_inside b nodes (omega arith) h))

  least_step : (b : ℕ) (c : Bool) → nat_eq (b % nodes) n ≡ c → b < block_count →
      Some (least_begun now nodes n (b + 1) (drop (b + 1) homes))
      ≡ lesser_of (Some now) (least_open (drop (before nodes n (b + 1)) entries)) →
      Some (if c then begun_by (least_begun now nodes n (b + 1) (drop (b + 1) homes)) (get_or homes b no_entry).transaction
      else least_begun now nodes n (b + 1) (drop (b + 1) homes))
      ≡ lesser_of (Some now) (least_open (drop (before nodes n b) entries))
  least_step b false c h ih =
      ih ∙ ap (λ (j : ℕ). lesser_of (Some now) (least_open (drop j entries))) (before_other nodes n b l (grind (arith, nat_tests, c)))
  least_step b true c h ih =
      let e : b % nodes ≡ n = grind (arith, nat_tests, c) in
      open_step (least_begun now nodes n (b + 1) (drop (b + 1) homes)) now (get_or homes b no_entry).transaction
      (least_open (drop (b / nodes + 1) entries))
      (ih ∙ ap (λ (j : ℕ). lesser_of (Some now) (least_open (drop j entries))) (before_next nodes n b l e))
      ∙ ap (λ (x : HomeEntry). lesser_of (Some now) (lesser_of (begun_of x.transaction) (least_open (drop (b / nodes + 1) entries))))
      (same b h e)
      ∙ sym (ap (λ (xs : List HomeEntry). lesser_of (Some now) (least_open xs))
      (ap (λ (j : ℕ). drop j entries) (before_at nodes n b l e) ∙ drop_more entries (b / nodes) no_entry (inside_here b e h)))

  least_from : (k b : ℕ) → b + k ≡ block_count →
      Some (least_begun now nodes n b (drop b homes)) ≡ lesser_of (Some now) (least_open (drop (before nodes n b) entries))
  least_from zero b e =
      let h : b ≡ 65536 = omega arith in
      ap (λ (xs : List HomeEntry). Some (least_begun now nodes n b xs)) (drop_all b homes (omega (arith, count)))
      ∙ sym (ap (λ (xs : List HomeEntry). lesser_of (Some now) (least_open xs))
      (ap (λ (j : ℕ). drop (before nodes n j) entries) h ∙ ap (λ (j : ℕ). drop j entries) (before_end nodes n l (omega arith))
      ∙ drop_all (places_of n nodes) entries (omega (arith, filled))))
  least_from (suc k) b e =
      ap (λ (xs : List HomeEntry). Some (least_begun now nodes n b xs)) (drop_more homes b no_entry (omega (arith, count)))
      ∙ least_step b (nat_eq (b % nodes) n) refl (omega arith) (least_from k (b + 1) (omega arith))

  low_div : before nodes n 0 ≡ 0
  unfolding before
  low_div =
      let e : 0 + (nodes - 1 - n) ≡ 0 * nodes + (nodes - 1 - n) = omega arith in
      ap (λ (k : ℕ). k / nodes) e ∙ div-mul-add 0 nodes (nodes - 1 - n) (omega arith)

  pub least-begun : Some (least_begun now nodes n 0 homes) ≡ lesser_of (Some now) (least_open entries)
  least-begun = least_from block_count 0 refl ∙ ap (λ (j : ℕ). lesser_of (Some now) (least_open (drop j entries))) low_div
