-- How many blocks each cache owns, from event to event: numbers that are moved by the lines that an event touched are right again.
use Rattle.std.proofs.Common.{◌≡◌, ◌≢◌, ℕ, zero, suc, ◌+◌, ◌-◌, ◌<◌, ◌≤◌, Bool, true, false, if◌then◌else◌, nat_eq, List, length, Option, Some, None}
use Rattle.std.proofs.Common.{refl, sym, ap, subst, ◌∙◌, arith, ◌⊎◌, inl, inr, length-set, get_or-set_same, get_or-set_other}
use Rattle.std.specs.Prelude.{slice_index, slice_index_or, replicate, max, is_some}
use Rattle.std.proofs.lemmas.Bool.{cases_eq, eq-eqb, ne_eqb}
use Rattle.std.proofs.lemmas.List.{get_or-replicate, length-map}
use Rattle.sn_base.specs.Image.{ImageData}
use Rattle.sn_model.specs.Caches.{Line, block_count, empty_lines, line_of, no_line, is_owned}
use Rattle.sn_model.specs.Cuts.{names_at}
use Rattle.sn_model.specs.Fabric.{Fabric, Node, first_fabric, first_node, home_of}
use Rattle.sn_model.specs.Homes.{Holder, HomeEntry, Itself, OfCache, is_owner}
use Rattle.sn_model.specs.PointEvents.{fabric_restored_to, restored_node}
use Rattle.sn_model.specs.RecoveryPoint.{IsOwned, HasOneHolderWith}
use Rattle.fabric_coherence.proofs.Recovery.{restored_home_at}
use Rattle.run_statistics.specs.declared.owned.TouchedLines.{TouchedLines}
use Rattle.run_statistics.specs.Numbers.{bounded_sum, with_change, no_numbers}
use Rattle.run_statistics.specs.Owned.{one_if, owns, owned_blocks, owns_at, owned_blocks_at, owned_at_point, owned_among, AreThere, with_lines, AreOwned}
use Rattle.run_statistics.proofs.CountBelow.{all-at-most, one-at-most, none-passes, same-below, two-differ}
use Rattle.run_statistics.proofs.Greatest.{length-greatest, greatest-at}
use Rattle.run_statistics.proofs.Owners.{SameOwners, FollowsLines}

-- nothing is owned at the start

pub reads_default : {A : Type 0} (n i : ℕ) (x : A) → slice_index_or (replicate n x) i x ≡ x
reads_default zero i x = refl
reads_default (suc n) zero x = refl
reads_default (suc n) (suc i) x = reads_default n i x

none_owned : (image : ImageData) (nodes n b : ℕ) → owns (first_fabric image nodes) n b ≡ false
unfolding empty_lines
none_owned image nodes n b =
    ap (λ (x : Node). is_owned (line_of x.cache b).state) (reads_default nodes n first_node)
    ∙ ap (λ (x : Line). is_owned x.state) (reads_default block_count b no_line)

pub none-owned : (image : ImageData) (nodes : ℕ) → nodes ≤ 16 → AreOwned nodes (first_fabric image nodes) no_numbers
none-owned image nodes few = record {
  places = refl;
  owned = λ n l. get_or-replicate 32 n 0 0 (omega (arith, l, few)) ∙ sym (none-passes (owns (first_fabric image nodes) n) block_count (λ b m. none_owned image nodes n b));
}

-- lines that were touched

no_more_than_two : (s : Fabric) (l : Option TouchedLines) → owned_among s l ≤ 2
no_more_than_two s None = omega arith
no_more_than_two s (Some l) = by (nat_eq l.missed l.block) where
  by : (test : Bool) → one_if (owns s l.node l.block) + (if test then 0 else one_if (owns s l.node l.missed)) ≤ 2
  by true = omega (arith, one-at-most (owns s l.node l.block))
  by false = omega (arith, one-at-most (owns s l.node l.block), one-at-most (owns s l.node l.missed))

-- a number that is moved by what was and what is there
moved_number : (old new had has : ℕ) → old + has ≡ new + had → old ≤ 65536 → has ≤ 2 → bounded_sum old has - had ≡ new
moved_number old new had has e few two = grind (arith, e, few, two)

module _ (nodes : ℕ) (s t : Fabric) (old : List ℕ) (few : nodes ≤ 16) (h : AreOwned nodes s old) where
  pub untouched : SameOwners s t → AreOwned nodes t old
  untouched same = record {
    places = h.places;
    owned = λ n l. h.owned n l ∙ same-below (owns s n) (owns t n) block_count (λ b m. sym (same n b));
  }

  module _ (l : TouchedLines) (there : AreThere nodes (Some l)) (follows : FollowsLines s t (Some l)) where
    balanced : owned_blocks s l.node + owned_among t (Some l) ≡ owned_blocks t l.node + owned_among s (Some l)
    balanced =
        two-differ (owns s l.node) (owns t l.node) l.block l.missed block_count (λ b d m. sym (follows l.node b (λ e. (d, m)))) there.1 there.2

    here : slice_index (with_change old l.node (owned_among t (Some l)) (owned_among s (Some l))) l.node ≡ owned_blocks t l.node
    here =
        get_or-set_same old l.node _ 0 (let p = h.places in let q = there.0 in omega (arith, p, q, few))
        ∙ ap (λ k. bounded_sum k (owned_among t (Some l)) - owned_among s (Some l)) (h.owned l.node there.0)
        ∙ moved_number (owned_blocks s l.node) (owned_blocks t l.node) (owned_among s (Some l)) (owned_among t (Some l)) balanced
        (all-at-most (owns s l.node) block_count) (no_more_than_two t (Some l))

    elsewhere : (n : ℕ) → n < nodes → n ≢ l.node →
        slice_index (with_change old l.node (owned_among t (Some l)) (owned_among s (Some l))) n ≡ owned_blocks t n
    elsewhere n below d =
        get_or-set_other old l.node n _ 0 d ∙ h.owned n below
        ∙ same-below (owns s n) (owns t n) block_count (λ b m. sym (follows n b (λ e. absurd (d e))))

    anywhere : (n : ℕ) → n < nodes → (n ≡ l.node) ⊎ (n ≡ l.node → ⊥) →
        slice_index (with_change old l.node (owned_among t (Some l)) (owned_among s (Some l))) n ≡ owned_blocks t n
    anywhere n below (inl same) = subst (λ k. slice_index (with_change old l.node (owned_among t (Some l)) (owned_among s (Some l))) k ≡ owned_blocks t k) (sym same) here
    anywhere n below (inr other) = elsewhere n below other

    touched : AreOwned nodes t (with_change old l.node (owned_among t (Some l)) (owned_among s (Some l)))
    touched = record { places = length-set old l.node _ ∙ h.places; owned = λ n below. anywhere n below (cases_eq n l.node) }

  pub moved-on : (lines : Option TouchedLines) → AreThere nodes lines → FollowsLines s t lines →
      AreOwned nodes t (with_lines old lines (owned_among s lines) (owned_among t lines))
  moved-on None there follows = untouched follows
  moved-on (Some l) there follows = touched l there follows

-- after a recovery each cache owns what it owned at the recovery point: its one owner at the cut has a block, and its one owner after it

named_owner : (s : Fabric) (b : ℕ) (content : List ℕ) (holder : Holder) → IsOwned s b content holder → (n : ℕ) → n < length s.nodes →
    is_owner holder n ≡ owns s n b
named_owner s b content (Itself kept) is n l = sym (ap is_owned (is.1 n l))
named_owner s b content (OfCache owner) is n l = go (cases_eq owner n) where
  go : (owner ≡ n) ⊎ (owner ≡ n → ⊥) → nat_eq owner n ≡ owns s n b
  go (inl same) =
      eq-eqb owner n same ∙ sym (ap (λ (x : Line). is_owned x.state) (is.1)) ∙ ap (λ k. owns s k b) same
  go (inr other) = ne_eqb owner n other ∙ sym (ap is_owned (is.2 n l (λ e. other (sym e))))

named_then : (s : Fabric) (b k : ℕ) (content : List ℕ) (holder : Holder) → HasOneHolderWith s b k content holder → (n : ℕ) → n < length s.nodes →
    is_owner holder n ≡ owns_at s k n b
named_then s b k content (Itself kept) is n l = sym (ap is_some (is.1 n l))
named_then s b k content (OfCache owner) is n l = go (cases_eq owner n) where
  go : (owner ≡ n) ⊎ (owner ≡ n → ⊥) → nat_eq owner n ≡ owns_at s k n b
  go (inl same) = eq-eqb owner n same ∙ sym (ap is_some (is.1)) ∙ ap (λ j. owns_at s k j b) same
  go (inr other) = ne_eqb owner n other ∙ sym (ap is_some (is.2 n l (λ e. other (sym e))))

no_less : (k : ℕ) → max 0 k ≡ k
no_less k = grind arith

module _ (nodes : ℕ) (s t : Fabric) (content : ℕ → List ℕ) (same : t ≡ fabric_restored_to s s.point) (homes : length s.homes ≡ block_count)
    (before : length s.nodes ≡ nodes)
    (cut : (b : ℕ) → b < block_count → HasOneHolderWith s b s.point (content b) (names_at s b s.point))
    (owned : (b : ℕ) → b < block_count → IsOwned t b (content b) (home_of t b).holder) where
  name_kept : (b : ℕ) → b < block_count → (home_of (fabric_restored_to s s.point) b).holder ≡ names_at s b s.point
  unfolding fabric_restored_to
  name_kept b l = ap (λ (e : HomeEntry). e.holder) (restored_home_at s s.point b (subst (λ c. b < c) (sym homes) l))

  count_kept : length (fabric_restored_to s s.point).nodes ≡ length s.nodes
  unfolding fabric_restored_to
  count_kept = length-map s.nodes (restored_node s.point)

  after : length t.nodes ≡ nodes
  after = ap (λ (x : Fabric). length x.nodes) same ∙ count_kept ∙ before

  owner_kept : (n b : ℕ) → n < nodes → b < block_count → owns_at s s.point n b ≡ owns t n b
  owner_kept n b l m =
      sym (named_then s b s.point (content b) (names_at s b s.point) (cut b m) n (omega (arith, l, before)))
      ∙ ap (λ h. is_owner h n) (sym (ap (λ (x : Fabric). (home_of x b).holder) same ∙ name_kept b m))
      ∙ named_owner t b (content b) (home_of t b).holder (owned b m) n (omega (arith, l, after))

  pub owned-again : nodes ≤ 16 → AreOwned nodes t (owned_at_point nodes s)
  owned-again few = record {
    places = length-greatest (owned_blocks_at s s.point) nodes no_numbers;
    owned =
        λ n l. greatest-at (owned_blocks_at s s.point) nodes n no_numbers l (omega (arith, few))
        ∙ ap (λ k. max k (owned_blocks_at s s.point n)) (get_or-replicate 32 n 0 0 (omega (arith, l, few)))
        ∙ no_less (owned_blocks_at s s.point n)
        ∙ same-below (owns_at s s.point n) (owns t n) block_count (λ b m. owner_kept n b l m);
  }
