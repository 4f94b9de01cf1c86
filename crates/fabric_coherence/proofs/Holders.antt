-- What the sentences of a block say of its holders, in the words of the fabric's definitions.
use Rattle.std.proofs.Common.{true≢false, ◌≡◌, ◌≢◌, ◌∙◌, ℕ, ◌<◌, ◌≤◌, true, false, List, length, refl, sym, subst, ap, arith, Option, Some}
use Rattle.std.proofs.Common.{None}
use Rattle.std.proofs.lemmas.Bool.Decides.{nat_tests}
use Rattle.std.specs.Prelude.{is_some}
use Rattle.std.specs.Option.{option_map}
use Rattle.log_buffer.specs.Log.{LogEntry, entry_at, is_home_side, is_of_side}
use Rattle.sn_base.specs.declared.log.Old.{Old}
use Rattle.sn_base.specs.declared.log.Old.TheVariants.{NotOwned, Owned, WasHome, WasCache}
use Rattle.sn_model.specs.declared.cache.LineState.{LineState}
use Rattle.sn_model.specs.declared.cache.LineState.TheVariants as state
use Rattle.sn_model.specs.Caches.{Line, Miss, line_of, is_owned, is_writable_state, misses_on, block_count}
use Rattle.sn_model.specs.Cuts.{held_by, named_by, owned_content, holds_at, names_at, transaction_before}
use Rattle.sn_model.specs.Homes.{Holder, Itself, OfCache, Transaction}
use Rattle.sn_model.specs.Fabric.{Fabric, node_at, home_of, home_node}
use Rattle.sn_coherence.specs.Block as block
use Rattle.sn_coherence.specs.Consequences.{HasOneHolder as BlockHolder}
use Rattle.sn_coherence.specs.Invariant.{BlockInvariant}
use Rattle.sn_coherence.specs.Log.{was_owned, was_home, old_cache, old_or_now}
use Rattle.sn_coherence.proofs.WhatFollows.{kept_one_holder}
use Rattle.fabric_coherence.specs.View.{GhostState, block_seen, line_seen, miss_seen, is_itself, owner_of, kind_open, begun_of}
use Rattle.fabric_coherence.specs.Coherent.{FabricInvariant}
use Rattle.sn_model.specs.RecoveryPoint.{HasOneHolderWith}
use Rattle.fabric_coherence.specs.Holders.{HasOneWriter, HasHolder, IsCoherent}
use Rattle.fabric_coherence.proofs.Recovery.{entry_sided, IsSided}
use Rattle.fabric_coherence.proofs.HomeRows.{of-cache}

-- a cut's holder and name, as the block tells them

owned_told : (line : Line) (x : LineState) → is_some (owned_content line x) ≡ is_owned x
owned_told line state.Absent = refl
owned_told line state.Shared = refl
owned_told line state.Owned = refl
owned_told line state.Modified = refl
owned_told line state.Exclusive = refl

old_held : (old : Old) (line : Line) → is_some (held_by (Some old) line) ≡ was_owned old
old_held NotOwned line = refl
old_held (Owned content) line = refl
old_held (WasHome content) line = refl
old_held (WasCache node) line = refl

abbrev old_of : Option LogEntry → Option Old
old_of o = option_map (λ e. e.old) o

held_told : (o : Option LogEntry) (line : Line) → is_some (held_by (old_of o) line) ≡ old_or_now was_owned (old_of o) (is_owned line.state)
held_told None line = owned_told line line.state
held_told (Some e) line = old_held e.old line

old_named : (old : Old) (holder : Holder) → is_home_side old ≡ true →
    (is_itself (named_by (Some old) holder) ≡ was_home old) × (owner_of (named_by (Some old) holder) ≡ old_cache old)
old_named NotOwned holder side = absurd (grind (arith, side))
old_named (Owned content) holder side = absurd (grind (arith, side))
old_named (WasHome content) holder side = (refl, refl)
old_named (WasCache node) holder side = (refl, refl)

sided : (old : Old) → is_of_side true old ≡ true → is_home_side old ≡ true
sided old h = grind (arith, h)

named_told : (o : Option LogEntry) (holder : Holder) → IsSided true o →
    (is_itself (named_by (old_of o) holder) ≡ old_or_now was_home (old_of o) (is_itself holder))
    × (owner_of (named_by (old_of o) holder) ≡ old_or_now old_cache (old_of o) (owner_of holder))
named_told None holder side = (refl, refl)
named_told (Some e) holder side = old_named e.old holder (sided e.old side)

-- at checkpoint k the home names a cache exactly where that cache holds the block, and no other cache holds it
pub record HasOneHolder (s : Fabric) (b k : ℕ) : Type 0 where
  pub named : (n : ℕ) → n < length s.nodes → is_some (holds_at s n b k) ≡ true → names_at s b k ≡ OfCache n
  pub holds : (n : ℕ) → names_at s b k ≡ OfCache n → (n < length s.nodes) × (is_some (holds_at s n b k) ≡ true)

-- so it is held, with what stands there
none_held : (c : Option (List ℕ)) → (is_some c ≡ true → ⊥) → c ≡ None
none_held None h = refl
none_held (Some content) h = absurd (h refl)

with_content : (c : Option (List ℕ)) → is_some c ≡ true → (content : List ℕ) × (c ≡ Some content)
with_content None h = absurd (true≢false (sym h))
with_content (Some content) h = (content, refl)

module _ (s : Fabric) (b k : ℕ) (one : HasOneHolder s b k) where
  not_held : (x : Holder) → names_at s b k ≡ x → (n : ℕ) → n < length s.nodes → (x ≡ OfCache n → ⊥) → holds_at s n b k ≡ None
  not_held x e n l other = none_held (holds_at s n b k) (λ h. other (sym e ∙ one.named n l h))

  held_as : (x : Holder) → names_at s b k ≡ x → (content : List ℕ) × HasOneHolderWith s b k content x
  held_as (Itself named) e = (named, (refl, λ n l. not_held (Itself named) e n l (λ q. cc)))
  held_as (OfCache owner) e =
      let h = one.holds owner e in
      let c = with_content (holds_at s owner b k) h.1 in
      (c.0, (h.0, c.1, λ n l other. not_held (OfCache owner) e n l (λ q. other (sym (ap owner_of q)))))

  pub one_held : HasHolder s b k
  one_held = held_as (names_at s b k) refl

module _ (s : Fabric) (t : GhostState) (b : ℕ) where
  pub holds_is : (n k : ℕ) → is_some (holds_at s n b k) ≡ (block_seen s t b).holds n k
  holds_is n k = held_told (entry_at (node_at s n).log false b k) (line_of (node_at s n).cache b)

  pub names_home : (k : ℕ) → is_itself (names_at s b k) ≡ (block_seen s t b).named_home k
  names_home k =
      (named_told (entry_at (node_at s (home_node s b)).log true b k) (home_of s b).holder
      (entry_sided (node_at s (home_node s b)).log true b k)).0

  names_owner : (k : ℕ) → owner_of (names_at s b k) ≡ (block_seen s t b).named k
  names_owner k =
      (named_told (entry_at (node_at s (home_node s b)).log true b k) (home_of s b).holder
      (entry_sided (node_at s (home_node s b)).log true b k)).1

  -- nothing was begun below k
  begun_by : (x : Option Transaction) (k : ℕ) → transaction_before x k ≡ false → kind_open x ≢ block.Idle → k ≤ begun_of x
  begun_by None k h is = absurd (is refl)
  begun_by (Some x) k h is = grind (arith, nat_tests)

  names_cache : (n k : ℕ) → (block_seen s t b).named_home k ≡ false → (block_seen s t b).named k ≡ n → names_at s b k ≡ OfCache n
  names_cache n k h e = of-cache (names_at s b k) (names_home k ∙ h) ∙ ap OfCache (names_owner k ∙ e)

  pub holder_of : BlockInvariant (length s.nodes) (block_seen s t b) → (k : ℕ) → s.point ≤ k →
      transaction_before (home_of s b).transaction k ≡ false → HasOneHolder s b k
  holder_of kept k low begun =
      let one = kept_one_holder (length s.nodes) (block_seen s t b) kept k low (begun_by (home_of s b).transaction k begun) in record {
        named = λ n l h. let e = one.named n (sym (holds_is n k) ∙ h) in names_cache n k e.0 e.1;
        holds = λ n e. cached one n (ap is_itself e) (ap owner_of e);
      }
    where
      cached : BlockHolder (length s.nodes) (block_seen s t b) k → (n : ℕ) → is_itself (names_at s b k) ≡ false →
          owner_of (names_at s b k) ≡ n → (n < length s.nodes) × (is_some (holds_at s n b k) ≡ true)
      cached one n h e =
          let held = one.holds (sym (names_home k) ∙ h) in
          subst (λ m. (m < length s.nodes) × (is_some (holds_at s m b k) ≡ true)) (sym (names_owner k) ∙ e)
          (held.0, holds_is ((block_seen s t b).named k) k ∙ held.1)

  pub writable_seen : (x : LineState) → is_writable_state x ≡ true → block.is_writable (line_seen x) ≡ true
  writable_seen x h = grind (arith, h)

  absent_seen : (x : LineState) → line_seen x ≡ block.NoLine → x ≡ state.Absent
  absent_seen x h = grind (arith, h)

  pub misses_seen : (x : Option Miss) → misses_on x b ≡ false → block.is_here (miss_seen b x).want ≡ false
  misses_seen None h = refl
  misses_seen (Some x) h = grind (arith, nat_tests)

  pub writer_of : BlockInvariant (length s.nodes) (block_seen s t b) → HasOneWriter s b
  writer_of kept n m l q apart writes none =
      absent_seen (line_of (node_at s m).cache b).state
      (kept.sharing.writer_alone n m (writable_seen (line_of (node_at s n).cache b).state writes)
      (misses_seen (node_at s n).cache.miss none) apart)

pub coherent : (s : Fabric) (t : GhostState) → FabricInvariant s t → (b : ℕ) → b < block_count → IsCoherent s b
coherent s t kept b l =
    record {
      writer = writer_of s t b (kept.blocks b l);
      holder = λ k low begun. one_held s b k (holder_of s t b (kept.blocks b l) k low begun);
    }
