-- What the records of a block tell of the fabric.
use Rattle.std.proofs.Common.{◌≡◌, ◌≢◌, ◌∙◌, ℕ, ◌<◌, ◌≤◌, Bool, true, false, true≢false, List, length, refl, ap, sym, subst, arith, Option}
use Rattle.std.proofs.Common.{Some, None}
use Rattle.std.specs.Prelude.{is_some}
use Rattle.std.proofs.lemmas.List.{get_or-map}
use Rattle.log_buffer.specs.Log.{entry_at}
use Rattle.sn_model.specs.declared.cache.LineState.{LineState}
use Rattle.sn_model.specs.declared.cache.LineState.TheVariants as state
use Rattle.sn_model.specs.Caches.{Line, line_of, is_present, is_writable_state, misses_on, block_count}
use Rattle.sn_model.specs.Cuts.{holds_at, names_at, transaction_before}
use Rattle.sn_model.specs.Homes.{Holder, Itself, OfCache, HomeEntry}
use Rattle.sn_model.specs.Fabric.{Fabric, Node, node_at, home_of, home_node, first_node}
use Rattle.sn_model.specs.PointEvents.{fabric_restored_to, restored_node, restored_line}
use Rattle.sn_model.specs.RecoveryPoint.{HasOneHolderWith, IsOwned}
use Rattle.sn_coherence.specs.Block as block
use Rattle.sn_coherence.specs.Consequences.{HasContent, IsLegal}
use Rattle.sn_coherence.specs.Invariant.{BlockInvariant}
use Rattle.sn_coherence.specs.RecordsInvariant.{RecordsInvariant}
use Rattle.sn_coherence.specs.Records.{Records}
use Rattle.sn_coherence.proofs.WhatFollows.{kept_content, kept_legal}
use Rattle.fabric_coherence.specs.View.{GhostState, block_seen, line_seen, is_itself, owner_of, content_of}
use Rattle.fabric_coherence.specs.Coherent.{FabricInvariant}
use Rattle.fabric_coherence.specs.Told.{Tells}
use Rattle.fabric_coherence.proofs.Finished.{home_finished}
use Rattle.fabric_coherence.proofs.Holders.{HasOneHolder, holder_of, holds_is, names_home, misses_seen}
use Rattle.fabric_coherence.proofs.KeptAccess.{free}
use Rattle.fabric_coherence.proofs.KeptNode.{present_seen, writable_seen}
use Rattle.fabric_coherence.proofs.KeptOwn.{length-restored_nodes}
use Rattle.fabric_coherence.proofs.Recovery.{entry_sided, content_told, kept_told, restored_line_at, restored_home_at}

seen_present : (line : LineState) → line_seen line ≢ block.NoLine → is_present line ≡ true
seen_present state.Absent h = absurd (h refl)
seen_present state.Shared h = refl
seen_present state.Owned h = refl
seen_present state.Modified h = refl
seen_present state.Exclusive h = refl

none_is : (c : Option (List ℕ)) → (is_some c ≡ true → ⊥) → c ≡ None
none_is None h = refl
none_is (Some content) h = absurd (h refl)

some_is : (c : Option (List ℕ)) (content : List ℕ) → is_some c ≡ true → (restored_line c).content ≡ content → c ≡ Some content
some_is None content h e = absurd (true≢false (sym h))
some_is (Some x) content h e = ap Some e

false_is : (c : Bool) → (c ≡ true → ⊥) → c ≡ false
false_is false h = refl
false_is true h = absurd (h refl)

module _ (s : Fabric) (t : GhostState) (kept : FabricInvariant s t) (b : ℕ) (low : b < block_count) (r : Records) (recorded : RecordsInvariant (block_seen s t b) r) where
  abbrev here : block.Block
  here = block_seen s t b

  of_block : BlockInvariant (length s.nodes) here
  of_block = kept.blocks b low

  legal : IsLegal (length s.nodes) here r
  legal = kept_legal (length s.nodes) here r recorded

  -- a cut
  module _ (k : ℕ) (from : s.point ≤ k) (begun : transaction_before (home_of s b).transaction k ≡ false) where
    one : HasOneHolder s b k
    one = holder_of s t b of_block k from begun

    content : HasContent here r k
    content = kept_content (length s.nodes) here r recorded k from

    held_content : (n : ℕ) → is_some (holds_at s n b k) ≡ true → holds_at s n b k ≡ Some (r.below k)
    held_content n h = some_is (holds_at s n b k) (r.below k) h
        (content_told (entry_at (node_at s n).log false b k) (line_of (node_at s n).cache b) (entry_sided (node_at s n).log false b k)
        ∙ content.cache n (sym (holds_is s t b n k) ∙ h))

    named_content : is_itself (names_at s b k) ≡ true → content_of (names_at s b k) ≡ r.below k
    named_content h =
        kept_told (entry_at (node_at s (home_node s b)).log true b k) (home_of s b).holder
        (entry_sided (node_at s (home_node s b)).log true b k) ∙ content.home (sym (names_home s t b k) ∙ h)

    other_caches : (x : Holder) → names_at s b k ≡ x → (n : ℕ) → n < length s.nodes → (x ≡ OfCache n → ⊥) → holds_at s n b k ≡ None
    other_caches x e n l other = none_is (holds_at s n b k) (λ h. other (sym e ∙ one.named n l h))

    held_by_name : (x : Holder) → names_at s b k ≡ x → HasOneHolderWith s b k (r.below k) x
    held_by_name (Itself named) e =
        (sym (ap content_of e) ∙ named_content (ap is_itself e), λ n l. other_caches (Itself named) e n l (λ q. cc))
    held_by_name (OfCache owner) e =
        let h = one.holds owner e in
        (h.0, held_content owner h.1, λ n l other. other_caches (OfCache owner) e n l (λ q. other (sym (ap owner_of q))))

    held : HasOneHolderWith s b k (r.below k) (names_at s b k)
    held = held_by_name (names_at s b k) refl

  -- the point is such a cut
  point_begun : transaction_before (home_of s b).transaction s.point ≡ false
  point_begun = home_finished (home_of s b).transaction s.point of_block.clocks.begun_point

  point : HasOneHolderWith s b s.point (r.below s.point) (names_at s b s.point)
  point = held s.point (omega arith) point_begun

  -- a recovery to it
  restored_line_is : (n : ℕ) → n < length s.nodes →
      line_of (node_at (fabric_restored_to s s.point) n).cache b ≡ restored_line (holds_at s n b s.point)
  unfolding fabric_restored_to
  restored_line_is n l =
      ap (λ (x : Node). line_of x.cache b) (get_or-map (restored_node s.point) s.nodes n first_node first_node l)
      ∙ restored_line_at s.point b (node_at s n) (subst (λ c. b < c) (sym (kept.shape.lines n l)) low)

  restored_name_is : (home_of (fabric_restored_to s s.point) b).holder ≡ names_at s b s.point
  unfolding fabric_restored_to
  restored_name_is = ap (λ (e : HomeEntry). e.holder) (restored_home_at s s.point b (subst (λ c. b < c) (sym kept.shape.homes) low))

  abbrev many : length (fabric_restored_to s s.point).nodes ≡ length s.nodes
  many = length-restored_nodes s kept.shape

  absent : (n : ℕ) → n < length (fabric_restored_to s s.point).nodes → (n < length s.nodes → holds_at s n b s.point ≡ None) →
      (line_of (node_at (fabric_restored_to s s.point) n).cache b).state ≡ state.Absent
  absent n l h = ap (λ (x : Line). x.state) (restored_line_is n inside) ∙ ap (λ c. (restored_line c).state) (h inside)
    where
      inside : n < length s.nodes
      inside = subst (λ c. n < c) many l

  owned_by : (x : Holder) → HasOneHolderWith s b s.point (r.below s.point) x → IsOwned (fabric_restored_to s s.point) b (r.below s.point) x
  owned_by (Itself named) h = (h.0, λ n l. absent n l (h.1 n))
  owned_by (OfCache owner) h = (
    subst (λ c. owner < c) (sym many) h.0,
    restored_line_is owner h.0 ∙ ap restored_line h.1,
    λ n l other. absent n l (λ q. h.2 n q other),
  )

  restored_to : IsOwned (fabric_restored_to s s.point) b (r.below s.point) (home_of (fabric_restored_to s s.point) b).holder
  restored_to = subst (IsOwned (fabric_restored_to s s.point) b (r.below s.point)) (sym restored_name_is) (owned_by (names_at s b s.point) point)

  -- who may write is alone, so nobody else has a reservation
  alone : (n x : ℕ) → is_writable_state (line_of (node_at s n).cache b).state ≡ true → misses_on (node_at s n).cache.miss b ≡ false →
      x ≢ n → r.reserved x ≡ false
  alone n x writable none other = false_is (r.reserved x)
      (λ e. recorded.contents.reserved_line x e
      (of_block.sharing.writer_alone n x (writable_seen (line_of (node_at s n).cache b).state writable)
      (misses_seen s t b (node_at s n).cache.miss none) (λ q. other (sym q))))

  pub tells : Tells s b r
  tells = record {
    copies = λ n l present. recorded.contents.of_line n (present_seen (line_of (node_at s n).cache b).state present);
    read = λ n l present. legal.read n (present_seen (line_of (node_at s n).cache b).state present);
    write =
        λ n can writable. (legal.write n (free s t n kept can.node can.no_miss b can.no_put)
        (writable_seen (line_of (node_at s n).cache b).state writable)).1;
    reserved =
        λ n l e. (
          seen_present (line_of (node_at s n).cache b).state (recorded.contents.reserved_line n e),
          recorded.contents.reserved_alone n e,
        );
    alone = λ n x l writable none other. alone n x writable none other;
    held = held;
    point = point;
    restored_to = restored_to;
  }
