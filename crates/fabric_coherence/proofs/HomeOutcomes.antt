-- A message that is served at its home is an event of its block that the coherence theorem allows there; all that its row
-- asks for follows from what the theorem keeps.
use Rattle.std.proofs.Common.{◌≡◌, ◌≢◌, ◌⊎◌, inl, inr, ◌∙◌, ℕ, ◌+◌, ◌≤◌, true, false, List, length, refl, sym, ap, subst, arith}
use Rattle.std.proofs.lemmas.Bool.Decides.{nat_tests}
use Rattle.std.specs.Prelude.{Option, Some, None}
use Rattle.log_buffer.specs.Log.{logged_to}
use Rattle.sn_msg.specs.declared.Message.{Message}
use Rattle.sn_msg.specs.declared.Body.{Body}
use Rattle.sn_msg.specs.declared.Body.TheVariants.{GetS, GetM, Unblock, PutReq, PutData}
use Rattle.sn_model.specs.declared.home.Kind.TheVariants as kind
use Rattle.sn_model.specs.declared.rows.HomeMessage.{HomeMessage}
use Rattle.sn_model.specs.declared.rows.HomeRow.{HomeRow}
use Rattle.sn_model.specs.declared.rows.HomeRow.TheVariants as row
use Rattle.sn_model.specs.declared.rows.Receiver.TheVariants as receiver
use Rattle.sn_model.specs.Homes.{Holder, Itself, OfCache, Transaction, is_owner}
use Rattle.sn_model.specs.HomeRows.{MayUnblock}
use Rattle.sn_model.specs.Fabric.{Fabric, node_at, home_of, home_node}
use Rattle.sn_model.specs.Receivers.{receiver_of}
use Rattle.sn_coherence.specs.Block as block
use Rattle.sn_coherence.specs.Consequences.{MeetsRows, MeetsNotes}
use Rattle.sn_coherence.specs.Events.{Allows, Arrives, Lists, other_sharers, after}
use Rattle.sn_coherence.specs.Invariant.{BlockInvariant}
use Rattle.sn_coherence.proofs.WhatFollows.{kept_meets_rows, kept_meets_notes}
use Rattle.fabric_coherence.specs.View.{GhostState, block_seen, message_seen, is_itself, owner_of, kind_seen, kind_open}
use Rattle.fabric_coherence.specs.Steps.{IsShaped, IsInFlight}
use Rattle.fabric_coherence.specs.HomeSeen.{IsHomeRow}
use Rattle.fabric_coherence.specs.HomeEvents.{IsServed, home_event, left_at_home, other_count, row_at_home, targets_of}
use Rattle.fabric_coherence.proofs.Receivers.{seen_as_sent}
use Rattle.fabric_coherence.proofs.HomeConditions as condition
use Rattle.fabric_coherence.proofs.HomeConditions.{IsAtHome}
use Rattle.fabric_coherence.proofs.InFlight.{has_arrived}
use Rattle.fabric_coherence.proofs.HomeRows.{of-cache, read_at_home-seen, read_at_owner-seen, take-seen, move_ownership-seen, upgrade-seen}
use Rattle.fabric_coherence.proofs.HomeRows.{unblock-seen, put_begins-seen, put_is_stale-seen, put_data-seen, grant_exclusive-seen}
use Rattle.fabric_coherence.proofs.HomeRows.{other_sharers-listed}

-- who isn't the owner: the home owns, or another cache
not_its : (holder : Holder) (r : ℕ) → is_owner holder r ≡ false → (is_itself holder ≡ true) ⊎ (owner_of holder ≢ r)
not_its (Itself content) r e = inl refl
not_its (OfCache owner) r e = inr (λ h. other h)
  where
    other : owner ≡ r → ⊥
    other h = grind (arith, nat_tests)

module _ (s : Fabric) (t : GhostState) (m : Message) (shape : IsShaped s) (flight : IsInFlight s m) (kept : BlockInvariant (length s.nodes) (block_seen s t m.block)) (reached : m.tag ≤ (node_at s m.to).now) where
  abbrev here : block.Block
  here = block_seen s t m.block

  rows : MeetsRows here
  rows = kept_meets_rows (length s.nodes) here shape.few kept

  notes : MeetsNotes here
  notes = kept_meets_notes (length s.nodes) here kept

  pub at_home : (message : HomeMessage) → receiver_of m.body ≡ receiver.Home message → IsServed s m message →
      IsAtHome s m (row_at_home s m message)
  at_home message is served = condition.at_home s t m flight rows notes message is served

  arrives : (x : Body) → m.body ≡ x → Arrives here m.id (message_seen m x).body
  arrives x is = has_arrived s t m flight reached x is

  sender : (here.net m.id).from ≡ m.from
  sender = condition.sender_seen s t m flight

  listed : (x : Body) → m.body ≡ x → m.to ≡ home_node s m.block →
      Lists (length s.nodes) (other_sharers here m.id) (targets_of s m) (other_count s m)
  listed x is home = other_sharers-listed s t m shape flight home x is (seen_as_sent m x).0 kept.nodes.sharer_low

  late_fixed : (fixed : ℕ) (transaction : Transaction) → m.body ≡ Unblock fixed → m.to ≡ home_node s m.block →
      (home_of s m.block).transaction ≡ Some transaction → transaction.kind ≡ kind.Move →
      logged_to (node_at s m.to).log true m.block ≤ fixed + 1
  late_fixed fixed transaction is home e h =
      condition.late_fixed s t m flight notes home fixed is ((λ p. kind_open (e p)) ∙ (λ p. kind_seen (h p)))

  -- a row is its event, which is allowed
  abbrev pub Does : HomeRow → Type 0
  Does taken =
      IsHomeRow s t m (left_at_home s m taken) (after (length s.nodes) here (home_event s m taken))
      × Allows (length s.nodes) here (home_event s m taken)

  unblocks : (fixed : ℕ) (open_one : Option Transaction) → m.body ≡ Unblock fixed → m.to ≡ home_node s m.block →
      (home_of s m.block).transaction ≡ open_one → MayUnblock open_one m.from → Does (row.Unblock fixed)
  unblocks fixed None is home e may = absurd may
  unblocks fixed (Some transaction) is home e may =
      (unblock-seen s t m shape flight home fixed transaction is e may.1 names (late_fixed fixed transaction is home e), arrives (Unblock fixed) is)
    where
      names : transaction.kind ≡ kind.Move → is_itself (home_of s m.block).holder ≡ false
      names h = (kept.owners.move_owner ((λ p. kind_open (e p)) ∙ (λ p. kind_seen (h p)))).1

  -- the home names the sender of a PutData
  names_sender : (content : List ℕ) → m.body ≡ PutData content → (home_of s m.block).holder ≡ OfCache m.from
  names_sender content is =
      let puts = rows.put_data m.id (arrives (PutData content) is).0 in
      let owner = kept.owners.put_owner puts.0 in
      of-cache (home_of s m.block).holder owner.1 ∙ ap OfCache (owner.0 ∙ (puts.1 ∙ sender))

  pub home-outcome : (taken : HomeRow) → IsAtHome s m taken → Does taken
  home-outcome (row.ReadAtHome content) at = (
    read_at_home-seen s t m shape flight at.home content at.body at.finds.1,
    (
      (arrives GetS at.body, λ p. kind_open (at.finds.0 p)),
      λ p. is_itself (at.finds.1 p),
      λ h. at.finds.2 (sym (listed GetS at.body at.home).all ∙ h),
    ),
  )
  home-outcome (row.ReadAtOwner owner) at = (
    read_at_owner-seen s t m shape flight at.home owner at.body at.finds.1,
    ((arrives GetS at.body, λ p. kind_open (at.finds.0 p)), λ p. is_itself (at.finds.1 p)),
  )
  home-outcome (row.Take content) at = (
    take-seen s t m shape flight at.home content at.body at.finds.1 at.late,
    (
      (arrives GetM at.body, λ p. kind_open (at.finds.0 p)),
      λ p. is_itself (at.finds.1 p),
      listed GetM at.body at.home,
    ),
  )
  home-outcome (row.MoveOwnership owner) at = (
    move_ownership-seen s t m shape flight at.home owner at.body at.finds.1,
    (
      (arrives GetM at.body, λ p. kind_open (at.finds.0 p)),
      (λ p. is_itself (at.finds.1 p), λ h. at.finds.2 (sym (λ p. owner_of (at.finds.1 p)) ∙ (h ∙ sender))),
      listed GetM at.body at.home,
    ),
  )
  home-outcome row.Upgrade at = (
    upgrade-seen s t m shape flight at.home at.body,
    (
      (arrives GetM at.body, λ p. kind_open (at.finds.0 p)),
      (λ p. is_itself (at.finds.1 p), (λ p. owner_of (at.finds.1 p)) ∙ sym sender),
      listed GetM at.body at.home,
    ),
  )
  home-outcome (row.Unblock fixed) at = unblocks fixed (home_of s m.block).transaction at.body at.home refl at.finds
  home-outcome row.PutBegins at = (
    put_begins-seen s t m shape flight at.home at.body,
    (
      (arrives PutReq at.body, λ p. kind_open (at.finds.0 p)),
      (λ p. is_itself (at.finds.1 p), (λ p. owner_of (at.finds.1 p)) ∙ sym sender),
    ),
  )
  home-outcome row.PutIsStale at = (
    put_is_stale-seen s t m shape flight at.home at.body,
    (
      (arrives PutReq at.body, λ p. kind_open (at.finds.0 p)),
      subst (λ r. (is_itself (home_of s m.block).holder ≡ true) ⊎ (owner_of (home_of s m.block).holder ≢ r)) (sym sender)
          (not_its (home_of s m.block).holder m.from at.finds.1),
    ),
  )
  home-outcome (row.PutData content) at = (
    put_data-seen s t m shape flight at.home content at.body (names_sender content at.body) at.late,
    arrives (PutData content) at.body,
  )
  home-outcome (row.GrantExclusive content) at = (
    grant_exclusive-seen s t m shape flight at.home content at.body at.finds.1 at.late,
    (
      (arrives GetS at.body, λ p. kind_open (at.finds.0 p)),
      λ p. is_itself (at.finds.1 p),
      (listed GetS at.body at.home).all ∙ at.finds.2,
    ),
  )
