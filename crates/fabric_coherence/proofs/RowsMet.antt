-- Each message that is delivered meets what its controller asks of it.
use Rattle.std.proofs.Common.{◌≡◌, ◌∙◌, true≢false, ℕ, Bool, true, false, length, refl, sym, Option, Some, None, if◌then◌else◌}
use Rattle.sn_msg.specs.declared.Message.{Message}
use Rattle.sn_model.specs.declared.rows.CacheRow.{CacheRow}
use Rattle.sn_model.specs.declared.rows.HomeMessage.{HomeMessage}
use Rattle.sn_model.specs.declared.rows.Receiver.{Receiver}
use Rattle.sn_model.specs.declared.rows.Receiver.TheVariants as receiver
use Rattle.sn_model.specs.Homes.{Transaction}
use Rattle.sn_model.specs.HomeRows.{MeetsAtHome, is_request, noted_at_home, noted_by_home, noted_for, unless_open}
use Rattle.sn_model.specs.Fabric.{Fabric, node_at, home_of}
use Rattle.sn_model.specs.NetEvents.{logged_at}
use Rattle.sn_model.specs.CacheRows.{MeetsCacheRow, MeetsAtCache, noted_at_cache}
use Rattle.sn_model.specs.Receivers.{IsNoteInOrder, receiver_of, is_cache, is_home, comes_to_cache, comes_to_home}
use Rattle.sn_coherence.specs.Block as block
use Rattle.sn_coherence.specs.Consequences.{MeetsRows, MeetsNotes}
use Rattle.sn_coherence.proofs.WhatFollows.{kept_meets_rows, kept_meets_notes}
use Rattle.fabric_coherence.specs.View.{GhostState, block_seen}
use Rattle.fabric_coherence.specs.Steps.{IsInFlight}
use Rattle.fabric_coherence.specs.Coherent.{FabricInvariant}
use Rattle.fabric_coherence.specs.HomeEvents.{IsServed, row_at_home}
use Rattle.fabric_coherence.specs.Met.{MeetsCache, MeetsHome}
use Rattle.fabric_coherence.proofs.Receivers.{says_body}
use Rattle.fabric_coherence.proofs.CacheConditions.{at_cache}
use Rattle.fabric_coherence.proofs.HomeConditions.{comes_home, meets_home_row, at_home}

module _ (s : Fabric) (t : GhostState) (m : Message) (flight : IsInFlight s m) (kept : FabricInvariant s t) where
  abbrev here : block.Block
  here = block_seen s t m.block

  rows : MeetsRows here
  rows = kept_meets_rows (length s.nodes) here kept.shape.few (kept.blocks m.block flight.block)

  notes : MeetsNotes here
  notes = kept_meets_notes (length s.nodes) here (kept.blocks m.block flight.block)

  -- at the cache
  pub cache_row : (taken : CacheRow) → receiver_of m.body ≡ receiver.Cache taken → MeetsCacheRow (logged_at s m.to) m.block taken
  cache_row taken is = (at_cache s t m flight notes rows taken is).met

  meets_at_cache : (who : Receiver) → receiver_of m.body ≡ who → is_cache who ≡ true →
      MeetsAtCache (logged_at s m.to) m.block who
      × IsNoteInOrder (node_at s m.to).log false m.block (noted_at_cache (node_at s m.to).now m.tag who)
  meets_at_cache (receiver.Cache taken) is c = (cache_row taken is, (at_cache s t m flight notes rows taken is).late)
  meets_at_cache _ is c = absurd (cc)

  pub meets_cache : comes_to_cache m.body ≡ true → MeetsCache s m
  meets_cache c = meets_at_cache (receiver_of m.body) refl c

  -- at the home: a request that waits notes nothing
  module _ (message : HomeMessage) (is : receiver_of m.body ≡ receiver.Home message) where
    abbrev IsLate : Option ℕ → Type 0
    IsLate interval = IsNoteInOrder (node_at s m.to).log true m.block interval

    abbrev noted : Option ℕ
    noted = noted_by_home (home_of s m.block) (node_at s m.to).now m.tag (row_at_home s m message)

    note_of_done : IsServed s m message → IsLate noted
    note_of_done served = (at_home s t m flight rows notes message is served).late

    by_open : (open_one : Option Transaction) → (home_of s m.block).transaction ≡ open_one → IsLate (unless_open open_one noted)
    by_open None idle = note_of_done (λ h. idle)
    by_open (Some transaction) open_now = tt

    by_kind : (c : Bool) → is_request message ≡ c → IsLate (if c then unless_open (home_of s m.block).transaction noted else noted)
    by_kind true e = by_open (home_of s m.block).transaction refl
    by_kind false e = note_of_done (λ h. absurd (true≢false (sym h ∙ e)))

    home_note : IsLate (noted_for (home_of s m.block) (node_at s m.to).now m message)
    home_note = by_kind (is_request message) refl

  meets_at_home : (who : Receiver) → receiver_of m.body ≡ who → is_home who ≡ true →
      MeetsAtHome (home_of s m.block) m.from who
      × IsNoteInOrder (node_at s m.to).log true m.block (noted_at_home (home_of s m.block) (node_at s m.to).now m who)
  meets_at_home (receiver.Home message) is h =
      (meets_home_row s t m flight rows message (says_body m.body (receiver.Home message) is), home_note message is)
  meets_at_home _ is h = absurd (cc)

  pub meets_home : comes_to_home m.body ≡ true → MeetsHome s m
  meets_home h = let met = meets_at_home (receiver_of m.body) refl h in (comes_home s t m flight rows h, met.0, met.1)
