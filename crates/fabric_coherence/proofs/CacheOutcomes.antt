-- A message that is delivered to a cache is an event of its block that the coherence theorem allows there; all that its row
-- asks for follows from what the theorem keeps.
use Rattle.std.proofs.Common.{◌≡◌, ◌∙◌, ℕ, ◌<◌, ◌≤◌, Bool, true, false, length, refl, ap, subst, nat_eq, ◌≢◌, length-set, slice_set}
use Rattle.std.proofs.Common.{if◌then◌else◌, ◌+◌, ◌&&◌, ◌==◌}
use Rattle.std.specs.Prelude.{Option, Some, None}
use Rattle.sn_msg.specs.declared.Message.{Message}
use Rattle.sn_msg.specs.declared.Body.{Body}
use Rattle.sn_msg.specs.declared.Body.TheVariants.{FwdGetS, FwdGetM, Inv, DataS, DataM, DataE, UpgOk, InvAck, PutGo, PutDone}
use Rattle.sn_model.specs.declared.cache.LineState.TheVariants.{Shared, Owned, Modified, Exclusive}
use Rattle.sn_model.specs.declared.cache.Need.TheVariants.{Read, Write}
use Rattle.sn_model.specs.declared.rows.CacheRow.{CacheRow}
use Rattle.sn_model.specs.declared.rows.CacheRow.TheVariants as row
use Rattle.sn_model.specs.declared.rows.Receiver.TheVariants as receiver
use Rattle.sn_model.specs.Caches.{Line, Miss, block_count, no_line, line_of, with_line, is_present, puts_on}
use Rattle.sn_model.specs.CacheRows.{Logged, CacheReply, reply_when_complete, reply_that_waits, reply_or_wait, reply_or_wait_by, taken_over}
use Rattle.sn_model.specs.CacheRows.{AwaitsAnswer, cache_reply, fixed_at, miss_with_ack}
use Rattle.sn_model.specs.Fabric.{Fabric, node_at, home_node}
use Rattle.sn_model.specs.NetEvents.{logged_at}
use Rattle.sn_model.specs.Receivers.{receiver_of}
use Rattle.sn_coherence.specs.Block as block
use Rattle.sn_coherence.specs.OtherEvents.{end_miss_elsewhere, end_put_elsewhere}
use Rattle.sn_coherence.specs.Consequences.{MeetsRows}
use Rattle.sn_coherence.specs.Events.{Event, Invalidate, Allows, Arrives, after}
use Rattle.sn_coherence.specs.Invariant.{BlockInvariant}
use Rattle.sn_coherence.specs.Records.{Records, unreserves, records_after_event, MayHappen}
use Rattle.sn_coherence.proofs.WhatFollows.{kept_meets_rows, kept_meets_notes}
use Rattle.fabric_coherence.specs.Leads.{Leads}
use Rattle.fabric_coherence.specs.Recorded.{heard_by}
use Rattle.fabric_coherence.specs.View.{GhostState, block_seen, message_seen}
use Rattle.fabric_coherence.specs.Steps.{IsShaped, IsInFlight, elsewhere, node_in_body}
use Rattle.fabric_coherence.specs.Sends.{OutsWithin}
use Rattle.fabric_coherence.specs.CacheSeen.{IsOwnRow, completed_or_waiting_elsewhere}
use Rattle.fabric_coherence.specs.CacheEvents.{told_of, cache_event, left_at_cache, elsewhere_after}
use Rattle.fabric_coherence.proofs.Receivers.{body_of}
use Rattle.fabric_coherence.proofs.InFlight.{has_arrived}
use Rattle.fabric_coherence.proofs.CacheConditions as condition
use Rattle.fabric_coherence.proofs.CacheConditions.{IsAtCache, fixed_owns, meets_invalidate, none_seen, receiver_seen}
use Rattle.fabric_coherence.proofs.CacheRows.{forward_read-seen, forward_write-seen, invalidate-seen, put_go-seen, put_done-seen}
use Rattle.fabric_coherence.proofs.CacheMisses.{data_shared-seen, data_modified-seen, data_exclusive-seen, upgrade_granted-seen}
use Rattle.fabric_coherence.proofs.CacheMisses.{acknowledge-seen}
use Rattle.fabric_coherence.proofs.CacheElsewhere.{awaits_elsewhere, counts_elsewhere, puts_elsewhere}
use Rattle.fabric_coherence.proofs.KeptCommon.{IsQuiet, told_here, told_there, event_leads, quiet_leads, leads_as, absent_leads}
use Rattle.fabric_coherence.proofs.KeptCommon.{elsewhere_leads, end_miss_elsewhere_leads, end_put_elsewhere_leads}
use Rattle.fabric_coherence.proofs.KeptNode.{absent_seen}

-- another block, whether the miss is complete or waits
completed_or_waiting_leads : (N : ℕ) (b : block.Block) (i n : ℕ) (all : Bool) → (b.miss n).want ≡ block.Elsewhere →
    Leads N b (λ r. r) (completed_or_waiting_elsewhere b i n all)
completed_or_waiting_leads N b i n true e = end_miss_elsewhere_leads N b (elsewhere b i 1) n (elsewhere_leads N b i 1) e
completed_or_waiting_leads N b i n false e = elsewhere_leads N b i 0

-- a miss that completes or waits loses no copy
completed_or_waiting_loses : (at : Logged) (home : ℕ) (o : Option Miss) → (reply_or_wait at home o).lost ≡ None
completed_or_waiting_loses at home None = refl
completed_or_waiting_loses at home (Some miss) = by_fixed miss.fixed
  where
    by_count : (all : Bool) (fixed : ℕ) → (if all then reply_when_complete at home miss fixed else reply_that_waits at miss).lost ≡ None
    by_count true fixed = refl
    by_count false fixed = refl

    by_fixed : (fixed : Option ℕ) → (reply_or_wait_by at home miss fixed).lost ≡ None
    by_fixed None = refl
    by_fixed (Some fixed) = by_count (nat_eq miss.acks miss.due) fixed

-- whether a row loses the copy of its block; none loses another
abbrev pub loses_copy : Logged → ℕ → CacheRow → Bool
loses_copy at block (row.ForwardWrite r due) = true
loses_copy at block (row.Invalidate r) = is_present (line_of at.cache block).state
loses_copy at block row.PutGo = true
loses_copy at block _ = false

module _ (at : Logged) (home block now tag : ℕ) where
  pub row_loses : (taken : CacheRow) → (cache_reply at home block now tag taken).lost ≡ (if loses_copy at block taken then Some block else None)
  row_loses (row.ForwardRead r) = refl
  row_loses (row.ForwardWrite r due) = refl
  row_loses (row.Invalidate r) = refl
  row_loses (row.DataShared content) =
      completed_or_waiting_loses (record at { cache = with_line at.cache block Shared content }) home (fixed_at at.cache.miss tag 0)
  row_loses (row.DataModified content due) =
      completed_or_waiting_loses (taken_over at block tag Modified content) home (fixed_at at.cache.miss tag due)
  row_loses (row.UpgradeGranted due) = completed_or_waiting_loses at home (fixed_at at.cache.miss tag due)
  row_loses row.Acknowledge = completed_or_waiting_loses at home (miss_with_ack at.cache.miss)
  row_loses row.PutGo = refl
  row_loses row.PutDone = refl
  row_loses (row.DataExclusive content) =
      completed_or_waiting_loses (taken_over at block tag Exclusive content) home (fixed_at at.cache.miss tag 0)

-- lines for all of memory, and messages to nodes that are there
abbrev pub IsFitting : CacheReply → ℕ → Type 0
IsFitting reply nodes = (length reply.after.cache.lines ≡ block_count) × OutsWithin reply.sends nodes

-- what a miss leaves and sends as it completes or waits
module _ (nodes home : ℕ) (some : 1 ≤ nodes) (home_low : home < nodes) (at : Logged) (long : length at.cache.lines ≡ block_count) where
  complete_fits : (all : Bool) (miss : Miss) (fixed : ℕ) → IsFitting (if all then reply_when_complete at home miss fixed else reply_that_waits at miss) nodes
  complete_fits true miss fixed = (length-set at.cache.lines miss.block _ ∙ long, ((home_low, some), tt))
  complete_fits false miss fixed = (long, tt)

  completed_or_waiting_by_fits : (fixed : Option ℕ) (miss : Miss) → IsFitting (reply_or_wait_by at home miss fixed) nodes
  completed_or_waiting_by_fits None miss = (long, tt)
  completed_or_waiting_by_fits (Some fixed) miss = complete_fits (nat_eq miss.acks miss.due) miss fixed

  completed_or_waiting_fits : (o : Option Miss) → IsFitting (reply_or_wait at home o) nodes
  completed_or_waiting_fits None = (long, tt)
  completed_or_waiting_fits (Some miss) = completed_or_waiting_by_fits miss.fixed miss

module _ (s : Fabric) (t : GhostState) (m : Message) (shape : IsShaped s) (flight : IsInFlight s m) (kept : BlockInvariant (length s.nodes) (block_seen s t m.block)) (reached : m.tag ≤ (node_at s m.to).now) where
  abbrev here : block.Block
  here = block_seen s t m.block

  abbrev at : Logged
  at = logged_at s m.to

  abbrev home : ℕ
  home = home_node s m.block

  abbrev Becomes : CacheRow → block.Block
  Becomes taken = after (length s.nodes) here (cache_event m.id taken)

  rows : MeetsRows here
  rows = kept_meets_rows (length s.nodes) here shape.few kept

  pub at_cache : (taken : CacheRow) → receiver_of m.body ≡ receiver.Cache taken → IsAtCache s m taken
  at_cache taken is = condition.at_cache s t m flight (kept_meets_notes (length s.nodes) here kept) rows taken is

  arrives : (x : Body) → m.body ≡ x → Arrives here m.id (message_seen m x).body
  arrives x is = has_arrived s t m flight reached x is

  -- each row is its event ..
  pub cache-own : (taken : CacheRow) → IsAtCache s m taken → IsOwnRow s t m (left_at_cache s m taken) (Becomes taken)
  cache-own (row.ForwardRead r) does = forward_read-seen s t m shape flight r does.body does.met
  cache-own (row.ForwardWrite r due) does = forward_write-seen s t m shape flight does.met does.late r due does.body
  cache-own (row.Invalidate r) does = invalidate-seen s t m shape flight r does.body (meets_invalidate s t m flight rows r does.body)
  cache-own (row.DataShared content) does =
      data_shared-seen s t m shape flight content does.body does.met (none_seen at.cache.miss m.block does.met.2)
  cache-own (row.DataModified content due) does = data_modified-seen s t m shape flight content due does.body does.met does.late
  cache-own (row.UpgradeGranted due) does = upgrade_granted-seen s t m shape flight due does.body does.met
  cache-own row.Acknowledge does = acknowledge-seen s t m shape flight does.body does.met (fixed_owns s t m flight kept.stages)
  cache-own row.PutGo does = put_go-seen s t m shape flight does.met.0 does.late does.body
  cache-own row.PutDone does = put_done-seen s t m shape flight does.body
  cache-own (row.DataExclusive content) does =
      data_exclusive-seen s t m shape flight content does.body does.met (none_seen at.cache.miss m.block does.met.2) does.late

  -- .. which is allowed
  pub cache-allowed : (taken : CacheRow) → m.body ≡ body_of taken → Allows (length s.nodes) here (cache_event m.id taken)
  cache-allowed (row.ForwardRead r) is = arrives (FwdGetS r) is
  cache-allowed (row.ForwardWrite r due) is = arrives (FwdGetM r due) is
  cache-allowed (row.Invalidate r) is = arrives (Inv r) is
  cache-allowed (row.DataShared content) is = arrives (DataS content) is
  cache-allowed (row.DataModified content due) is = arrives (DataM content due) is
  cache-allowed (row.UpgradeGranted due) is = arrives (UpgOk due) is
  cache-allowed row.Acknowledge is = arrives InvAck is
  cache-allowed row.PutGo is = arrives PutGo is
  cache-allowed row.PutDone is = arrives PutDone is
  cache-allowed (row.DataExclusive content) is = arrives (DataE content) is

  -- what it makes of the records: a lost copy ends its node's reservation
  quiet : (taken : CacheRow) → IsAtCache s m taken → IsQuiet (cache_event m.id taken) → Leads (length s.nodes) here (λ x. x) (Becomes taken)
  quiet taken does records = quiet_leads (length s.nodes) here (cache_event m.id taken) (cache-allowed taken does.body) records

  loses : (event : Event) → Allows (length s.nodes) here event → ((x : Records) → MayHappen (length s.nodes) here x event) →
      ((x : Records) → records_after_event (length s.nodes) here x event ≡ unreserves x (here.net m.id).to) →
      Leads (length s.nodes) here (λ x. unreserves x m.to) (after (length s.nodes) here event)
  loses event a may is =
      leads_as (length s.nodes) here (after (length s.nodes) here event) (λ x. records_after_event (length s.nodes) here x event)
      (λ x. unreserves x m.to) (λ x. is x ∙ ap (unreserves x) (receiver_seen s t m flight)) (event_leads (length s.nodes) here event a may)

  told : (event : Event) → Leads (length s.nodes) here (λ x. unreserves x m.to) (after (length s.nodes) here event) →
      Leads (length s.nodes) here (heard_by (told_of m.to (Some m.block)) m.block) (after (length s.nodes) here event)
  told event x =
      leads_as (length s.nodes) here (after (length s.nodes) here event) (λ r. unreserves r m.to)
      (heard_by (told_of m.to (Some m.block)) m.block) (told_here m.to m.block) x

  -- an Inv that finds no copy ends no reservation
  told_or_absent : (c : Bool) (r : ℕ) → m.body ≡ Inv r → is_present (line_of at.cache m.block).state ≡ c →
      Leads (length s.nodes) here (heard_by (told_of m.to (if c then Some m.block else None)) m.block) (Becomes (row.Invalidate r))
  told_or_absent true r is e = told (Invalidate m.id) (loses (Invalidate m.id) (arrives (Inv r) is) (λ x. arrives (Inv r) is) (λ x. refl))
  told_or_absent false r is e =
      absent_leads (length s.nodes) here (Becomes (row.Invalidate r)) m.to (absent_seen (line_of at.cache m.block).state e)
      (loses (Invalidate m.id) (arrives (Inv r) is) (λ x. arrives (Inv r) is) (λ x. refl))

  abbrev pub Hears : CacheRow → ℕ → Records → Records
  Hears taken o = heard_by (told_of m.to (if loses_copy at m.block taken then Some m.block else None)) o

  pub cache-leads : (taken : CacheRow) → IsAtCache s m taken → Leads (length s.nodes) here (Hears taken m.block) (Becomes taken)
  cache-leads (row.ForwardRead r) does = quiet (row.ForwardRead r) does tt
  cache-leads (row.ForwardWrite r due) does =
      let a = arrives (FwdGetM r due) does.body in
      told (cache_event m.id (row.ForwardWrite r due)) (loses (cache_event m.id (row.ForwardWrite r due)) a (λ x. a) (λ x. refl))
  cache-leads (row.Invalidate r) does = told_or_absent (is_present (line_of at.cache m.block).state) r does.body refl
  cache-leads (row.DataShared content) does = quiet (row.DataShared content) does tt
  cache-leads (row.DataModified content due) does = quiet (row.DataModified content due) does tt
  cache-leads (row.UpgradeGranted due) does = quiet (row.UpgradeGranted due) does tt
  cache-leads row.Acknowledge does = quiet row.Acknowledge does tt
  cache-leads row.PutGo does =
      let a = arrives PutGo does.body in told (cache_event m.id row.PutGo) (loses (cache_event m.id row.PutGo) a (λ x. a) (λ x. refl))
  cache-leads row.PutDone does = quiet row.PutDone does tt
  cache-leads (row.DataExclusive content) does = quiet (row.DataExclusive content) does tt

  -- another block, which sees that the message is gone, that numbers were taken, and that a miss or a put closes elsewhere
  module _ (o : ℕ) (other : o ≢ m.block) where
    passing : (count : ℕ) → Leads (length s.nodes) (block_seen s t o) (λ x. x) (elsewhere (block_seen s t o) m.id count)
    passing count = elsewhere_leads (length s.nodes) (block_seen s t o) m.id count

    read_ends : AwaitsAnswer at.cache.miss m.block Read →
        Leads (length s.nodes) (block_seen s t o) (λ x. x) (end_miss_elsewhere (elsewhere (block_seen s t o) m.id 1) m.to)
    read_ends awaits =
        end_miss_elsewhere_leads (length s.nodes) (block_seen s t o) (elsewhere (block_seen s t o) m.id 1) m.to (passing 1)
        (awaits_elsewhere at.cache.miss m.block o Read awaits other)

    put_ends : (count : ℕ) → puts_on at.cache.put m.block ≡ true →
        Leads (length s.nodes) (block_seen s t o) (λ x. x) (end_put_elsewhere (elsewhere (block_seen s t o) m.id count) m.to)
    put_ends count puts =
        end_put_elsewhere_leads (length s.nodes) (block_seen s t o) (elsewhere (block_seen s t o) m.id count) m.to (passing count)
        (puts_elsewhere at.cache.put m.block o puts other)

    passes : (taken : CacheRow) → IsAtCache s m taken →
        Leads (length s.nodes) (block_seen s t o) (λ x. x) (elsewhere_after s t m taken o)
    passes (row.ForwardRead r) does = passing 1
    passes (row.ForwardWrite r due) does = passing 1
    passes (row.Invalidate r) does = passing 1
    passes (row.DataShared content) does = read_ends does.met.0
    passes (row.DataModified content due) does =
        completed_or_waiting_leads (length s.nodes) (block_seen s t o) m.id m.to ((here.miss m.to).acks == due)
        (awaits_elsewhere at.cache.miss m.block o Write does.met.0 other)
    passes (row.UpgradeGranted due) does =
        completed_or_waiting_leads (length s.nodes) (block_seen s t o) m.id m.to ((here.miss m.to).acks == due)
        (awaits_elsewhere at.cache.miss m.block o Write does.met.0 other)
    passes row.Acknowledge does =
        completed_or_waiting_leads (length s.nodes) (block_seen s t o) m.id m.to
        ((here.miss m.to).is_fixed && ((here.miss m.to).acks + 1 == (here.miss m.to).due))
        (counts_elsewhere at.cache.miss m.block o does.met other)
    passes row.PutGo does = put_ends 1 does.met.1
    passes row.PutDone does = put_ends 0 does.met
    passes (row.DataExclusive content) does = read_ends does.met.0

    -- and its records hear nothing of a copy that was lost
    hears_nothing : (c : Bool) (d : block.Block) → Leads (length s.nodes) (block_seen s t o) (λ r. r) d →
        Leads (length s.nodes) (block_seen s t o) (heard_by (told_of m.to (if c then Some m.block else None)) o) d
    hears_nothing true d x =
        leads_as (length s.nodes) (block_seen s t o) d (λ r. r) (heard_by (told_of m.to (Some m.block)) o) (told_there m.to m.block o other) x
    hears_nothing false d x = x

    pub cache-passes : (taken : CacheRow) → IsAtCache s m taken →
        Leads (length s.nodes) (block_seen s t o) (Hears taken o) (elsewhere_after s t m taken o)
    cache-passes taken does = hears_nothing (loses_copy at m.block taken) (elsewhere_after s t m taken o) (passes taken does)

  -- the cache keeps its lines, and what it sends goes to nodes that are there
  module _ (names : node_in_body m.body < length s.nodes) where
    long : length at.cache.lines ≡ block_count
    long = shape.lines m.to flight.to

    as_long : (line : Line) → length (slice_set at.cache.lines m.block line) ≡ block_count
    as_long line = length-set at.cache.lines m.block line ∙ long

    names_in : (x : Body) → m.body ≡ x → node_in_body x < length s.nodes
    names_in x is = subst (λ y. node_in_body y < length s.nodes) is names

    answer : (after : Logged) → length after.cache.lines ≡ block_count → (o : Option Miss) → IsFitting (reply_or_wait after home o) (length s.nodes)
    answer after lines o = completed_or_waiting_fits (length s.nodes) home shape.some kept.nodes.home_low after lines o

    pub cache-fits : (taken : CacheRow) → m.body ≡ body_of taken → IsFitting (left_at_cache s m taken) (length s.nodes)
    cache-fits (row.ForwardRead r) is =
        (as_long (record { state = Owned; content = (line_of at.cache m.block).content }), ((names_in (FwdGetS r) is, shape.some), tt))
    cache-fits (row.ForwardWrite r due) is = (as_long no_line, ((names_in (FwdGetM r due) is, shape.some), tt))
    cache-fits (row.Invalidate r) is = (as_long no_line, ((names_in (Inv r) is, shape.some), tt))
    cache-fits (row.DataShared content) is =
        answer (record at { cache = with_line at.cache m.block Shared content }) (as_long (record { state = Shared; content = content }))
        (fixed_at at.cache.miss m.tag 0)
    cache-fits (row.DataModified content due) is =
        answer (taken_over at m.block m.tag Modified content) (as_long (record { state = Modified; content = content }))
        (fixed_at at.cache.miss m.tag due)
    cache-fits (row.UpgradeGranted due) is = answer at long (fixed_at at.cache.miss m.tag due)
    cache-fits row.Acknowledge is = answer at long (miss_with_ack at.cache.miss)
    cache-fits row.PutGo is = (as_long no_line, ((kept.nodes.home_low, shape.some), tt))
    cache-fits row.PutDone is = (long, tt)
    cache-fits (row.DataExclusive content) is =
        answer (taken_over at m.block m.tag Exclusive content) (as_long (record { state = Exclusive; content = content }))
        (fixed_at at.cache.miss m.tag 0)
