-- A message that is delivered meets the condition of its row: what the coherence theorem says of its block, said of the cache.
use Rattle.std.proofs.Common.{◌≡◌, true≢false, ◌∙◌, ◌⊎◌, ℕ, ◌+◌, ◌<◌, ◌≤◌, Bool, true, false, refl, sym, ap, subst, Option, Some, None, inl}
use Rattle.std.proofs.Common.{inr, arith}
use Rattle.std.proofs.lemmas.Bool.Decides.{nat_tests}
use Rattle.std.specs.Prelude.{if◌then◌else◌, nat_eq, is_some}
use Rattle.sn_msg.specs.declared.Message.{Message}
use Rattle.sn_msg.specs.declared.Body.{Body}
use Rattle.sn_msg.specs.declared.Body.TheVariants.{FwdGetS, FwdGetM, Inv, DataS, DataM, DataE, UpgOk, InvAck, PutGo, PutDone}
use Rattle.sn_model.specs.declared.cache.LineState.{LineState}
use Rattle.sn_model.specs.declared.cache.LineState.TheVariants.{Absent, Shared, Owned, Modified, Exclusive}
use Rattle.sn_model.specs.declared.cache.Need.{Need}
use Rattle.sn_model.specs.declared.cache.Need.TheVariants.{Read, Write}
use Rattle.sn_model.specs.declared.rows.CacheRow.{CacheRow}
use Rattle.sn_model.specs.declared.rows.CacheRow.TheVariants as row
use Rattle.sn_model.specs.declared.rows.Receiver.TheVariants as receiver
use Rattle.sn_model.specs.Caches.{Cache, Miss, Put, line_of, is_owned, puts_on}
use Rattle.sn_model.specs.Fabric.{Fabric, node_at}
use Rattle.sn_model.specs.NetEvents.{logged_at}
use Rattle.sn_model.specs.CacheRows.{AwaitsAnswer, NoneIn, is_absent_or_shared, MayTakeCopy, MayCount, MeetsCacheRow, noted_by_cache}
use Rattle.sn_model.specs.Receivers.{IsNoteInOrder, receiver_of}
use Rattle.sn_coherence.specs.Block as block
use Rattle.sn_coherence.specs.Invariant.{Stages}
use Rattle.sn_coherence.specs.Consequences.{MeetsRows, MeetsNotes}
use Rattle.fabric_coherence.specs.View.{GhostState, block_seen, message_seen, line_seen, miss_seen, miss_here, put_seen, wants}
use Rattle.fabric_coherence.specs.Steps.{IsInFlight}
use Rattle.fabric_coherence.proofs.Receivers.{body_of, says_body, seen_as_sent}

owned_seen : (state : LineState) → is_owned state ≡ block.is_owned (line_seen state)
owned_seen Absent = refl
owned_seen Shared = refl
owned_seen Owned = refl
owned_seen Modified = refl
owned_seen Exclusive = refl

absent_is : (state : LineState) → line_seen state ≡ block.NoLine → state ≡ Absent
absent_is Absent e = refl
absent_is Shared e = absurd (cc)
absent_is Owned e = absurd (cc)
absent_is Modified e = absurd (cc)
absent_is Exclusive e = absurd (cc)

owned_is : (state : LineState) → line_seen state ≡ block.Owned → state ≡ Owned
owned_is Absent e = absurd (cc)
owned_is Shared e = absurd (cc)
owned_is Owned e = refl
owned_is Modified e = absurd (cc)
owned_is Exclusive e = absurd (cc)

low_is : (state : LineState) → (line_seen state ≡ block.NoLine) ⊎ (line_seen state ≡ block.Shared) → is_absent_or_shared state ≡ true
low_is Absent e = refl
low_is Shared e = refl
low_is Owned (inl e) = absurd (cc)
low_is Owned (inr e) = absurd (cc)
low_is Modified (inl e) = absurd (cc)
low_is Modified (inr e) = absurd (cc)
low_is Exclusive (inl e) = absurd (cc)
low_is Exclusive (inr e) = absurd (cc)

-- the miss
on_block : (miss : Miss) (b : ℕ) (c : Bool) → nat_eq miss.block b ≡ c →
    block.is_here (if c then miss_here miss else block.new_miss block.Elsewhere miss.issued).want ≡ true → miss.block ≡ b
on_block miss b true e h = grind (arith, nat_tests)
on_block miss b false e h = absurd (cc)

wants_is : (a b : Need) → wants a ≡ wants b → a ≡ b
wants_is Read Read e = refl
wants_is Read Write e = absurd (cc)
wants_is Write Read e = absurd (cc)
wants_is Write Write e = refl

wanted_here : (need : Need) → block.is_here (wants need) ≡ true
wanted_here Read = refl
wanted_here Write = refl

unfixed_is : (fixed : Option ℕ) → is_some fixed ≡ false → fixed ≡ None
unfixed_is None e = refl
unfixed_is (Some fixed) e = absurd (cc)

here_is : (miss : Miss) (b : ℕ) → miss.block ≡ b → miss_seen b (Some miss) ≡ miss_here miss
here_is miss b e = grind (arith, nat_tests)

awaits : (o : Option Miss) (b : ℕ) (need : Need) → (miss_seen b o).want ≡ wants need → (miss_seen b o).is_fixed ≡ false → AwaitsAnswer o b need
awaits None b need w f = absurd (true≢false (sym (ap block.is_here w ∙ wanted_here need)))
awaits (Some miss) b need w f = (
  on,
  wants_is miss.need need (ap (λ x. x.want) (sym (here_is miss b on)) ∙ w),
  unfixed_is miss.fixed (ap (λ x. x.is_fixed) (sym (here_is miss b on)) ∙ f),
)
  where
    on : miss.block ≡ b
    on = on_block miss b (nat_eq miss.block b) refl (ap block.is_here w ∙ wanted_here need)

none_in : (o : Option Miss) (b : ℕ) → (miss_seen b o).want ≡ block.Reads → (miss_seen b o).acks ≡ 0 → NoneIn o
none_in None b w e = tt
none_in (Some miss) b w e = subst (λ x. x.acks ≡ 0) (here_is miss b on) e
  where
    on : miss.block ≡ b
    on = on_block miss b (nat_eq miss.block b) refl (ap block.is_here w)

-- and where none is in, its block sees none
pub none_seen : (o : Option Miss) (b : ℕ) → NoneIn o → (miss_seen b o).acks ≡ 0
none_seen None b e = refl
none_seen (Some miss) b e = by_test (nat_eq miss.block b)
  where
    by_test : (c : Bool) → (if c then miss_here miss else block.new_miss block.Elsewhere miss.issued).acks ≡ 0
    by_test true = e
    by_test false = refl

may_count : (o : Option Miss) (b : ℕ) → block.is_here (miss_seen b o).want ≡ true → (miss_seen b o).acks < 15 → MayCount o b
may_count None b w l = absurd (cc)
may_count (Some miss) b w l = (on, subst (λ x. x.acks < 15) (here_is miss b on) l)
  where
    on : miss.block ≡ b
    on = on_block miss b (nat_eq miss.block b) refl w

-- the put
puts_step : (c : Bool) → (if c then block.Here else block.PutElsewhere) ≡ block.Here → c ≡ true
puts_step true e = refl
puts_step false e = absurd (cc)

puts_here : (o : Option Put) (b : ℕ) → put_seen b o ≡ block.Here → puts_on o b ≡ true
puts_here None b e = absurd (cc)
puts_here (Some put) b e = puts_step (nat_eq put.block b) e

-- r's line inside a Take, Move or Upgrade
inside_owned : (b : block.Block) (kind : block.Kind) → Stages b → b.kind ≡ kind → block.takes kind ≡ true → b.stage ≡ block.Inside →
    block.is_owned (b.line b.requester) ≡ true
inside_owned b block.Idle st k ta i = absurd (cc)
inside_owned b block.Read st k ta i = absurd (cc)
inside_owned b block.Put st k ta i = absurd (cc)
inside_owned b block.Take st k ta i = ap block.is_owned (st.inside_other (ap block.brings_to_cache k) i)
inside_owned b block.Move st k ta i = ap block.is_owned (st.inside_other (ap block.brings_to_cache k) i)
inside_owned b block.Upgrade st k ta i = ap block.is_owned (st.inside_upgrade k i)

-- a message is this row at the cache that it has come to: the row's condition is met, and what it notes is late enough
pub record IsAtCache (s : Fabric) (m : Message) (taken : CacheRow) : Type 0 where
  pub body : m.body ≡ body_of taken
  pub met : MeetsCacheRow (logged_at s m.to) m.block taken
  pub late : IsNoteInOrder (node_at s m.to).log false m.block (noted_by_cache (node_at s m.to).now m.tag taken)

module _ (s : Fabric) (t : GhostState) (m : Message) (flight : IsInFlight s m) where
  abbrev here : block.Block
  here = block_seen s t m.block

  abbrev cache : Cache
  cache = (node_at s m.to).cache

  abbrev state : LineState
  state = (line_of cache m.block).state

  -- the message as its block sees it
  seen_as : (x : Body) → m.body ≡ x → here.net m.id ≡ message_seen m x
  seen_as x is = flight.seen ∙ ap (message_seen m) is

  body_seen : (x : Body) → m.body ≡ x → (here.net m.id).body ≡ (message_seen m x).body
  body_seen x is = ap (λ (y : block.Message). y.body) (seen_as x is)

  pub receiver_seen : (here.net m.id).to ≡ m.to
  receiver_seen = ap (λ (y : block.Message). y.to) flight.seen ∙ (seen_as_sent m m.body).1

  owned : block.is_owned (here.line (here.net m.id).to) ≡ true → is_owned state ≡ true
  owned h = owned_seen state ∙ subst (λ n. block.is_owned (here.line n) ≡ true) receiver_seen h

  -- what DataS and DataE find: a read miss whose answer isn't there, no acknowledgement, and no line
  abbrev FindsRead : ℕ → Type 0
  FindsRead n =
      ((here.miss n).want ≡ block.Reads) × ((here.miss n).is_fixed ≡ false) × ((here.miss n).acks ≡ 0) × (here.line n ≡ block.NoLine)

  may_take_copy : FindsRead (here.net m.id).to → MayTakeCopy (logged_at s m.to) m.block
  may_take_copy found =
      let h : FindsRead m.to = subst FindsRead receiver_seen found in
      (awaits cache.miss m.block Read h.0 h.1, absent_is state h.3, none_in cache.miss m.block h.0 h.2)

  module _ (rows : MeetsRows here) where
    pub meets_invalidate : (r : ℕ) → m.body ≡ Inv r → is_owned state ≡ false
    meets_invalidate r is =
        owned_seen state
        ∙ subst (λ n. block.is_owned (here.line n) ≡ false) receiver_seen (rows.invalidate m.id (body_seen (Inv r) is))

    meets_cache_row : (taken : CacheRow) → m.body ≡ body_of taken → MeetsCacheRow (logged_at s m.to) m.block taken
    meets_cache_row (row.ForwardRead r) is = owned (rows.forward_read m.id (body_seen (FwdGetS r) is))
    meets_cache_row (row.ForwardWrite r due) is = owned (rows.forward_write m.id (body_seen (FwdGetM r due) is))
    meets_cache_row (row.Invalidate r) is = tt
    meets_cache_row (row.DataShared content) is = may_take_copy (rows.data_shared m.id (body_seen (DataS content) is))
    meets_cache_row (row.DataModified content due) is =
        let h = subst
        (λ n. ((here.miss n).want ≡ block.Writes) × ((here.miss n).is_fixed ≡ false)
        × ((here.line n ≡ block.NoLine) ⊎ (here.line n ≡ block.Shared)))
        receiver_seen (rows.data_modified m.id (body_seen (DataM content due) is)) in
        (awaits cache.miss m.block Write h.0 h.1, low_is state h.2)
    meets_cache_row (row.UpgradeGranted due) is =
        let h = subst (λ n. ((here.miss n).want ≡ block.Writes) × ((here.miss n).is_fixed ≡ false) × (here.line n ≡ block.Owned))
        receiver_seen (rows.upgrade_granted m.id (body_seen (UpgOk due) is)) in
        (awaits cache.miss m.block Write h.0 h.1, owned_is state h.2)
    meets_cache_row row.Acknowledge is =
        let h = subst (λ n. (block.is_here (here.miss n).want ≡ true) × ((here.miss n).acks < 15)) receiver_seen
        (rows.acknowledge m.id (body_seen InvAck is)) in
        may_count cache.miss m.block h.0 h.1
    meets_cache_row row.PutGo is =
        let h = subst (λ n. (block.is_owned (here.line n) ≡ true) × (here.putting n ≡ block.Here)) receiver_seen
        (rows.put_go m.id (body_seen PutGo is)) in
        (owned_seen state ∙ h.0, puts_here cache.put m.block h.1)
    meets_cache_row row.PutDone is =
        puts_here cache.put m.block
        (subst (λ n. here.putting n ≡ block.Here) receiver_seen (rows.put_done m.id (body_seen PutDone is)))
    meets_cache_row (row.DataExclusive content) is = may_take_copy (rows.data_exclusive m.id (body_seen (DataE content) is))

  -- a miss that is fixed has its line
  pub fixed_owns : Stages here → (here.miss m.to).is_fixed ≡ true → is_owned state ≡ true
  fixed_owns stages e = owned_seen state
      ∙ subst (λ n. block.is_owned (here.line n) ≡ true) (stages.fixed m.to e).2
      (inside_owned here here.kind stages refl (stages.fixed m.to e).0 (stages.fixed m.to e).1)

  -- the notes
  module _ (notes : MeetsNotes here) where
    late_now : here.last (here.net m.id).to ≤ here.now (here.net m.id).to + 1 → here.last m.to ≤ here.now m.to + 1
    late_now h = subst (λ n. here.last n ≤ here.now n + 1) receiver_seen h

    cache_late : (taken : CacheRow) → m.body ≡ body_of taken →
        IsNoteInOrder (node_at s m.to).log false m.block (noted_by_cache (node_at s m.to).now m.tag taken)
    cache_late (row.ForwardWrite r due) is = late_now (notes.forward_write m.id (body_seen (FwdGetM r due) is))
    cache_late row.PutGo is = late_now (notes.put_go m.id (body_seen PutGo is))
    cache_late (row.DataModified content due) is =
        subst (λ (y : block.Message). here.last y.to ≤ y.tag + 1) (seen_as (DataM content due) is)
        (notes.data_modified m.id (body_seen (DataM content due) is))
    cache_late (row.DataExclusive content) is =
        subst (λ (y : block.Message). here.last y.to ≤ y.tag + 1) (seen_as (DataE content) is)
        (notes.data_exclusive m.id (body_seen (DataE content) is))
    cache_late _ is = tt

    pub at_cache : MeetsRows here → (taken : CacheRow) → receiver_of m.body ≡ receiver.Cache taken → IsAtCache s m taken
    at_cache rows taken is =
        let body : m.body ≡ body_of taken = says_body m.body (receiver.Cache taken) is in
        record { body = body; met = meets_cache_row rows taken body; late = cache_late taken body }
