-- What a look says of what comes to a home: the two tests that come before its row, what that notes, and how many it sends.
use Rattle.std.proofs.Common.{◌≡◌, ℕ, suc, ◌+◌, ◌/◌, ◌<◌, ◌≤◌, Bool, true, false, not, ◌&&◌, List, [], ◌∷◌, ◌++◌, length, Option, Some, None, IfSome, refl}
use Rattle.std.proofs.Common.{sym, ap, ◌∙◌, arith, length-append}
use Rattle.std.specs.Prelude.{nat_le, nat_lt, if◌then◌else◌, is_some, count_by}
use Rattle.std.proofs.lemmas.Bool.Decides.{nat_tests}
use Rattle.std.proofs.lemmas.List.{set-get_or}
use Rattle.std.proofs.lemmas.List.Sums.{sum_by-cons}
use Rattle.sn_base.specs.declared.log.LogEntry.{LogEntry}
use Rattle.sn_msg.specs.declared.Message.{Message}
use Rattle.log_buffer.specs.Log.{LogData, has_entry}
use Rattle.sn_model.specs.declared.home.Kind.{Kind}
use Rattle.sn_model.specs.declared.home.Kind.TheVariants.{Read, Take, Move, Upgrade, Put}
use Rattle.sn_model.specs.declared.look.Look.TheVariants.{Sends, HomeBusy as LooksBusy, LogFull as LooksFull}
use Rattle.sn_model.specs.declared.rows.HomeMessage.{HomeMessage}
use Rattle.sn_model.specs.declared.rows.HomeRow.{HomeRow}
use Rattle.sn_model.specs.declared.rows.HomeRow.TheVariants as row
use Rattle.sn_model.specs.Homes.{HomeEntry, Holder, Itself, OfCache, Transaction}
use Rattle.sn_model.specs.HomeRows.{LoggedEntry, HomeReply, count_others, others, invalidations, unblock, home_row, home_reply, is_request}
use Rattle.sn_model.specs.HomeRows.{noted_by_unblock, noted_by_home, unless_open}
use Rattle.sn_model.specs.Fabric.{no_entry}
use Rattle.sn_model.specs.NetEvents.{AtHome, unless_busy}
use Rattle.home_directory.specs.Home.{HomeData, entry_of, with_entry}
use Rattle.home_directory.specs.Receipt.{Verdict, Does, IsBusy, LacksRoom, verdict_on, entry_as_it_is, look_of}
use Rattle.home_directory.specs.Serving.{lacks_room, waits, verdict_for, count_sends, is_over, HasLogRoom}

-- a log with a note has more than its limit just where it lacks the room
grew : (t : Bool) (es : List LogEntry) (e : LogEntry) (limit : ℕ) → length es ≤ limit →
    nat_lt limit (length (if t then es else es ++ e ∷ [])) ≡ (nat_le limit (length es) && not t)
grew true es e limit h = grind (arith, nat_tests)
grew false es e limit h = rw (length-append es (e ∷ [])) (grind (arith, nat_tests))

stays : (n limit : ℕ) → n ≤ limit → nat_lt limit n ≡ false
stays n limit h = grind (arith, nat_tests)

end_size : (log : LogData) (entry : HomeEntry) (block fixed : ℕ) (holder : Holder) (t : Transaction) (kind : Kind) → entry.holder ≡ holder →
    t.kind ≡ kind → length log.entries ≤ log.limit →
    nat_lt log.limit (length
    (unblock (entry_as_it_is (record entry { holder = holder }) log.entries) block fixed (Some (record t { kind = kind }))).after.log)
    ≡ lacks_room log (noted_by_unblock (Some (record t { kind = kind })) holder fixed) block
end_size log entry block fixed (Itself content) t Move p q h = stays (length log.entries) log.limit h
end_size log entry block fixed (OfCache owner) t Move p q h = grew (has_entry log.entries fixed true block) log.entries _ log.limit h
end_size log entry block fixed holder t Read p q h = stays (length log.entries) log.limit h
end_size log entry block fixed holder t Take p q h = stays (length log.entries) log.limit h
end_size log entry block fixed holder t Upgrade p q h = stays (length log.entries) log.limit h
end_size log entry block fixed holder t Put p q h = stays (length log.entries) log.limit h

unblock_size : (log : LogData) (entry : HomeEntry) (block fixed : ℕ) (t : Option Transaction) → length log.entries ≤ log.limit →
    nat_lt log.limit (length (unblock (entry_as_it_is entry log.entries) block fixed t).after.log)
    ≡ lacks_room log (noted_by_unblock t entry.holder fixed) block
unblock_size log entry block fixed None h = stays (length log.entries) log.limit h
unblock_size log entry block fixed (Some t) h = end_size log entry block fixed entry.holder t t.kind refl refl h

-- the log that a row leaves is over its limit just where it lacks the room for what the row notes
over_is : (log : LogData) (entry : HomeEntry) (block now tag r : ℕ) (taken : HomeRow) → length log.entries ≤ log.limit →
    nat_lt log.limit (length (home_reply (entry_as_it_is entry log.entries) block now tag r taken).after.log)
    ≡ lacks_room log (noted_by_home entry now tag taken) block
over_is log entry block now tag r (row.ReadAtHome content) h = stays (length log.entries) log.limit h
over_is log entry block now tag r (row.ReadAtOwner owner) h = stays (length log.entries) log.limit h
over_is log entry block now tag r (row.Take content) h = grew (has_entry log.entries now true block) log.entries _ log.limit h
over_is log entry block now tag r (row.MoveOwnership owner) h = stays (length log.entries) log.limit h
over_is log entry block now tag r row.Upgrade h = stays (length log.entries) log.limit h
over_is log entry block now tag r (row.Unblock fixed) h = unblock_size log entry block fixed entry.transaction h
over_is log entry block now tag r row.PutBegins h = stays (length log.entries) log.limit h
over_is log entry block now tag r row.PutIsStale h = stays (length log.entries) log.limit h
over_is log entry block now tag r (row.PutData content) h = grew (has_entry log.entries tag true block) log.entries _ log.limit h
over_is log entry block now tag r (row.GrantExclusive content) h = grew (has_entry log.entries now true block) log.entries _ log.limit h

-- where it isn't over, the log has the room for what the row notes

grew_room : (t : Bool) (es : List LogEntry) (e : LogEntry) (limit : ℕ) → nat_lt limit (length (if t then es else es ++ e ∷ [])) ≡ false →
    t ≡ false → length es < limit
grew_room true es e limit h q = absurd (cc)
grew_room false es e limit h q =
    let l : length (es ++ e ∷ []) ≡ length es + 1 = length-append es (e ∷ []) in
    let k : nat_lt limit (length (es ++ e ∷ [])) ≡ false = h in
    grind (arith, nat_tests, l, k)

end_room : (log : LogData) (entry : HomeEntry) (block fixed : ℕ) (holder : Holder) (t : Transaction) (kind : Kind) →
    is_over log (unblock (entry_as_it_is (record entry { holder = holder }) log.entries) block fixed (Some (record t { kind = kind }))) ≡ false →
    IfSome (noted_by_unblock (Some (record t { kind = kind })) holder fixed) (λ i. HasLogRoom log i block)
end_room log entry block fixed (Itself content) t Move k = tt
end_room log entry block fixed (OfCache owner) t Move k = grew_room (has_entry log.entries fixed true block) log.entries _ log.limit k
end_room log entry block fixed holder t Read k = tt
end_room log entry block fixed holder t Take k = tt
end_room log entry block fixed holder t Upgrade k = tt
end_room log entry block fixed holder t Put k = tt

unblock_room : (log : LogData) (entry : HomeEntry) (block fixed : ℕ) (t : Option Transaction) →
    is_over log (unblock (entry_as_it_is entry log.entries) block fixed t) ≡ false →
    IfSome (noted_by_unblock t entry.holder fixed) (λ i. HasLogRoom log i block)
unblock_room log entry block fixed None k = tt
unblock_room log entry block fixed (Some t) k = end_room log entry block fixed entry.holder t t.kind k

pub has_room : (log : LogData) (entry : HomeEntry) (block now tag r : ℕ) (taken : HomeRow) →
    is_over log (home_reply (entry_as_it_is entry log.entries) block now tag r taken) ≡ false →
    IfSome (noted_by_home entry now tag taken) (λ i. HasLogRoom log i block)
has_room log entry block now tag r (row.ReadAtHome content) k = tt
has_room log entry block now tag r (row.ReadAtOwner owner) k = tt
has_room log entry block now tag r (row.Take content) k = grew_room (has_entry log.entries now true block) log.entries _ log.limit k
has_room log entry block now tag r (row.MoveOwnership owner) k = tt
has_room log entry block now tag r row.Upgrade k = tt
has_room log entry block now tag r (row.Unblock fixed) k = unblock_room log entry block fixed entry.transaction k
has_room log entry block now tag r row.PutBegins k = tt
has_room log entry block now tag r row.PutIsStale k = tt
has_room log entry block now tag r (row.PutData content) k = grew_room (has_entry log.entries tag true block) log.entries _ log.limit k
has_room log entry block now tag r (row.GrantExclusive content) k = grew_room (has_entry log.entries now true block) log.entries _ log.limit k

-- where it needn't wait, its row is done, unless the log lacks the room for its note

pub idle_step : (asks : Bool) (t : Option Transaction) (reply : HomeReply) → (asks && is_some t) ≡ false →
    (if asks then unless_busy t reply else AtHome reply) ≡ AtHome reply
idle_step true (Some t) reply w = cc
idle_step true None reply w = refl
idle_step false t reply w = refl

busy_step : (asks : Bool) (t : Option Transaction) (reply : HomeReply) (limit sends : ℕ) → (asks && is_some t) ≡ true →
    look_of (verdict_on limit (if asks then unless_busy t reply else AtHome reply)) ≡ Sends sends → ⊥
busy_step true (Some t) reply limit sends w e = cc
busy_step true None reply limit sends w e = absurd (cc)
busy_step false t reply limit sends w e = absurd (cc)

-- and it notes what its row does
pub noted_idle : (asks : Bool) (t : Option Transaction) (noted : Option ℕ) → (asks && is_some t) ≡ false →
    (if asks then unless_open t noted else noted) ≡ noted
noted_idle true (Some t) noted w = cc
noted_idle true None noted w = refl
noted_idle false t noted w = refl

module _ (now : ℕ) (m : Message) (message : HomeMessage) where
  abbrev pub reply_of : LoggedEntry → HomeReply
  reply_of at = home_reply at m.block now m.tag m.from (home_row at.entry m.from message)

  judged_is : (log : LogData) (entry : HomeEntry) → length log.entries ≤ log.limit → waits entry message ≡ false →
      verdict_for log.limit (entry_as_it_is entry log.entries) now m message
      ≡ (if lacks_room log (noted_by_home entry now m.tag (home_row entry m.from message)) m.block then LacksRoom else Does (reply_of (entry_as_it_is entry log.entries)))
  judged_is log entry h w =
      ap (verdict_on log.limit) (idle_step (is_request message) entry.transaction (reply_of (entry_as_it_is entry log.entries)) w)
      ∙ ap (λ (over : Bool). if over then LacksRoom else Does (reply_of (entry_as_it_is entry log.entries)))
      (over_is log entry m.block now m.tag m.from (home_row entry m.from message) h)

-- as many Inv as there are marks
length_invalidations : (node : ℕ) (marks : List Bool) (r : ℕ) → length (invalidations node marks r) ≡ count_by (λ mark. mark) marks
length_invalidations node [] r = refl
length_invalidations node (true ∷ marks) r = rw sum_by-cons (rw (length_invalidations (node + 1) marks r) (omega arith))
length_invalidations node (false ∷ marks) r = rw sum_by-cons (rw (length_invalidations (node + 1) marks r) (omega arith))

one_more : (r : ℕ) (sharers : List Bool) → suc (length (invalidations 0 (others sharers r) r)) ≡ 1 + count_others sharers r
one_more r sharers = rw (length_invalidations 0 (others sharers r) r) (omega arith)

unblock_sends : (at : LoggedEntry) (block fixed : ℕ) (t : Option Transaction) → look_of (Does (unblock at block fixed t)) ≡ Sends 0
unblock_sends at block fixed None = refl
unblock_sends at block fixed (Some t) = refl

-- how many messages a row sends
sends_are : (at : LoggedEntry) (block now tag r : ℕ) (taken : HomeRow) →
    look_of (Does (home_reply at block now tag r taken)) ≡ Sends (count_sends at.entry r taken)
sends_are at block now tag r (row.ReadAtHome content) = refl
sends_are at block now tag r (row.ReadAtOwner owner) = refl
sends_are at block now tag r (row.Take content) = ap Sends (one_more r at.entry.sharers)
sends_are at block now tag r (row.MoveOwnership owner) = ap Sends (one_more r at.entry.sharers)
sends_are at block now tag r row.Upgrade = ap Sends (one_more r at.entry.sharers)
sends_are at block now tag r (row.Unblock fixed) = unblock_sends at block fixed at.entry.transaction
sends_are at block now tag r row.PutBegins = refl
sends_are at block now tag r row.PutIsStale = refl
sends_are at block now tag r (row.PutData content) = refl
sends_are at block now tag r (row.GrantExclusive content) = refl

-- so a look says, of a row for whose note the log has room
pub looks_done : (now : ℕ) (m : Message) (message : HomeMessage) (log : LogData) (entry : HomeEntry) (taken : HomeRow) →
    length log.entries ≤ log.limit → waits entry message ≡ false → taken ≡ home_row entry m.from message →
    lacks_room log (noted_by_home entry now m.tag taken) m.block ≡ false →
    Sends (count_sends entry m.from taken) ≡ look_of (verdict_for log.limit (entry_as_it_is entry log.entries) now m message)
looks_done now m message log entry taken h w e k =
    ap (λ (x : HomeRow). Sends (count_sends entry m.from x)) e
    ∙ sym (sends_are (entry_as_it_is entry log.entries) m.block now m.tag m.from (home_row entry m.from message))
    ∙ sym (ap look_of (judged_is now m message log entry h w
    ∙ ap (λ (over : Bool). if over then LacksRoom else Does (reply_of now m message (entry_as_it_is entry log.entries)))
    (ap (λ (x : HomeRow). lacks_room log (noted_by_home entry now m.tag x) m.block) (sym e) ∙ k)))

-- what a look says of a row is that it is done

-- what comes to the home needn't wait, its row has the room, and that is the verdict
pub record IsServed (limit : ℕ) (at : LoggedEntry) (now : ℕ) (m : Message) (message : HomeMessage) : Type 0 where
  pub idle : waits at.entry message ≡ false
  pub room : nat_lt limit (length (reply_of now m message at).after.log) ≡ false
  pub verdict : verdict_for limit at now m message ≡ Does (reply_of now m message at)

served_over : (limit : ℕ) (at : LoggedEntry) (now : ℕ) (m : Message) (message : HomeMessage) (over : Bool) (sends : ℕ) →
    waits at.entry message ≡ false → verdict_for limit at now m message ≡ verdict_on limit (AtHome (reply_of now m message at)) →
    nat_lt limit (length (reply_of now m message at).after.log) ≡ over →
    look_of (if over then LacksRoom else Does (reply_of now m message at)) ≡ Sends sends → IsServed limit at now m message
served_over limit at now m message true sends w v o e = absurd (cc)
served_over limit at now m message false sends w v o e = record {
  idle = w;
  room = o;
  verdict = v ∙ ap (λ (over : Bool). if over then LacksRoom else Does (reply_of now m message at)) o;
}

served_step : (limit : ℕ) (at : LoggedEntry) (now : ℕ) (m : Message) (message : HomeMessage) (wait : Bool) (sends : ℕ) →
    waits at.entry message ≡ wait → look_of (verdict_for limit at now m message) ≡ Sends sends → IsServed limit at now m message
served_step limit at now m message true sends w e =
    absurd (busy_step (is_request message) at.entry.transaction (reply_of now m message at) limit sends w e)
served_step limit at now m message false sends w e =
    let v : verdict_for limit at now m message ≡ verdict_on limit (AtHome (reply_of now m message at)) =
    ap (verdict_on limit) (idle_step (is_request message) at.entry.transaction (reply_of now m message at) w) in
    served_over limit at now m message (nat_lt limit (length (reply_of now m message at).after.log)) sends w v refl (sym (ap look_of v) ∙ e)

pub served : (limit : ℕ) (at : LoggedEntry) (now : ℕ) (m : Message) (message : HomeMessage) (sends : ℕ) →
    look_of (verdict_for limit at now m message) ≡ Sends sends → IsServed limit at now m message
served limit at now m message sends e = served_step limit at now m message (waits at.entry message) sends refl e

-- a refusal leaves all as it is

pub busy_of : (v : Verdict) → look_of v ≡ LooksBusy → v ≡ IsBusy
busy_of (Does reply) e = absurd (cc)
busy_of IsBusy e = refl
busy_of LacksRoom e = absurd (cc)

pub lacks_of : (v : Verdict) → look_of v ≡ LooksFull → v ≡ LacksRoom
lacks_of (Does reply) e = absurd (cc)
lacks_of IsBusy e = absurd (cc)
lacks_of LacksRoom e = refl

pub same_home : (home : HomeData) (block : ℕ) → home ≡ with_entry home block (entry_of home block)
same_home home block =
    sym (ap (λ (es : List HomeEntry). record home { entries = es }) (set-get_or home.entries (block / home.nodes) no_entry))
