-- The rows of a cache, in the order of its table: what each message does at the node that it has come to. A row is a
-- function of the cache, its node's log, the message's block, and what the message carries; `now` is the node's interval
-- and `tag` the message's. Beside each row stands its condition, which a message that is delivered always meets.
use Rattle.std.specs.Prelude.{◌≡◌, ℕ, ◌+◌, ◌<◌, Bool, true, false, nat_eq, if◌then◌else◌, List, [], ◌∷◌, Option, Some, None}
use Rattle.sn_base.specs.declared.log.LogEntry.{LogEntry}
use Rattle.sn_base.specs.declared.log.Old.TheVariants.{NotOwned, Owned as WasOwned}
use Rattle.sn_msg.specs.declared.Body.{Body}
use Rattle.sn_msg.specs.declared.Body.TheVariants.{DataS, DataM, InvAck, Unblock, PutData}
use Rattle.sn_model.specs.declared.cache.LineState.{LineState}
use Rattle.sn_model.specs.declared.cache.LineState.TheVariants.{Absent, Shared, Owned, Modified, Exclusive}
use Rattle.sn_model.specs.declared.cache.Need.{Need}
use Rattle.sn_model.specs.declared.cache.Need.TheVariants.{Read, Write}
use Rattle.sn_model.specs.declared.cache.Out.{Out}
use Rattle.sn_model.specs.declared.rows.CacheRow.{CacheRow}
use Rattle.sn_model.specs.declared.rows.CacheRow.TheVariants as row
use Rattle.sn_model.specs.declared.rows.Receiver.{Receiver}
use Rattle.sn_model.specs.declared.rows.Receiver.TheVariants as receiver
use Rattle.log_buffer.specs.Log.{log_with_note}
use Rattle.sn_model.specs.Receivers.{receiver_of}
use Rattle.sn_model.specs.Caches.{Cache, Miss, line_of, with_line, without_line, is_present, is_owned, puts_on}

-- a cache with its node's log
pub record Logged : Type 0 where
  pub cache : Cache
  pub log : List LogEntry

-- what a row leaves: the cache and the log, what the cache sends, and the block whose copy was lost
pub record CacheReply : Type 0 where
  pub after : Logged
  pub sends : List Out
  pub lost : Option ℕ

abbrev pub send : ℕ → Body → Out
send to body = record { to = to; body = body }

abbrev pub content_of : Logged → ℕ → List ℕ
content_of at block = (line_of at.cache block).content

-- the old content is noted and the copy is lost
abbrev pub given_up : Logged → ℕ → ℕ → Logged
given_up at block now = record {
  cache = without_line at.cache block;
  log = log_with_note at.log now block (WasOwned (content_of at block));
}

-- the line of a block that arrives with its ownership, noted under the message's tag
abbrev pub taken_over : Logged → ℕ → ℕ → LineState → List ℕ → Logged
taken_over at block tag state content = record {
  cache = with_line at.cache block state content;
  log = log_with_note at.log tag block NotOwned;
}

abbrev pub with_miss : Logged → Option Miss → Logged
with_miss at miss = record at { cache = record at.cache { miss = miss } }

abbrev pub closed_put : Logged → Logged
closed_put at = record at { cache = record at.cache { put = None } }

-- how a miss completes

-- the line of a block that was wanted for a write is Modified
abbrev pub line_when_done : LineState → Need → LineState
line_when_done state Read = state
line_when_done Absent Write = Absent
line_when_done Shared Write = Modified
line_when_done Owned Write = Modified
line_when_done Modified Write = Modified
line_when_done Exclusive Write = Modified

-- the miss is complete: its home gets the interval of atomicity
abbrev pub reply_when_complete : Logged → ℕ → Miss → ℕ → CacheReply
reply_when_complete at home miss fixed = record {
  after =
      record at {
        cache = record
            (with_line at.cache miss.block (line_when_done (line_of at.cache miss.block).state miss.need)
            (content_of at miss.block)) { miss = None };
      };
  sends = send home (Unblock fixed) ∷ [];
  lost = None;
}

-- the miss waits for acknowledgements
abbrev pub reply_that_waits : Logged → Miss → CacheReply
reply_that_waits at miss = record { after = with_miss at (Some miss); sends = []; lost = None }

-- the miss with what it knows now: complete where it is fixed and all acknowledgements due are in
abbrev pub reply_or_wait_by : Logged → ℕ → Miss → Option ℕ → CacheReply
reply_or_wait_by at home miss None = reply_that_waits at miss
reply_or_wait_by at home miss (Some fixed) = if nat_eq miss.acks miss.due then reply_when_complete at home miss fixed else reply_that_waits at miss

abbrev pub reply_or_wait : Logged → ℕ → Option Miss → CacheReply
reply_or_wait at home None = record { after = at; sends = []; lost = None }
reply_or_wait at home (Some miss) = reply_or_wait_by at home miss miss.fixed

-- the open miss, fixed at an interval with so many acknowledgements due
abbrev pub fixed_at : Option Miss → ℕ → ℕ → Option Miss
fixed_at None tag due = None
fixed_at (Some miss) tag due = Some (record miss { fixed = Some tag; due = due })

-- the open miss, with one more acknowledgement
abbrev pub miss_with_ack : Option Miss → Option Miss
miss_with_ack None = None
miss_with_ack (Some miss) = Some (record miss { acks = miss.acks + 1 })

-- what rows ask of the miss and the line

-- an open miss on the block for this need, whose answer isn't there
abbrev pub AwaitsAnswer : Option Miss → ℕ → Need → Type 0
AwaitsAnswer None block need = ⊥
AwaitsAnswer (Some miss) block need = (miss.block ≡ block) × (miss.need ≡ need) × (miss.fixed ≡ None)

-- no acknowledgement has come to the open miss
abbrev pub NoneIn : Option Miss → Type 0
NoneIn None = Unit {0}
NoneIn (Some miss) = miss.acks ≡ 0

abbrev pub is_absent_or_shared : LineState → Bool
is_absent_or_shared Absent = true
is_absent_or_shared Shared = true
is_absent_or_shared Owned = false
is_absent_or_shared Modified = false
is_absent_or_shared Exclusive = false

-- the rows

-- FwdGetS for the requester: the line is Owned; the content goes to the requester
abbrev pub forward_read : Logged → ℕ → ℕ → CacheReply
forward_read at block requester = record {
  after = record at { cache = with_line at.cache block Owned (content_of at block) };
  sends = send requester (DataS (content_of at block)) ∷ [];
  lost = None;
}

abbrev pub MayForward : Logged → ℕ → Type 0
MayForward at block = is_owned (line_of at.cache block).state ≡ true

-- FwdGetM for the requester, with so many acknowledgements due: the content is noted under now, and the copy is lost; the
-- content goes to the requester with its ownership
abbrev pub forward_write : Logged → ℕ → ℕ → ℕ → ℕ → CacheReply
forward_write at block now requester due = record {
  after = given_up at block now;
  sends = send requester (DataM (content_of at block) due) ∷ [];
  lost = Some block;
}

-- Inv for the requester: the copy, if any, is lost; the requester gets the acknowledgement
abbrev pub invalidate : Logged → ℕ → ℕ → CacheReply
invalidate at block requester = record {
  after = record at { cache = without_line at.cache block };
  sends = send requester InvAck ∷ [];
  lost = if is_present (line_of at.cache block).state then Some block else None;
}

-- DataS: the line is Shared; the read is complete, since none are due and none are in
abbrev pub data_shared : Logged → ℕ → ℕ → ℕ → List ℕ → CacheReply
data_shared at home block tag content =
    reply_or_wait (record at { cache = with_line at.cache block Shared content }) home (fixed_at at.cache.miss tag 0)

abbrev pub MayTakeCopy : Logged → ℕ → Type 0
MayTakeCopy at block =
    AwaitsAnswer at.cache.miss block Read × ((line_of at.cache block).state ≡ Absent) × NoneIn at.cache.miss

-- DataM with so many acknowledgements due: that nothing was owned is noted under the tag; the line is Modified
abbrev pub data_modified : Logged → ℕ → ℕ → ℕ → List ℕ → ℕ → CacheReply
data_modified at home block tag content due =
    reply_or_wait (taken_over at block tag Modified content) home (fixed_at at.cache.miss tag due)

abbrev pub MayTakeOwnership : Logged → ℕ → Type 0
MayTakeOwnership at block = AwaitsAnswer at.cache.miss block Write × (is_absent_or_shared (line_of at.cache block).state ≡ true)

-- UpgOk with so many acknowledgements due: the owner may write once they are in
abbrev pub upgrade_granted : Logged → ℕ → ℕ → ℕ → CacheReply
upgrade_granted at home tag due = reply_or_wait at home (fixed_at at.cache.miss tag due)

abbrev pub MayUpgrade : Logged → ℕ → Type 0
MayUpgrade at block = AwaitsAnswer at.cache.miss block Write × ((line_of at.cache block).state ≡ Owned)

-- InvAck: one more acknowledgement is in
abbrev pub acknowledge : Logged → ℕ → CacheReply
acknowledge at home = reply_or_wait at home (miss_with_ack at.cache.miss)

abbrev pub MayCount : Option Miss → ℕ → Type 0
MayCount None block = ⊥
MayCount (Some miss) block = (miss.block ≡ block) × (miss.acks < 15)

-- PutGo: the content is noted under now, the copy is lost, the put is closed; the home gets the content
abbrev pub put_go : Logged → ℕ → ℕ → ℕ → CacheReply
put_go at home block now = record {
  after = closed_put (given_up at block now);
  sends = send home (PutData (content_of at block)) ∷ [];
  lost = Some block;
}

abbrev pub MayGiveBack : Logged → ℕ → Type 0
MayGiveBack at block = (is_owned (line_of at.cache block).state ≡ true) × (puts_on at.cache.put block ≡ true)

-- PutDone: the put is closed
abbrev pub put_done : Logged → CacheReply
put_done at = record { after = closed_put at; sends = []; lost = None }

abbrev pub MayClosePut : Logged → ℕ → Type 0
MayClosePut at block = puts_on at.cache.put block ≡ true

-- DataE: that nothing was owned is noted under the tag; the line is Exclusive; the read is complete, as above
abbrev pub data_exclusive : Logged → ℕ → ℕ → ℕ → List ℕ → CacheReply
data_exclusive at home block tag content =
    reply_or_wait (taken_over at block tag Exclusive content) home (fixed_at at.cache.miss tag 0)

-- the row of each message

-- what a row leaves, for a block of this home, in the node's interval, with the message's tag
abbrev pub cache_reply : Logged → ℕ → ℕ → ℕ → ℕ → CacheRow → CacheReply
cache_reply at home block now tag (row.ForwardRead r) = forward_read at block r
cache_reply at home block now tag (row.ForwardWrite r due) = forward_write at block now r due
cache_reply at home block now tag (row.Invalidate r) = invalidate at block r
cache_reply at home block now tag (row.DataShared content) = data_shared at home block tag content
cache_reply at home block now tag (row.DataModified content due) = data_modified at home block tag content due
cache_reply at home block now tag (row.UpgradeGranted due) = upgrade_granted at home tag due
cache_reply at home block now tag row.Acknowledge = acknowledge at home
cache_reply at home block now tag row.PutGo = put_go at home block now
cache_reply at home block now tag row.PutDone = put_done at
cache_reply at home block now tag (row.DataExclusive content) = data_exclusive at home block tag content

-- the condition of a row
abbrev pub MeetsCacheRow : Logged → ℕ → CacheRow → Type 0
MeetsCacheRow at block (row.ForwardRead r) = MayForward at block
MeetsCacheRow at block (row.ForwardWrite r due) = MayForward at block
MeetsCacheRow at block (row.Invalidate r) = Unit {0}
MeetsCacheRow at block (row.DataShared content) = MayTakeCopy at block
MeetsCacheRow at block (row.DataModified content due) = MayTakeOwnership at block
MeetsCacheRow at block (row.UpgradeGranted due) = MayUpgrade at block
MeetsCacheRow at block row.Acknowledge = MayCount at.cache.miss block
MeetsCacheRow at block row.PutGo = MayGiveBack at block
MeetsCacheRow at block row.PutDone = MayClosePut at block
MeetsCacheRow at block (row.DataExclusive content) = MayTakeCopy at block

-- the interval in which a row notes, where it does
abbrev pub noted_by_cache : ℕ → ℕ → CacheRow → Option ℕ
noted_by_cache now tag (row.ForwardRead r) = None
noted_by_cache now tag (row.ForwardWrite r due) = Some now
noted_by_cache now tag (row.Invalidate r) = None
noted_by_cache now tag (row.DataShared content) = None
noted_by_cache now tag (row.DataModified content due) = Some tag
noted_by_cache now tag (row.UpgradeGranted due) = None
noted_by_cache now tag row.Acknowledge = None
noted_by_cache now tag row.PutGo = Some now
noted_by_cache now tag row.PutDone = None
noted_by_cache now tag (row.DataExclusive content) = Some tag

-- the same of whoever takes a message

-- a message that doesn't come to a cache does nothing there
abbrev pub no_row : Logged → CacheReply
no_row at = record { after = at; sends = []; lost = None }

abbrev pub reply_at_cache : Logged → ℕ → ℕ → ℕ → ℕ → Receiver → CacheReply
reply_at_cache at home block now tag (receiver.Cache taken) = cache_reply at home block now tag taken
reply_at_cache at home block now tag (receiver.Home message) = no_row at
reply_at_cache at home block now tag (receiver.Controller k) = no_row at
reply_at_cache at home block now tag (receiver.Clock k) = no_row at

abbrev pub MeetsAtCache : Logged → ℕ → Receiver → Type 0
MeetsAtCache at block (receiver.Cache taken) = MeetsCacheRow at block taken
MeetsAtCache at block (receiver.Home message) = ⊥
MeetsAtCache at block (receiver.Controller k) = ⊥
MeetsAtCache at block (receiver.Clock k) = ⊥

abbrev pub noted_at_cache : ℕ → ℕ → Receiver → Option ℕ
noted_at_cache now tag (receiver.Cache taken) = noted_by_cache now tag taken
noted_at_cache now tag (receiver.Home message) = None
noted_at_cache now tag (receiver.Controller k) = None
noted_at_cache now tag (receiver.Clock k) = None

-- and of a body: what its row leaves, its row's condition, and where its row notes
abbrev pub row_by : Logged → ℕ → ℕ → ℕ → ℕ → Body → CacheReply
row_by at home block now tag body = reply_at_cache at home block now tag (receiver_of body)

abbrev pub MeetsRow : Logged → ℕ → Body → Type 0
MeetsRow at block body = MeetsAtCache at block (receiver_of body)

abbrev pub noted_in : ℕ → ℕ → Body → Option ℕ
noted_in now tag body = noted_at_cache now tag (receiver_of body)
