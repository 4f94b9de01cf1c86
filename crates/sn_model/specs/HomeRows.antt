-- The rows of a home, in the order of its table: what each message does to the entry of its block. `r` is the sender,
-- `now` the home's interval and `tag` the message's. Where a transaction is open, a request waits (HomeBusy).
use Rattle.std.specs.Prelude.{◌≡◌, ℕ, ◌+◌, Bool, true, false, nat_eq, if◌then◌else◌, List, [], ◌∷◌, count_by, slice_set, Option, Some, None}
use Rattle.sn_base.specs.declared.log.LogEntry.{LogEntry}
use Rattle.sn_base.specs.declared.log.Old.TheVariants.{WasHome, WasCache}
use Rattle.sn_msg.specs.declared.Message.{Message}
use Rattle.sn_msg.specs.declared.Body.{Body}
use Rattle.sn_msg.specs.declared.Body.TheVariants.{FwdGetS, FwdGetM, Inv, DataS, DataM, DataE, UpgOk, PutGo, PutDone}
use Rattle.sn_model.specs.declared.home.Kind.{Kind}
use Rattle.sn_model.specs.declared.home.Kind.TheVariants.{Read, Take, Move, Upgrade, Put}
use Rattle.sn_model.specs.declared.cache.Out.{Out}
use Rattle.sn_model.specs.declared.rows.HomeMessage.{HomeMessage}
use Rattle.sn_model.specs.declared.rows.HomeMessage.TheVariants as asked
use Rattle.sn_model.specs.declared.rows.HomeRow.{HomeRow}
use Rattle.sn_model.specs.declared.rows.HomeRow.TheVariants as row
use Rattle.sn_model.specs.declared.rows.Receiver.{Receiver}
use Rattle.sn_model.specs.declared.rows.Receiver.TheVariants as receiver
use Rattle.log_buffer.specs.Log.{log_with_note}
use Rattle.sn_model.specs.Homes.{HomeEntry, Holder, Itself, OfCache, Transaction, is_owner, no_sharers}
use Rattle.sn_model.specs.CacheRows.{send}
use Rattle.sn_model.specs.Receivers.{receiver_of}

-- an entry with its node's log
pub record LoggedEntry : Type 0 where
  pub entry : HomeEntry
  pub log : List LogEntry

-- what a row leaves: the entry and the log, and what the home sends
pub record HomeReply : Type 0 where
  pub after : LoggedEntry
  pub sends : List Out

abbrev pub transaction_by : Kind → ℕ → ℕ → Option Transaction
transaction_by kind r now = Some (record { kind = kind; requester = r; begun = now })

-- the sharers without the requester, and how many they are
abbrev pub others : List Bool → ℕ → List Bool
others sharers r = slice_set sharers r false

abbrev pub count_others : List Bool → ℕ → ℕ
count_others sharers r = count_by (λ mark. mark) (others sharers r)

-- an Inv to each marked node, in order of nodes from this one on
abbrev pub invalidations : ℕ → List Bool → ℕ → List Out
invalidations node [] r = []
invalidations node (true ∷ marks) r = send node (Inv r) ∷ invalidations (node + 1) marks r
invalidations node (false ∷ marks) r = invalidations (node + 1) marks r

-- the block goes from the home to r: its content is noted under now, and r owns it
abbrev pub taken_from_home : LoggedEntry → ℕ → ℕ → ℕ → List ℕ → LoggedEntry
taken_from_home at block now r content = record {
  entry = record { holder = OfCache r; sharers = no_sharers; transaction = transaction_by Take r now };
  log = log_with_note at.log now block (WasHome content);
}

-- GetS where the home owns and others share: r joins the sharers and gets a copy
abbrev pub read_at_home : LoggedEntry → ℕ → ℕ → List ℕ → HomeReply
read_at_home at now r content = record {
  after = record at { entry = record at.entry { sharers = slice_set at.entry.sharers r true; transaction = transaction_by Read r now } };
  sends = send r (DataS content) ∷ [];
}

-- GetS where a cache owns: r joins the sharers; the owner sends the copy
abbrev pub read_at_owner : LoggedEntry → ℕ → ℕ → ℕ → HomeReply
read_at_owner at now r owner = record {
  after = record at { entry = record at.entry { sharers = slice_set at.entry.sharers r true; transaction = transaction_by Read r now } };
  sends = send owner (FwdGetS r) ∷ [];
}

-- GetM where the home owns: r owns; it gets the content, and the other sharers an Inv
abbrev pub take : LoggedEntry → ℕ → ℕ → ℕ → List ℕ → HomeReply
take at block now r content = record {
  after = taken_from_home at block now r content;
  sends = send r (DataM content (count_others at.entry.sharers r)) ∷ invalidations 0 (others at.entry.sharers r) r;
}

-- GetM where another cache owns: it sends the content and the ownership; the other sharers get an Inv. The home names the
-- old owner until the Unblock
abbrev pub move_ownership : LoggedEntry → ℕ → ℕ → ℕ → HomeReply
move_ownership at now r owner = record {
  after = record at { entry = record at.entry { sharers = no_sharers; transaction = transaction_by Move r now } };
  sends = send owner (FwdGetM r (count_others at.entry.sharers r)) ∷ invalidations 0 (others at.entry.sharers r) r;
}

-- GetM where r owns: it may write once the other sharers have acknowledged
abbrev pub upgrade : LoggedEntry → ℕ → ℕ → HomeReply
upgrade at now r = record {
  after = record at { entry = record at.entry { sharers = no_sharers; transaction = transaction_by Upgrade r now } };
  sends = send r (UpgOk (count_others at.entry.sharers r)) ∷ invalidations 0 (others at.entry.sharers r) r;
}

abbrev pub without_transaction : LoggedEntry → LoggedEntry
without_transaction at = record at { entry = record at.entry { transaction = None } }

-- the name of the owner before a Move, noted under the interval of atomicity
abbrev pub noted_owner : List LogEntry → ℕ → ℕ → Holder → List LogEntry
noted_owner log interval block (Itself content) = log
noted_owner log interval block (OfCache owner) = log_with_note log interval block (WasCache owner)

-- Unblock with its interval of atomicity: of a Move, r is the owner from then on; the transaction is closed
abbrev pub unblock_of : LoggedEntry → ℕ → ℕ → Kind → ℕ → LoggedEntry
unblock_of at block fixed Move r = without_transaction (record {
  entry = record at.entry { holder = OfCache r };
  log = noted_owner at.log fixed block at.entry.holder;
})
unblock_of at block fixed Read r = without_transaction at
unblock_of at block fixed Take r = without_transaction at
unblock_of at block fixed Upgrade r = without_transaction at
unblock_of at block fixed Put r = without_transaction at

abbrev pub unblock : LoggedEntry → ℕ → ℕ → Option Transaction → HomeReply
unblock at block fixed None = record { after = at; sends = [] }
unblock at block fixed (Some transaction) = record { after = unblock_of at block fixed transaction.kind transaction.requester; sends = [] }

-- PutReq of the owner: it may give the block back
abbrev pub put_begins : LoggedEntry → ℕ → ℕ → HomeReply
put_begins at now r = record {
  after = record at { entry = record at.entry { transaction = transaction_by Put r now } };
  sends = send r PutGo ∷ [];
}

-- PutReq of a node that doesn't own the block any more: there is nothing to give back
abbrev pub put_is_stale : LoggedEntry → ℕ → HomeReply
put_is_stale at r = record { after = at; sends = send r PutDone ∷ [] }

-- PutData: that r owned is noted under the tag; the home owns
abbrev pub put_data : LoggedEntry → ℕ → ℕ → ℕ → List ℕ → HomeReply
put_data at block tag r content = record {
  after = without_transaction (record {
    entry = record at.entry { holder = Itself content };
    log = log_with_note at.log tag block (WasCache r);
  });
  sends = [];
}

-- GetS where the home owns and nobody else shares: r gets the block alone
abbrev pub grant_exclusive : LoggedEntry → ℕ → ℕ → ℕ → List ℕ → HomeReply
grant_exclusive at block now r content = record {
  after = taken_from_home at block now r content;
  sends = send r (DataE content) ∷ [];
}

-- the row of each message

-- of a GetS, where so many others share
abbrev pub read_row : Holder → ℕ → HomeRow
read_row (Itself content) others = if nat_eq others 0 then row.GrantExclusive content else row.ReadAtHome content
read_row (OfCache owner) others = row.ReadAtOwner owner

-- of a GetM from r
abbrev pub write_row : Holder → ℕ → HomeRow
write_row (Itself content) r = row.Take content
write_row (OfCache owner) r = if nat_eq owner r then row.Upgrade else row.MoveOwnership owner

-- of what comes from r, at its block's entry
abbrev pub home_row : HomeEntry → ℕ → HomeMessage → HomeRow
home_row entry r asked.GetS = read_row entry.holder (count_others entry.sharers r)
home_row entry r asked.GetM = write_row entry.holder r
home_row entry r (asked.Unblock fixed) = row.Unblock fixed
home_row entry r asked.PutReq = if is_owner entry.holder r then row.PutBegins else row.PutIsStale
home_row entry r (asked.PutData content) = row.PutData content

-- what a row leaves, for a block and a message from r, in the home's interval, with the message's tag
abbrev pub home_reply : LoggedEntry → ℕ → ℕ → ℕ → ℕ → HomeRow → HomeReply
home_reply at block now tag r (row.ReadAtHome content) = read_at_home at now r content
home_reply at block now tag r (row.ReadAtOwner owner) = read_at_owner at now r owner
home_reply at block now tag r (row.Take content) = take at block now r content
home_reply at block now tag r (row.MoveOwnership owner) = move_ownership at now r owner
home_reply at block now tag r row.Upgrade = upgrade at now r
home_reply at block now tag r (row.Unblock fixed) = unblock at block fixed at.entry.transaction
home_reply at block now tag r row.PutBegins = put_begins at now r
home_reply at block now tag r row.PutIsStale = put_is_stale at r
home_reply at block now tag r (row.PutData content) = put_data at block tag r content
home_reply at block now tag r (row.GrantExclusive content) = grant_exclusive at block now r content

-- whether it is a request, which waits while a transaction is open
abbrev pub is_request : HomeMessage → Bool
is_request asked.GetS = true
is_request asked.GetM = true
is_request (asked.Unblock fixed) = false
is_request asked.PutReq = true
is_request (asked.PutData content) = false

-- what rows ask of the open transaction

abbrev pub is_put : Kind → Bool
is_put Put = true
is_put _ = false

-- an open transaction of another kind than Put that the sender asked for
abbrev pub MayUnblock : Option Transaction → ℕ → Type 0
MayUnblock None r = ⊥
MayUnblock (Some transaction) r = (is_put transaction.kind ≡ false) × (transaction.requester ≡ r)

-- an open Put of the sender
abbrev pub MayEndPut : Option Transaction → ℕ → Type 0
MayEndPut None r = ⊥
MayEndPut (Some transaction) r = (is_put transaction.kind ≡ true) × (transaction.requester ≡ r)

-- the condition of what comes from r: a GetS that needn't wait doesn't come from the named owner
abbrev pub MeetsHomeRow : HomeEntry → ℕ → HomeMessage → Type 0
MeetsHomeRow entry r asked.GetS = entry.transaction ≡ None → is_owner entry.holder r ≡ false
MeetsHomeRow entry r asked.GetM = Unit {0}
MeetsHomeRow entry r (asked.Unblock fixed) = MayUnblock entry.transaction r
MeetsHomeRow entry r asked.PutReq = Unit {0}
MeetsHomeRow entry r (asked.PutData content) = MayEndPut entry.transaction r

-- the interval under which a row notes what stood, where it notes

abbrev pub noted_by_end : Kind → Holder → ℕ → Option ℕ
noted_by_end Move (OfCache owner) fixed = Some fixed
noted_by_end _ _ fixed = None

abbrev pub noted_by_unblock : Option Transaction → Holder → ℕ → Option ℕ
noted_by_unblock None holder fixed = None
noted_by_unblock (Some transaction) holder fixed = noted_by_end transaction.kind holder fixed

abbrev pub noted_by_home : HomeEntry → ℕ → ℕ → HomeRow → Option ℕ
noted_by_home entry now tag (row.ReadAtHome content) = None
noted_by_home entry now tag (row.ReadAtOwner owner) = None
noted_by_home entry now tag (row.Take content) = Some now
noted_by_home entry now tag (row.MoveOwnership owner) = None
noted_by_home entry now tag row.Upgrade = None
noted_by_home entry now tag (row.Unblock fixed) = noted_by_unblock entry.transaction entry.holder fixed
noted_by_home entry now tag row.PutBegins = None
noted_by_home entry now tag row.PutIsStale = None
noted_by_home entry now tag (row.PutData content) = Some tag
noted_by_home entry now tag (row.GrantExclusive content) = Some now

-- a request that waits notes nothing
abbrev pub unless_open : Option Transaction → Option ℕ → Option ℕ
unless_open None interval = interval
unless_open (Some transaction) interval = None

abbrev pub noted_for : HomeEntry → ℕ → Message → HomeMessage → Option ℕ
noted_for entry now m message =
    if is_request message then unless_open entry.transaction (noted_by_home entry now m.tag (home_row entry m.from message))
    else noted_by_home entry now m.tag (home_row entry m.from message)

-- the same of whoever takes a message: what doesn't come to a home has no row there

abbrev pub MeetsAtHome : HomeEntry → ℕ → Receiver → Type 0
MeetsAtHome entry r (receiver.Cache taken) = ⊥
MeetsAtHome entry r (receiver.Home message) = MeetsHomeRow entry r message
MeetsAtHome entry r (receiver.Controller k) = ⊥
MeetsAtHome entry r (receiver.Clock k) = ⊥

abbrev pub noted_at_home : HomeEntry → ℕ → Message → Receiver → Option ℕ
noted_at_home entry now m (receiver.Cache taken) = None
noted_at_home entry now m (receiver.Home message) = noted_for entry now m message
noted_at_home entry now m (receiver.Controller k) = None
noted_at_home entry now m (receiver.Clock k) = None

-- and of a body: whether it has a row, and where its row notes
abbrev pub HasRow : HomeEntry → ℕ → Body → Type 0
HasRow entry r body = MeetsAtHome entry r (receiver_of body)

abbrev pub noting : HomeEntry → ℕ → Message → Body → Option ℕ
noting entry now m body = noted_at_home entry now m (receiver_of body)
