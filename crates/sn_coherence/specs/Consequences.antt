-- What follows from the sentences.
use Rattle.std.specs.Prelude.{◌≡◌, ◌≢◌, ◌⊎◌, ℕ, ◌+◌, ◌<◌, ◌≤◌, true, false}
use Rattle.sn_coherence.specs.Block.{Block, NoLine, Shared, Owned, Modified, Nothing, Reads, Writes, NoPut, Here, Idle, Move, Put, Gone}
use Rattle.sn_coherence.specs.Block.{GetS, FwdGetS, FwdGetM, Inv, DataS, DataM, DataE, UpgOk, InvAck, Unblock, PutData, PutGo, PutDone}
use Rattle.sn_coherence.specs.Block.{is_owned, is_writable, is_here, gets, is_to_home}
use Rattle.sn_coherence.specs.Records.{Records}
use Rattle.sn_coherence.specs.Events.{Free}

-- Each message in flight meets the condition of its row, whenever it is delivered. With at most 16 nodes.
pub record MeetsRows (b : Block) : Type 0 where
  -- a forward finds an owned line
  pub forward_read : (i : ℕ) → (b.net i).body ≡ FwdGetS → is_owned (b.line (b.net i).to) ≡ true
  pub forward_write : (i : ℕ) → (b.net i).body ≡ FwdGetM → is_owned (b.line (b.net i).to) ≡ true
  -- an invalidation never finds one
  pub invalidate : (i : ℕ) → (b.net i).body ≡ Inv → is_owned (b.line (b.net i).to) ≡ false
  -- an answer finds its miss open, of its kind and not fixed, and the line that it expects; at a read no acknowledgement is in
  pub data_shared : (i : ℕ) → (b.net i).body ≡ DataS →
      ((b.miss (b.net i).to).want ≡ Reads) × ((b.miss (b.net i).to).is_fixed ≡ false) × ((b.miss (b.net i).to).acks ≡ 0)
      × (b.line (b.net i).to ≡ NoLine)
  pub data_modified : (i : ℕ) → (b.net i).body ≡ DataM →
      ((b.miss (b.net i).to).want ≡ Writes) × ((b.miss (b.net i).to).is_fixed ≡ false)
      × ((b.line (b.net i).to ≡ NoLine) ⊎ (b.line (b.net i).to ≡ Shared))
  pub upgrade_granted : (i : ℕ) → (b.net i).body ≡ UpgOk →
      ((b.miss (b.net i).to).want ≡ Writes) × ((b.miss (b.net i).to).is_fixed ≡ false) × (b.line (b.net i).to ≡ Owned)
  pub data_exclusive : (i : ℕ) → (b.net i).body ≡ DataE →
      ((b.miss (b.net i).to).want ≡ Reads) × ((b.miss (b.net i).to).is_fixed ≡ false) × ((b.miss (b.net i).to).acks ≡ 0)
      × (b.line (b.net i).to ≡ NoLine)
  -- an acknowledgement finds the miss open, and fewer than 15 are in
  pub acknowledge : (i : ℕ) → (b.net i).body ≡ InvAck → (is_here (b.miss (b.net i).to).want ≡ true) × ((b.miss (b.net i).to).acks < 15)
  -- a PutGo finds the line owned and the put open, a PutDone the put open
  pub put_go : (i : ℕ) → (b.net i).body ≡ PutGo → (is_owned (b.line (b.net i).to) ≡ true) × (b.putting (b.net i).to ≡ Here)
  pub put_done : (i : ℕ) → (b.net i).body ≡ PutDone → b.putting (b.net i).to ≡ Here
  -- what is for the home comes to it
  pub home : (i : ℕ) → is_to_home (b.net i).body ≡ true → (b.net i).to ≡ b.home
  -- a GetS that is served is not from the cache that the home names
  pub read : (i : ℕ) → (b.net i).body ≡ GetS → b.kind ≡ Idle → b.at_home ≡ false → b.owner ≢ (b.net i).from
  -- an Unblock finds a transaction of its sender open, other than a Put; a PutData finds a Put of its sender
  pub unblock : (i : ℕ) → (b.net i).body ≡ Unblock → (gets b.kind ≡ true) × (b.requester ≡ (b.net i).from)
  pub put_data : (i : ℕ) → (b.net i).body ≡ PutData → (b.kind ≡ Put) × (b.requester ≡ (b.net i).from)

-- Every note is of an interval that isn't below that of an entry of its side.
pub record MeetsNotes (b : Block) : Type 0 where
  -- at the giver of a Move or a Put, and at a write: its now
  pub forward_write : (i : ℕ) → (b.net i).body ≡ FwdGetM → b.last (b.net i).to ≤ b.now (b.net i).to + 1
  pub put_go : (i : ℕ) → (b.net i).body ≡ PutGo → b.last (b.net i).to ≤ b.now (b.net i).to + 1
  pub store : (n : ℕ) → b.last n ≤ b.now n + 1
  -- at the receiver of ownership: the message's tag
  pub data_modified : (i : ℕ) → (b.net i).body ≡ DataM → b.last (b.net i).to ≤ (b.net i).tag + 1
  pub data_exclusive : (i : ℕ) → (b.net i).body ≡ DataE → b.last (b.net i).to ≤ (b.net i).tag + 1
  -- at the home: its now where it gives, the interval of the Unblock of a Move, and the tag of a PutData
  pub take : b.home_last ≤ b.now b.home + 1
  pub unblock : (i : ℕ) → (b.net i).body ≡ Unblock → b.kind ≡ Move → b.home_last ≤ (b.net i).number + 1
  pub put_data : (i : ℕ) → (b.net i).body ≡ PutData → b.home_last ≤ (b.net i).tag + 1

-- One(j). At cut j there is exactly one holder, a cache or the home, and the home names it.
pub record HasOneHolder (N : ℕ) (b : Block) (j : ℕ) : Type 0 where
  pub named : (n : ℕ) → b.holds n j ≡ true → (b.named_home j ≡ false) × (b.named j ≡ n)
  pub holds : b.named_home j ≡ false → (b.named j < N) × (b.holds (b.named j) j ≡ true)

-- That holder has the content that the sorted list below j leaves.
pub record HasContent (b : Block) (r : Records) (j : ℕ) : Type 0 where
  pub cache : (n : ℕ) → b.holds n j ≡ true → b.held n j ≡ r.below j
  pub home : b.named_home j ≡ true → b.home_held j ≡ r.below j

-- the block has no transaction that the home began below j
abbrev pub NoneBegun : Block → ℕ → Type 0
NoneBegun b j = b.kind ≢ Idle → j ≤ b.begun

-- What is read at node n is what the last write before it in the order of intervals left: the content of the line is that
-- after the list up to and with n's interval, and no write lies above that.
abbrev pub IsLegalRead : Block → Records → ℕ → Type 0
IsLegalRead b r n = (b.content n ≡ r.below (b.now n + 1)) × (r.last_write ≤ b.now n + 1)

-- A write at node n comes after every access of the block.
abbrev pub IsLegalWrite : Block → Records → ℕ → Type 0
IsLegalWrite b r n = IsLegalRead b r n × ((x : ℕ) → r.last_access x ≤ b.now n + 1)

pub record IsLegal (N : ℕ) (b : Block) (r : Records) : Type 0 where
  -- wherever there is a line it can be read; who may write and is free can write; a reservation stands only where no
  -- other node wrote since the LR
  pub read : (n : ℕ) → b.line n ≢ NoLine → IsLegalRead b r n
  pub write : (n : ℕ) → Free N b n → is_writable (b.line n) ≡ true → IsLegalWrite b r n
  pub conditional : (n : ℕ) → r.reserved n ≡ true → r.alone n ≡ true

-- What a recovery to the point leaves: the start of a new run.
pub record IsRestored (N : ℕ) (b : Block) (r : Records) : Type 0 where
  -- every node's interval, what it knows and what it has reported is the point
  pub now : (n : ℕ) → n < N → b.now n ≡ b.point
  pub known : (n : ℕ) → n < N → b.known n ≡ b.point
  pub reported : (n : ℕ) → n < N → r.reported n ≡ b.point
  -- nothing is open, on its way, listed, waited for, reserved or logged
  pub no_miss : (n : ℕ) → (b.miss n).want ≡ Nothing
  pub no_put : (n : ℕ) → b.putting n ≡ NoPut
  pub no_transaction : b.kind ≡ Idle
  pub no_message : (i : ℕ) → (b.net i).body ≡ Gone
  pub no_sharer : (n : ℕ) → b.sharers n ≡ false
  pub none_waited : (n : ℕ) → b.waited n ≡ false
  pub no_reservation : (n : ℕ) → r.reserved n ≡ false
  pub no_entry : (n : ℕ) → b.last n ≡ 0
  pub no_home_entry : b.home_last ≡ 0
  -- a cache has the block exactly where the home names it, and then in Modified
  pub line : (n : ℕ) → b.line n ≢ NoLine → (b.line n ≡ Modified) × (b.at_home ≡ false) × (b.owner ≡ n)
  pub owner : b.at_home ≡ false → b.line b.owner ≡ Modified
  -- the owner's content is what the records leave, all of which lie below the point
  pub cache_content : (n : ℕ) → b.line n ≢ NoLine → b.content n ≡ r.value
  pub home_content : b.at_home ≡ true → b.home_content ≡ r.value
  pub writes : r.last_write ≤ b.point
  pub accesses : (n : ℕ) → r.last_access n ≤ b.point
