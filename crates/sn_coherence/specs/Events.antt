-- Every event that touches the block: when it can happen, and what the block is after it.
use Rattle.std.specs.Prelude.{◌≡◌, ◌≢◌, ◌⊎◌, ℕ, ◌+◌, ◌<◌, ◌≤◌, Bool, true, false}
use Rattle.sn_coherence.specs.Block.{Block, Content, NoLine, Shared, Nothing, Elsewhere, NoPut, Here, PutElsewhere, Idle, Body, GetS, GetM}
use Rattle.sn_coherence.specs.Block.{FwdGetS, FwdGetM, Inv, DataS, DataM, DataE, UpgOk, InvAck, Unblock, PutReq, PutData, PutGo, PutDone}
use Rattle.sn_coherence.specs.Block.{Ready, Advance, is_owned, is_writable, is_here, others}
use Rattle.sn_coherence.specs.CacheRows.{forward_read, forward_write, invalidate, data_shared, data_modified, upgrade_granted, acknowledge}
use Rattle.sn_coherence.specs.CacheRows.{put_go, put_done, data_exclusive}
use Rattle.sn_coherence.specs.HomeRows.{read_at_home, read_at_owner, take, move_ownership, upgrade, unblock, put_begins, put_is_stale}
use Rattle.sn_coherence.specs.HomeRows.{put_data, grant_exclusive}
use Rattle.sn_coherence.specs.OtherEvents.{begin_read_miss, begin_write_miss, begin_put, begin_miss_elsewhere, end_miss_elsewhere}
use Rattle.sn_coherence.specs.OtherEvents.{begin_put_elsewhere, end_put_elsewhere, numbers_elsewhere, store, evict_shared, edge, report}
use Rattle.sn_coherence.specs.OtherEvents.{validate, lose, deliver_ready, deliver_advance, recover}
use Rattle.sn_coherence.specs.Invariant.{count}

-- Deliveries name the message, and those that invalidate the targets and how many they are. Other events name the node.
pub data Event : Type 0 where
  ForwardRead : ℕ → Event
  ForwardWrite : ℕ → Event
  Invalidate : ℕ → Event
  DataShared : ℕ → Event
  DataModified : ℕ → Event
  UpgradeGranted : ℕ → Event
  Acknowledge : ℕ → Event
  PutGoes : ℕ → Event
  PutIsDone : ℕ → Event
  DataExclusive : ℕ → Event
  ReadAtHome : ℕ → Event
  ReadAtOwner : ℕ → Event
  Takes : ℕ → (ℕ → ℕ) → ℕ → Event
  MovesOwnership : ℕ → (ℕ → ℕ) → ℕ → Event
  Upgrades : ℕ → (ℕ → ℕ) → ℕ → Event
  Unblocks : ℕ → Event
  PutBegins : ℕ → Event
  PutIsStale : ℕ → Event
  PutDataComes : ℕ → Event
  GrantExclusive : ℕ → Event
  DeliverReady : ℕ → Event
  DeliverAdvance : ℕ → Event
  Lose : ℕ → Event
  BeginReadMiss : ℕ → Event
  BeginWriteMiss : ℕ → Event
  BeginPut : ℕ → Event
  BeginMissElsewhere : ℕ → Event
  EndMissElsewhere : ℕ → Event
  BeginPutElsewhere : ℕ → Event
  EndPutElsewhere : ℕ → Event
  NumbersElsewhere : ℕ → Event
  Load : ℕ → Event
  LoadReserved : ℕ → Event
  -- with the content after the write
  Store : ℕ → Content → Event
  StoreConditionalDone : ℕ → Content → Event
  -- an SC that isn't done, and an LR of another block
  StoreConditionalUndone : ℕ → Event
  EvictShared : ℕ → Event
  Edge : ℕ → Event
  -- with the number that is reported
  Report : ℕ → ℕ → Event
  Validate : Event
  Recover : Event

-- message i has this body, and its receiver's interval has reached its tag
abbrev pub Arrives : Block → ℕ → Body → Type 0
Arrives b i body = ((b.net i).body ≡ body) × ((b.net i).tag ≤ b.now (b.net i).to)

-- it has come, and the home has no transaction open
abbrev pub Served : Block → ℕ → Body → Type 0
Served b i body = Arrives b i body × (b.kind ≡ Idle)

-- a cache owns, and it is r; or it is not r
abbrev pub Owns : Block → ℕ → Type 0
Owns b r = (b.at_home ≡ false) × (b.owner ≡ r)

abbrev pub OtherOwns : Block → ℕ → Type 0
OtherOwns b r = (b.at_home ≡ false) × (b.owner ≢ r)

-- s 0, s 1, .. s (a - 1) are the nodes below N that pass f
pub record Lists (N : ℕ) (f : ℕ → Bool) (s : ℕ → ℕ) (a : ℕ) : Type 0 where
  pub passes : (k : ℕ) → k < a → f (s k) ≡ true
  pub apart : (k l : ℕ) → k < a → l < a → s k ≡ s l → k ≡ l
  pub all : count N f ≡ a

-- the sharers beside the sender of message i
abbrev pub other_sharers : Block → ℕ → ℕ → Bool
other_sharers b i = others b.sharers (b.net i).from

-- k is at most node n's ready number, as far as this block tells
pub record IsReady (b : Block) (n k : ℕ) : Type 0 where
  pub of_now : k ≤ b.now n
  pub of_miss : (b.miss n).want ≢ Nothing → k ≤ (b.miss n).issued
  pub of_put : b.putting n ≢ NoPut → k ≤ b.put_issued n
  pub of_home : n ≡ b.home → b.kind ≢ Idle → k ≤ b.begun

-- nothing of the block was begun in an interval below k
pub record NothingUnfinished (N : ℕ) (b : Block) (k : ℕ) : Type 0 where
  pub now : (n : ℕ) → n < N → k ≤ b.now n
  pub miss : (n : ℕ) → n < N → (b.miss n).want ≢ Nothing → k ≤ (b.miss n).issued
  pub put : (n : ℕ) → n < N → b.putting n ≢ NoPut → k ≤ b.put_issued n
  pub home : b.kind ≢ Idle → k ≤ b.begun

-- node n can use its line: no miss is open, and no put of the block
abbrev pub Free : ℕ → Block → ℕ → Type 0
Free N b n = (n < N) × ((b.miss n).want ≡ Nothing) × (b.putting n ≢ Here)

-- when an event can happen
abbrev pub Allows : ℕ → Block → Event → Type 0
Allows N b (ForwardRead i) = Arrives b i FwdGetS
Allows N b (ForwardWrite i) = Arrives b i FwdGetM
Allows N b (Invalidate i) = Arrives b i Inv
Allows N b (DataShared i) = Arrives b i DataS
Allows N b (DataModified i) = Arrives b i DataM
Allows N b (UpgradeGranted i) = Arrives b i UpgOk
Allows N b (Acknowledge i) = Arrives b i InvAck
Allows N b (PutGoes i) = Arrives b i PutGo
Allows N b (PutIsDone i) = Arrives b i PutDone
Allows N b (DataExclusive i) = Arrives b i DataE
Allows N b (ReadAtHome i) = Served b i GetS × (b.at_home ≡ true) × (count N (other_sharers b i) ≢ 0)
Allows N b (ReadAtOwner i) = Served b i GetS × (b.at_home ≡ false)
Allows N b (Takes i targets due) = Served b i GetM × (b.at_home ≡ true) × Lists N (other_sharers b i) targets due
Allows N b (MovesOwnership i targets due) = Served b i GetM × OtherOwns b (b.net i).from × Lists N (other_sharers b i) targets due
Allows N b (Upgrades i targets due) = Served b i GetM × Owns b (b.net i).from × Lists N (other_sharers b i) targets due
Allows N b (Unblocks i) = Arrives b i Unblock
Allows N b (PutBegins i) = Served b i PutReq × Owns b (b.net i).from
Allows N b (PutIsStale i) = Served b i PutReq × ((b.at_home ≡ true) ⊎ (b.owner ≢ (b.net i).from))
Allows N b (PutDataComes i) = Arrives b i PutData
Allows N b (GrantExclusive i) = Served b i GetS × (b.at_home ≡ true) × (count N (other_sharers b i) ≡ 0)
Allows N b (DeliverReady i) = Arrives b i Ready
Allows N b (DeliverAdvance i) = Arrives b i Advance
Allows N b (Lose i) = Unit {0}
Allows N b (BeginReadMiss n) = Free N b n × (b.line n ≡ NoLine)
Allows N b (BeginWriteMiss n) = Free N b n × (is_writable (b.line n) ≡ false)
Allows N b (BeginPut n) = (n < N) × (is_here (b.miss n).want ≡ false) × (b.putting n ≡ NoPut) × (is_owned (b.line n) ≡ true)
Allows N b (BeginMissElsewhere n) = (n < N) × ((b.miss n).want ≡ Nothing)
Allows N b (EndMissElsewhere n) = (b.miss n).want ≡ Elsewhere
Allows N b (BeginPutElsewhere n) = (n < N) × (b.putting n ≡ NoPut)
Allows N b (EndPutElsewhere n) = b.putting n ≡ PutElsewhere
Allows N b (NumbersElsewhere k) = Unit {0}
Allows N b (Load n) = Free N b n × (b.line n ≢ NoLine)
Allows N b (LoadReserved n) = Free N b n × (b.line n ≢ NoLine)
Allows N b (Store n v) = Free N b n × (is_writable (b.line n) ≡ true)
Allows N b (StoreConditionalDone n v) = Free N b n × (is_writable (b.line n) ≡ true)
Allows N b (StoreConditionalUndone n) = n < N
Allows N b (EvictShared n) = (is_here (b.miss n).want ≡ false) × (b.line n ≡ Shared)
Allows N b (Edge n) = (n < N) × (b.now n < b.known n + 4)
Allows N b (Report n k) = (n < N) × IsReady b n k
Allows N b Validate = NothingUnfinished N b (b.point + 1)
Allows N b Recover = Unit {0}

-- the block after it
abbrev pub after : ℕ → Block → Event → Block
after N b (ForwardRead i) = forward_read b i
after N b (ForwardWrite i) = forward_write b i
after N b (Invalidate i) = invalidate b i
after N b (DataShared i) = data_shared b i
after N b (DataModified i) = data_modified b i
after N b (UpgradeGranted i) = upgrade_granted b i
after N b (Acknowledge i) = acknowledge b i
after N b (PutGoes i) = put_go b i
after N b (PutIsDone i) = put_done b i
after N b (DataExclusive i) = data_exclusive b i
after N b (ReadAtHome i) = read_at_home b i
after N b (ReadAtOwner i) = read_at_owner b i
after N b (Takes i targets due) = take b i targets due
after N b (MovesOwnership i targets due) = move_ownership b i targets due
after N b (Upgrades i targets due) = upgrade b i targets due
after N b (Unblocks i) = unblock b i
after N b (PutBegins i) = put_begins b i
after N b (PutIsStale i) = put_is_stale b i
after N b (PutDataComes i) = put_data b i
after N b (GrantExclusive i) = grant_exclusive b i
after N b (DeliverReady i) = deliver_ready b i
after N b (DeliverAdvance i) = deliver_advance b i
after N b (Lose i) = lose b i
after N b (BeginReadMiss n) = begin_read_miss b n
after N b (BeginWriteMiss n) = begin_write_miss b n
after N b (BeginPut n) = begin_put b n
after N b (BeginMissElsewhere n) = begin_miss_elsewhere b n
after N b (EndMissElsewhere n) = end_miss_elsewhere b n
after N b (BeginPutElsewhere n) = begin_put_elsewhere b n
after N b (EndPutElsewhere n) = end_put_elsewhere b n
after N b (NumbersElsewhere k) = numbers_elsewhere b k
after N b (Load n) = b
after N b (LoadReserved n) = b
after N b (Store n v) = store b n v
after N b (StoreConditionalDone n v) = store b n v
after N b (StoreConditionalUndone n) = b
after N b (EvictShared n) = evict_shared b n
after N b (Edge n) = edge b n
after N b (Report n k) = report b n k
after N b Validate = validate N b
after N b Recover = recover N b
