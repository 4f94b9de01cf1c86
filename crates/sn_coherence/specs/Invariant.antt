-- What every event keeps of one block, without the records of accesses. Names: r is the requester of the open
-- transaction, an entry is an entry of a log, a cut is a number of a checkpoint.
use Rattle.std.specs.Prelude.{◌≡◌, ◌≢◌, ◌⊎◌, ℕ, zero, suc, ◌+◌, ◌<◌, ◌≤◌, Bool, true, false, cond, nat_le}
use Rattle.sn_coherence.specs.Block.{Block, NoLine, Shared, Owned, Modified, Nothing, Reads, Writes, NoPut, Here, Kind, Idle, Read, Take}
use Rattle.sn_coherence.specs.Block.{Move, Upgrade, Put, Stage, Asked, Given, Inside, Done, Gone, GetS, GetM, FwdGetS, FwdGetM, Inv, DataS}
use Rattle.sn_coherence.specs.Block.{DataM, DataE, UpgOk, InvAck, Unblock, PutData, PutGo, Ready, Advance, is_owned, is_writable, is_here}
use Rattle.sn_coherence.specs.Block.{takes, gets, hands_over, leaves_cache, brings_to_cache, is_early, is_late, is_token, is_get, has_due}
use Rattle.sn_coherence.specs.Block.{is_to_home, is_from_home, is_invalidation, sharer_of, is_put_request, putter_of}

-- how many nodes below n pass
unfoldable pub count : ℕ → (ℕ → Bool) → ℕ
count zero f = 0
count (suc n) f = cond (f n) 1 0 + count n f

-- Clocks. Intervals, the recovery point, and when things were begun.
pub record Clocks (N : ℕ) (b : Block) : Type 0 where
  -- a node's interval is at least the recovery point,
  pub point_now : (n : ℕ) → n < N → b.point ≤ b.now n
  -- the point that it knows is at most that,
  pub known_point : (n : ℕ) → n < N → b.known n ≤ b.point
  -- and it has at most four checkpoints above what it knows
  pub now_known : (n : ℕ) → n < N → b.now n ≤ b.known n + 4
  -- no message is from an interval that its sender hasn't reached
  pub tag_now : (i : ℕ) → (b.net i).body ≢ Gone → (b.net i).tag ≤ b.now (b.net i).from
  -- no Advance is above the point
  pub advance_point : (i : ℕ) → (b.net i).body ≡ Advance → (b.net i).number ≤ b.point
  -- whatever is open was begun at or above the point: misses, puts, and the transaction
  pub miss_point : (n : ℕ) → (b.miss n).want ≢ Nothing → b.point ≤ (b.miss n).issued
  pub put_point : (n : ℕ) → b.putting n ≢ NoPut → b.point ≤ b.put_issued n
  pub begun_point : b.kind ≢ Idle → b.point ≤ b.begun

-- Nodes. Whatever is spoken of is a node, a number below N.
pub record Nodes (N : ℕ) (b : Block) : Type 0 where
  -- the home, and both ends of each message
  pub home_low : b.home < N
  pub from_low : (i : ℕ) → (b.net i).body ≢ Gone → (b.net i).from < N
  pub to_low : (i : ℕ) → (b.net i).body ≢ Gone → (b.net i).to < N
  -- r, sharers, and who is waited for
  pub requester_low : b.kind ≢ Idle → b.requester < N
  pub sharer_low : (n : ℕ) → b.sharers n ≡ true → n < N
  pub waited_low : (n : ℕ) → b.waited n ≡ true → n < N
  -- the cache that the home names, now and at each cut
  pub owner_low : b.at_home ≡ false → b.owner < N
  pub named_low : (j : ℕ) → b.named_home j ≡ false → b.named j < N
  -- who has a line, a miss or a put
  pub line_low : (n : ℕ) → b.line n ≢ NoLine → n < N
  pub miss_low : (n : ℕ) → (b.miss n).want ≢ Nothing → n < N
  pub put_low : (n : ℕ) → b.putting n ≢ NoPut → n < N

-- Stages. How far the open transaction has come, and the one message of it that may be in flight.
pub record Stages (b : Block) : Type 0 where
  -- a number that wasn't given yet has no message
  pub fresh : (i : ℕ) → b.next ≤ i → (b.net i).body ≡ Gone
  -- a Read waits for no acknowledgements
  pub read_shape : b.kind ≡ Read → b.stage ≢ Inside
  -- a Put ends with the arrival of its data
  pub put_shape : b.kind ≡ Put → (b.stage ≡ Asked) ⊎ (b.stage ≡ Given)
  -- a Take's or Upgrade's answer comes from the home at once
  pub take_shape : b.kind ≡ Take → b.stage ≢ Asked
  pub upgrade_shape : b.kind ≡ Upgrade → b.stage ≢ Asked
  -- a Take is atomic where it was begun
  pub take_at : b.kind ≡ Take → b.at ≡ b.begun
  -- any other is atomic at or above that
  pub begun_at : b.kind ≢ Idle → b.stage ≢ Asked → b.begun ≤ b.at
  -- a FwdGetS is for r of a Read that is asked, at the cache that the home names, from begun on
  pub fwd_get_s : (i : ℕ) → (b.net i).body ≡ FwdGetS →
      (b.kind ≡ Read) × (b.stage ≡ Asked) × (b.at_home ≡ false) × ((b.net i).to ≡ b.owner) × ((b.net i).requester ≡ b.requester)
      × (b.begun ≤ (b.net i).tag)
  -- a FwdGetM is for r of a Move that is asked, at the cache that the home names, from begun on
  pub fwd_get_m : (i : ℕ) → (b.net i).body ≡ FwdGetM →
      (b.kind ≡ Move) × (b.stage ≡ Asked) × (b.at_home ≡ false) × ((b.net i).to ≡ b.owner) × ((b.net i).requester ≡ b.requester)
      × (b.begun ≤ (b.net i).tag)
  -- a PutGo is for r of a Put that is asked, from begun on
  pub put_go : (i : ℕ) → (b.net i).body ≡ PutGo →
      (b.kind ≡ Put) × (b.stage ≡ Asked) × ((b.net i).to ≡ b.requester) × (b.begun ≤ (b.net i).tag)
  -- a DataS is for r of a Read that is given, with the interval of atomicity as its tag
  pub data_s : (i : ℕ) → (b.net i).body ≡ DataS →
      (b.kind ≡ Read) × (b.stage ≡ Given) × ((b.net i).to ≡ b.requester) × ((b.net i).tag ≡ b.at)
  -- a DataM is for r of a Take or Move that is given, with that tag; r wants to write
  pub data_m : (i : ℕ) → (b.net i).body ≡ DataM →
      (brings_to_cache b.kind ≡ true) × (b.stage ≡ Given) × ((b.net i).to ≡ b.requester) × ((b.net i).tag ≡ b.at)
      × ((b.miss b.requester).want ≡ Writes)
  -- a DataE is for r of a Take that is given, with that tag; r wants to read
  pub data_e : (i : ℕ) → (b.net i).body ≡ DataE →
      (b.kind ≡ Take) × (b.stage ≡ Given) × ((b.net i).to ≡ b.requester) × ((b.net i).tag ≡ b.at) × ((b.miss b.requester).want ≡ Reads)
  -- an UpgOk is for r of an Upgrade that is given, with that tag
  pub upg_ok : (i : ℕ) → (b.net i).body ≡ UpgOk →
      (b.kind ≡ Upgrade) × (b.stage ≡ Given) × ((b.net i).to ≡ b.requester) × ((b.net i).tag ≡ b.at)
  -- a PutData is from r of a Put that is given, with that tag
  pub put_data : (i : ℕ) → (b.net i).body ≡ PutData →
      (b.kind ≡ Put) × (b.stage ≡ Given) × ((b.net i).from ≡ b.requester) × ((b.net i).tag ≡ b.at)
  -- an Unblock is from r of a transaction that is done, and names its interval of atomicity, which its tag isn't below
  pub unblock : (i : ℕ) → (b.net i).body ≡ Unblock →
      (gets b.kind ≡ true) × (b.stage ≡ Done) × ((b.net i).from ≡ b.requester) × ((b.net i).number ≡ b.at)
      × ((b.net i).number ≤ (b.net i).tag)
  -- at most one of all these is in flight
  pub one_token : (i j : ℕ) → is_token (b.net i).body ≡ true → is_token (b.net j).body ≡ true → i ≡ j
  -- until r is reached its miss is open on the block and not fixed,
  pub wait : gets b.kind ≡ true → is_early b.stage ≡ true →
      (is_here (b.miss b.requester).want ≡ true) × ((b.miss b.requester).is_fixed ≡ false)
  -- for a write in a Move or Upgrade, for a read in a Read,
  pub wait_move : b.kind ≡ Move → is_early b.stage ≡ true → (b.miss b.requester).want ≡ Writes
  pub wait_upgrade : b.kind ≡ Upgrade → is_early b.stage ≡ true → (b.miss b.requester).want ≡ Writes
  pub wait_read : b.kind ≡ Read → is_early b.stage ≡ true → (b.miss b.requester).want ≡ Reads
  -- and no request of r is in flight
  pub wait_alone : (i : ℕ) → is_get (b.net i).body ≡ true → gets b.kind ≡ true → is_early b.stage ≡ true → (b.net i).from ≢ b.requester
  -- while acknowledgements lack, r's miss is fixed at the interval of atomicity, which its now has reached, for a write;
  pub inside : b.kind ≢ Idle → b.stage ≡ Inside →
      ((b.miss b.requester).is_fixed ≡ true) × ((b.miss b.requester).want ≡ Writes) × ((b.miss b.requester).fixed ≡ b.at)
      × (b.at ≤ b.now b.requester)
  -- its line is Owned in an Upgrade and else Modified
  pub inside_upgrade : b.kind ≡ Upgrade → b.stage ≡ Inside → b.line b.requester ≡ Owned
  pub inside_other : brings_to_cache b.kind ≡ true → b.stage ≡ Inside → b.line b.requester ≡ Modified
  -- no other miss is fixed
  pub fixed : (n : ℕ) → (b.miss n).is_fixed ≡ true → (takes b.kind ≡ true) × (b.stage ≡ Inside) × (b.requester ≡ n)
  -- r of a Take, Move or Upgrade that is done may write, and its miss is closed
  pub done : takes b.kind ≡ true → b.stage ≡ Done → (is_here (b.miss b.requester).want ≡ false) × (is_writable (b.line b.requester) ≡ true)

-- Requests. What waits at the home's door.
pub record Requests (b : Block) : Type 0 where
  -- messages go between the nodes that their kind says
  pub to_home : (i : ℕ) → is_to_home (b.net i).body ≡ true → (b.net i).to ≡ b.home
  pub from_home : (i : ℕ) → is_from_home (b.net i).body ≡ true → (b.net i).from ≡ b.home
  pub ready_to : (i : ℕ) → (b.net i).body ≡ Ready → (b.net i).to ≡ 0
  pub advance_from : (i : ℕ) → (b.net i).body ≡ Advance → (b.net i).from ≡ 0
  -- who misses for a read has no line, and its miss isn't fixed; who misses for a write can't write yet
  pub reads_line : (n : ℕ) → (b.miss n).want ≡ Reads → ((b.miss n).is_fixed ≡ false) × (b.line n ≡ NoLine)
  pub writes_line : (n : ℕ) → (b.miss n).want ≡ Writes → (b.miss n).is_fixed ≡ false → is_writable (b.line n) ≡ false
  -- a GetS or GetM is of its sender's open miss, which isn't fixed, and a miss has at most one
  pub get_s : (i : ℕ) → (b.net i).body ≡ GetS → ((b.miss (b.net i).from).want ≡ Reads) × ((b.miss (b.net i).from).is_fixed ≡ false)
  pub get_m : (i : ℕ) → (b.net i).body ≡ GetM → ((b.miss (b.net i).from).want ≡ Writes) × ((b.miss (b.net i).from).is_fixed ≡ false)
  pub one_get : (i j : ℕ) → is_get (b.net i).body ≡ true → is_get (b.net j).body ≡ true → (b.net i).from ≡ (b.net j).from → i ≡ j
  -- a PutReq or PutDone is of that node's open put, for which no Put is open, and a put has at most one
  pub put_request : (i : ℕ) → is_put_request (b.net i).body ≡ true →
      (b.putting (putter_of (b.net i)) ≡ Here) × (b.kind ≡ Put → b.requester ≢ putter_of (b.net i))
  pub one_put_request : (i j : ℕ) → is_put_request (b.net i).body ≡ true → is_put_request (b.net j).body ≡ true →
      putter_of (b.net i) ≡ putter_of (b.net j) → i ≡ j
  -- until a Put is given r's put is open
  pub put_open : b.kind ≡ Put → b.stage ≡ Asked → b.putting b.requester ≡ Here

-- whether the cache that the home names owns the line: not where the block is on its way, or has come to another
abbrev pub owner_has : Kind → Stage → Bool
owner_has Take stage = false
owner_has Move Asked = true
owner_has Move stage = false
owner_has Put Asked = true
owner_has Put stage = false
owner_has kind stage = true

-- Owners. Exactly who owns the line.
pub record Owners (b : Block) : Type 0 where
  -- an owner is the cache that the home names, or r of a Take or Move that has come to it;
  pub owns : (n : ℕ) → is_owned (b.line n) ≡ true →
      ((b.at_home ≡ false) × (b.owner ≡ n) × (owner_has b.kind b.stage ≡ true))
      ⊎ ((brings_to_cache b.kind ≡ true) × (is_late b.stage ≡ true) × (b.requester ≡ n))
  -- and these own it
  pub owner_owns : b.at_home ≡ false → owner_has b.kind b.stage ≡ true → is_owned (b.line b.owner) ≡ true
  pub requester_owns : brings_to_cache b.kind ≡ true → is_late b.stage ≡ true → is_owned (b.line b.requester) ≡ true
  -- the home names r in a Take, Upgrade and Put, and another cache in a Move; itself only with no transaction or in a Read
  pub take_owner : b.kind ≡ Take → (b.owner ≡ b.requester) × (b.at_home ≡ false)
  pub upgrade_owner : b.kind ≡ Upgrade → (b.owner ≡ b.requester) × (b.at_home ≡ false)
  pub put_owner : b.kind ≡ Put → (b.owner ≡ b.requester) × (b.at_home ≡ false)
  pub move_owner : b.kind ≡ Move → (b.owner ≢ b.requester) × (b.at_home ≡ false)

-- Acknowledgements. Acknowledgements, and the nodes that are waited for.
pub record Acknowledgements (N : ℕ) (b : Block) : Type 0 where
  -- the acknowledgements due, in a message and in a fixed miss, are those that are in and one of each node that is waited
  -- for
  pub due_message : (i : ℕ) → has_due (b.net i).body ≡ true → (b.net i).due ≡ count N b.waited + (b.miss b.requester).acks
  pub due_fixed : (n : ℕ) → (b.miss n).is_fixed ≡ true → (b.miss n).due ≡ count N b.waited + (b.miss n).acks
  -- a request comes before any acknowledgement
  pub get_acks : (i : ℕ) → is_get (b.net i).body ≡ true → (b.miss (b.net i).from).acks ≡ 0
  -- none is in at a miss for a read
  pub read_acks : (n : ℕ) → (b.miss n).want ≡ Reads → (b.miss n).acks ≡ 0
  -- those that are in and those that lack are fewer than the nodes
  pub acks_low : takes b.kind ≡ true → is_here (b.miss b.requester).want ≡ true → count N b.waited + (b.miss b.requester).acks < N
  -- who is waited for is another node than r of a Take, Move or Upgrade, and r's miss is open for a write
  pub waited_of : (n : ℕ) → b.waited n ≡ true → (takes b.kind ≡ true) × (b.requester ≢ n) × ((b.miss b.requester).want ≡ Writes)
  -- an Inv is to, an InvAck from a node that is waited for, and of r; a node has at most one of them
  pub inv : (i : ℕ) → (b.net i).body ≡ Inv → (b.waited (b.net i).to ≡ true) × ((b.net i).requester ≡ b.requester)
  pub inv_ack : (i : ℕ) → (b.net i).body ≡ InvAck → (b.waited (b.net i).from ≡ true) × ((b.net i).to ≡ b.requester)
  pub one_inv : (i j : ℕ) → is_invalidation (b.net i).body ≡ true → is_invalidation (b.net j).body ≡ true →
      sharer_of (b.net i) ≡ sharer_of (b.net j) → i ≡ j
  -- who sent an InvAck has no line
  pub ack_line : (i : ℕ) → (b.net i).body ≡ InvAck → b.line (b.net i).from ≡ NoLine

-- Sharing. Who may have a copy beside whom.
pub record Sharing (b : Block) : Type 0 where
  -- a Shared line is listed, or waited for, or it is of r of a Take or Move
  pub listed : (n : ℕ) → b.line n ≡ Shared →
      (b.sharers n ≡ true) ⊎ (b.waited n ≡ true) ⊎ ((brings_to_cache b.kind ≡ true) × (b.requester ≡ n))
  -- r of a Read is listed
  pub reader : b.kind ≡ Read → b.sharers b.requester ≡ true
  -- nobody is listed in a Take, Move or Upgrade
  pub none_listed : (n : ℕ) → takes b.kind ≡ true → b.sharers n ≡ false
  -- the cache that the home names is neither listed nor waited for
  pub owner_apart : b.at_home ≡ false → (b.sharers b.owner ≡ false) × (b.waited b.owner ≡ false)
  -- who may write, with no miss open on the block, is alone
  pub writer_alone : (n m : ℕ) → is_writable (b.line n) ≡ true → is_here (b.miss n).want ≡ false → n ≢ m → b.line m ≡ NoLine
  -- nobody may write while the data of a Read is on its way
  pub read_given : (n : ℕ) → b.kind ≡ Read → b.stage ≡ Given → is_writable (b.line n) ≡ false

-- Logs. What the entries say at the cuts above them, and how new they are.
pub record Logs (b : Block) : Type 0 where
  -- above its newest entry a side says what is now
  pub holds_now : (n j : ℕ) → b.last n ≤ j → b.holds n j ≡ is_owned (b.line n)
  pub named_home_now : (j : ℕ) → b.home_last ≤ j → b.named_home j ≡ b.at_home
  pub named_now : (j : ℕ) → b.home_last ≤ j → b.at_home ≡ false → b.named j ≡ b.owner
  -- a node's entries lie at or below its now
  pub own : (n : ℕ) → b.last n ≤ b.now n + 1
  -- all caches' entries lie at or below the now of the owner, a cache or the home, and, where the block is on its way, at
  -- or below the interval of atomicity
  pub below_owner : (n m : ℕ) → is_owned (b.line m) ≡ true → b.last n ≤ b.now m + 1
  pub below_home : (n : ℕ) → b.at_home ≡ true → b.last n ≤ b.now b.home + 1
  pub below_given : (n : ℕ) → hands_over b.kind ≡ true → b.stage ≡ Given → b.last n ≤ b.at + 1
  -- the home's entries lie at or below its now, and at or below where the open transaction was begun
  pub home_now : b.home_last ≤ b.now b.home + 1
  pub home_begun : b.kind ≢ Idle → b.home_last ≤ b.begun + 1
  -- once the cache that the home names has given the block away, its newest entry is of the interval of atomicity
  pub giver : leaves_cache b.kind ≡ true → b.stage ≢ Asked → b.last b.owner ≡ b.at + 1

-- whether the block is between two holders above the interval of atomicity
abbrev pub is_between : Kind → Stage → Bool
is_between Take stage = true
is_between Move Asked = false
is_between Move stage = true
is_between Put Asked = false
is_between Put stage = true
is_between kind stage = false

-- whether at cut j the holder is the one that the home names
abbrev pub is_settled : Block → ℕ → Bool
is_settled b j = cond (is_between b.kind b.stage) (nat_le j b.at) true

-- Cuts. The holders at each cut from the point on.
pub record Cuts (b : Block) : Type 0 where
  -- at a settled cut a cache that holds is the one that the home names,
  pub one : (n j : ℕ) → b.point ≤ j → is_settled b j ≡ true → b.holds n j ≡ true → (b.named_home j ≡ false) × (b.named j ≡ n)
  -- and a cache that the home names holds
  pub held : (j : ℕ) → b.point ≤ j → is_settled b j ≡ true → b.named_home j ≡ false → b.holds (b.named j) j ≡ true
  -- at any other the home names whom it names now, a cache, and those hold that own now
  pub named_still : (j : ℕ) → b.point ≤ j → is_settled b j ≡ false → (b.named_home j ≡ false) × (b.named j ≡ b.owner)
  pub holds_still : (n j : ℕ) → b.point ≤ j → is_settled b j ≡ false → b.holds n j ≡ is_owned (b.line n)

-- Frames. What had a frame at an edge.
pub record Frames (N : ℕ) (b : Block) : Type 0 where
  -- what a cache holds at a cut from the point to its now had one there,
  pub holds_framed : (n j : ℕ) → n < N → b.point ≤ j → j ≤ b.now n → b.holds n j ≡ true → b.framed n j ≡ true
  -- and so had an open miss at each edge since it was issued
  pub miss_framed : (n j : ℕ) → is_here (b.miss n).want ≡ true → (b.miss n).issued < j → j ≤ b.now n → b.framed n j ≡ true
  -- a request's tag is when its miss was issued, and the home begins the transaction no sooner
  pub get_issued : (i : ℕ) → is_get (b.net i).body ≡ true → (b.net i).tag ≡ (b.miss (b.net i).from).issued
  pub issued_begun : takes b.kind ≡ true → is_here (b.miss b.requester).want ≡ true → (b.miss b.requester).issued ≤ b.begun

-- All of it.
pub record BlockInvariant (N : ℕ) (b : Block) : Type 0 where
  pub clocks : Clocks N b
  pub nodes : Nodes N b
  pub stages : Stages b
  pub requests : Requests b
  pub owners : Owners b
  pub waits : Acknowledgements N b
  pub sharing : Sharing b
  pub logs : Logs b
  pub cuts : Cuts b
  pub frames : Frames N b
