-- One block of memory as the whole machine sees it: a record of functions of nodes, of message numbers and of cuts.
use Rattle.std.specs.Prelude.{ℕ, ◌+◌, ◌-◌, Bool, true, false, ◌==◌, nat_lt, nat_le, cond, List, []}

-- What a block's bytes are, in order. Where there is no content it is `nothing`.
abbrev pub Content : Type 0
Content = List ℕ

abbrev pub nothing : Content
nothing = []

-- What a cache has of the block.
pub data Line : Type 0 where
  NoLine : Line
  Shared : Line
  Owned : Line
  Modified : Line
  Exclusive : Line

-- What a node's open miss wants of the block. Elsewhere: it is open on another block.
pub data Want : Type 0 where
  Nothing : Want
  Reads : Want
  Writes : Want
  Elsewhere : Want

-- Where a node's put is open.
pub data Putting : Type 0 where
  NoPut : Putting
  Here : Putting
  PutElsewhere : Putting

-- The transaction that the home has open on the block.
pub data Kind : Type 0 where
  Idle : Kind
  Read : Kind
  Take : Kind
  Move : Kind
  Upgrade : Kind
  Put : Kind

-- How far the open transaction has come: asked of the owner, given away, arrived while acknowledgements lack, done.
pub data Stage : Type 0 where
  Asked : Stage
  Given : Stage
  Inside : Stage
  Done : Stage

-- What a message says. Gone: no message has this number.
pub data Body : Type 0 where
  Gone : Body
  GetS : Body
  GetM : Body
  FwdGetS : Body
  FwdGetM : Body
  Inv : Body
  DataS : Body
  DataM : Body
  DataE : Body
  UpgOk : Body
  InvAck : Body
  Unblock : Body
  PutReq : Body
  PutData : Body
  PutGo : Body
  PutDone : Body
  Ready : Body
  Advance : Body

-- A message, with 0 for the fields that its body lacks.
pub record Message : Type 0 where
  pub body : Body
  pub from : ℕ
  pub to : ℕ
  -- its sender's interval when it was sent
  pub tag : ℕ
  pub requester : ℕ
  -- acknowledgements due
  pub due : ℕ
  -- the interval of atomicity of an Unblock, the checkpoint of a Ready or Advance
  pub number : ℕ
  pub content : Content

-- A node's open miss. The last four are of a miss on this block: 0 and false in any other.
pub record Miss : Type 0 where
  pub want : Want
  pub issued : ℕ
  pub is_fixed : Bool
  pub fixed : ℕ
  pub due : ℕ
  pub acks : ℕ

-- The block. What isn't there has one form: without a line the content is `nothing`; without a put it was issued in 0;
-- while the home owns, `owner` is 0, and while a cache owns, `home_content` is `nothing`; without a transaction `requester`
-- and `begun` are 0; and at a cut `held` is `nothing` where the cache doesn't hold, `named` is 0 where the home names itself,
-- and `home_held` is `nothing` where it names a cache.
pub record Block : Type 0 where
  -- the recovery point, and the node that is the block's home
  pub point : ℕ
  pub home : ℕ
  -- of each node: its interval, the recovery point that it knows, its line with content, its miss, its put
  pub now : ℕ → ℕ
  pub known : ℕ → ℕ
  pub line : ℕ → Line
  pub content : ℕ → Content
  pub miss : ℕ → Miss
  pub putting : ℕ → Putting
  pub put_issued : ℕ → ℕ
  -- the home's entry: whether the home itself owns and with which content, else which cache; sharers; transaction
  pub at_home : Bool
  pub owner : ℕ
  pub home_content : Content
  pub sharers : ℕ → Bool
  pub kind : Kind
  pub requester : ℕ
  pub begun : ℕ
  -- the messages in flight by number, those of this block and each Ready and Advance, and the number of the next one
  pub net : ℕ → Message
  pub next : ℕ
  -- what the logs say: whether cache n holds the block at cut j and with which content, and one more than the interval
  -- of its newest entry of the block, 0 where it has none
  pub holds : ℕ → ℕ → Bool
  pub held : ℕ → ℕ → Content
  pub last : ℕ → ℕ
  -- the same of the home's side: whether it names itself at cut j and with which content, else which cache
  pub named_home : ℕ → Bool
  pub named : ℕ → ℕ
  pub home_held : ℕ → Content
  pub home_last : ℕ
  -- for the proof alone: the stage of the open transaction and, once it is given, its interval of atomicity; the nodes
  -- whose acknowledgement its requester waits for; whether the block had a frame of node n at its edge to interval j
  pub stage : Stage
  pub at : ℕ
  pub waited : ℕ → Bool
  pub framed : ℕ → ℕ → Bool

-- f with v at k
abbrev pub set : {A : Type 0} → (ℕ → A) → ℕ → A → ℕ → A
set f k v j = cond (j == k) v (f j)

-- f with the row n replaced by v. The choice is made at a place, so that f m j stays in sight
abbrev pub set_row : {A : Type 0} → (ℕ → ℕ → A) → ℕ → (ℕ → A) → ℕ → ℕ → A
set_row f n v m j = cond (m == n) (v j) (f m j)

-- f up to cut k, and v above it: what a note at interval k with a change to v leaves
abbrev pub above : {A : Type 0} → (ℕ → A) → ℕ → A → ℕ → A
above f k v j = cond (nat_le j k) (f j) v

-- f from cut k on, and below it what it is at k: what freeing the entries below k leaves
abbrev pub freed_below_cut : {A : Type 0} → (ℕ → A) → ℕ → ℕ → A
freed_below_cut f k j = cond (nat_le k j) (f j) (f k)

-- a newest entry after the entries below k are freed
abbrev pub newest_freed : ℕ → ℕ → ℕ
newest_freed last k = cond (nat_le last k) 0 last

abbrev pub no_miss : Miss
no_miss = record { want = Nothing; issued = 0; is_fixed = false; fixed = 0; due = 0; acks = 0 }

abbrev pub new_miss : Want → ℕ → Miss
new_miss w now = record { want = w; issued = now; is_fixed = false; fixed = 0; due = 0; acks = 0 }

-- lines that the cache owns
abbrev pub is_owned : Line → Bool
is_owned NoLine = false
is_owned Shared = false
is_owned _ = true

-- lines that may be written
abbrev pub is_writable : Line → Bool
is_writable Modified = true
is_writable Exclusive = true
is_writable _ = false

-- the miss is open on this block
abbrev pub is_here : Want → Bool
is_here Reads = true
is_here Writes = true
is_here _ = false

abbrev pub is_write : Want → Bool
is_write Writes = true
is_write _ = false

-- a line or an open miss takes a frame
abbrev pub has_frame : Line → Want → Bool
has_frame NoLine w = is_here w
has_frame _ w = true

-- transactions by GetM, or by a GetS that gets the block alone
abbrev pub takes : Kind → Bool
takes Take = true
takes Move = true
takes Upgrade = true
takes _ = false

-- transactions of a miss
abbrev pub gets : Kind → Bool
gets Read = true
gets Take = true
gets Move = true
gets Upgrade = true
gets _ = false

-- transactions that bring the block from one holder to another
abbrev pub hands_over : Kind → Bool
hands_over Take = true
hands_over Move = true
hands_over Put = true
hands_over _ = false

-- transactions that take the block from a cache
abbrev pub leaves_cache : Kind → Bool
leaves_cache Move = true
leaves_cache Put = true
leaves_cache _ = false

-- transactions that bring the block to a cache
abbrev pub brings_to_cache : Kind → Bool
brings_to_cache Take = true
brings_to_cache Move = true
brings_to_cache _ = false

-- the requester has not been reached
abbrev pub is_early : Stage → Bool
is_early Asked = true
is_early Given = true
is_early _ = false

-- the requester has it
abbrev pub is_late : Stage → Bool
is_late Inside = true
is_late Done = true
is_late _ = false

-- the messages of which a block has at most one in flight
abbrev pub is_token : Body → Bool
is_token FwdGetS = true
is_token FwdGetM = true
is_token DataS = true
is_token DataM = true
is_token DataE = true
is_token UpgOk = true
is_token Unblock = true
is_token PutGo = true
is_token PutData = true
is_token _ = false

abbrev pub is_get : Body → Bool
is_get GetS = true
is_get GetM = true
is_get _ = false

-- messages that name the acknowledgements due
abbrev pub has_due : Body → Bool
has_due FwdGetM = true
has_due DataM = true
has_due UpgOk = true
has_due _ = false

-- messages with the content
abbrev pub has_content : Body → Bool
has_content DataS = true
has_content DataM = true
has_content DataE = true
has_content PutData = true
has_content _ = false

-- messages to the home, and messages from it
abbrev pub is_to_home : Body → Bool
is_to_home GetS = true
is_to_home GetM = true
is_to_home Unblock = true
is_to_home PutReq = true
is_to_home PutData = true
is_to_home _ = false

abbrev pub is_from_home : Body → Bool
is_from_home FwdGetS = true
is_from_home FwdGetM = true
is_from_home Inv = true
is_from_home UpgOk = true
is_from_home DataE = true
is_from_home PutGo = true
is_from_home PutDone = true
is_from_home _ = false

-- an invalidation and its acknowledgement, and the sharer that they are about
abbrev pub is_invalidation : Body → Bool
is_invalidation Inv = true
is_invalidation InvAck = true
is_invalidation _ = false

abbrev pub is_inv : Body → Bool
is_inv Inv = true
is_inv _ = false

abbrev pub sharer_of : Message → ℕ
sharer_of m = cond (is_inv m.body) m.to m.from

-- a put's request and its refusal, and the node that they are about
abbrev pub is_put_request : Body → Bool
is_put_request PutReq = true
is_put_request PutDone = true
is_put_request _ = false

abbrev pub is_put_done : Body → Bool
is_put_done PutDone = true
is_put_done _ = false

abbrev pub putter_of : Message → ℕ
putter_of m = cond (is_put_done m.body) m.to m.from

-- the sharers without r
abbrev pub others : (ℕ → Bool) → ℕ → ℕ → Bool
others f r n = cond (n == r) false (f n)

abbrev pub no_message : Message
no_message = record { body = Gone; from = 0; to = 0; tag = 0; requester = 0; due = 0; number = 0; content = nothing }

abbrev pub plain : Body → ℕ → ℕ → ℕ → Message
plain body from to tag = record { body = body; from = from; to = to; tag = tag; requester = 0; due = 0; number = 0; content = nothing }

abbrev pub with_number : Body → ℕ → ℕ → ℕ → ℕ → Message
with_number body from to tag number =
    record { body = body; from = from; to = to; tag = tag; requester = 0; due = 0; number = number; content = nothing }

abbrev pub forward : Body → ℕ → ℕ → ℕ → ℕ → ℕ → Message
forward body from to tag requester due =
    record { body = body; from = from; to = to; tag = tag; requester = requester; due = due; number = 0; content = nothing }

abbrev pub answer : Body → ℕ → ℕ → ℕ → ℕ → Content → Message
answer body from to tag due content =
    record { body = body; from = from; to = to; tag = tag; requester = 0; due = due; number = 0; content = content }

-- the net without message i
abbrev pub net_without : Block → ℕ → ℕ → Message
net_without b i = set b.net i no_message

-- the net without message i, and with m under the next number
abbrev pub net_with_reply : Block → ℕ → Message → ℕ → Message
net_with_reply b i m = set (set b.net i no_message) b.next m

-- the net without message i, with m under the next number and then `due` messages Inv to targets 0, 1, ..
abbrev pub invalidates : Block → ℕ → Message → (ℕ → ℕ) → ℕ → ℕ → Message
invalidates b i m targets due j =
    cond (nat_lt j b.next) (set b.net i no_message j)
    (cond (j == b.next) m
    (cond (nat_le j (b.next + due)) (forward Inv b.home (targets (j - (b.next + 1))) (b.now b.home) (b.net i).from 0) no_message))

-- the net with Advance k from node 0 to nodes 0, 1, .. below N
abbrev pub tells_all : Block → ℕ → ℕ → ℕ → Message
tells_all b N k j =
    cond (nat_lt j b.next) (b.net j)
    (cond (nat_lt j (b.next + N)) (with_number Advance 0 (j - b.next) (b.now 0) k) no_message)
