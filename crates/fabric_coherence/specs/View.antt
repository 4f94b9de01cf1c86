-- The fabric as one block sees it: each field of the coherence theorem's block, read off the fabric's lists.
use Rattle.std.specs.Prelude.{ℕ, Bool, true, false, not, ◌&&◌, ◌||◌, nat_eq, if◌then◌else◌, List, [], ◌∷◌, slice_index_or, Option, Some, None}
use Rattle.std.specs.Prelude.{is_some}
use Rattle.sn_msg.specs.declared.Message.{Message}
use Rattle.sn_msg.specs.declared.Body.{Body}
use Rattle.sn_msg.specs.declared.Body.TheVariants.{GetS, GetM, FwdGetS, FwdGetM, Inv, DataS, DataM, DataE, UpgOk, InvAck, Unblock, PutReq}
use Rattle.sn_msg.specs.declared.Body.TheVariants.{PutGo, PutData, PutDone, Ready, Advance}
use Rattle.log_buffer.specs.Log.{LogEntry, logged_to}
use Rattle.sn_model.specs.declared.cache.LineState.{LineState}
use Rattle.sn_model.specs.declared.cache.LineState.TheVariants.{Absent, Shared, Owned, Modified, Exclusive}
use Rattle.sn_model.specs.declared.cache.Need.{Need}
use Rattle.sn_model.specs.declared.cache.Need.TheVariants.{Read, Write}
use Rattle.sn_model.specs.declared.home.Kind.{Kind}
use Rattle.sn_model.specs.declared.home.Kind.TheVariants as kind
use Rattle.sn_model.specs.Caches.{Line, Miss, Put, line_of, is_owned}
use Rattle.sn_model.specs.Homes.{Holder, Itself, OfCache, Transaction}
use Rattle.sn_model.specs.Fabric.{Fabric, Flight, node_at, home_of, home_node}
use Rattle.sn_model.specs.Receivers.{comes_to_cache, comes_to_home}
use Rattle.sn_coherence.specs.Block as block
use Rattle.sn_coherence.specs.Log.{was_owned, old_content, was_home, old_cache, told_at}

-- a line

abbrev pub line_seen : LineState → block.Line
line_seen Absent = block.NoLine
line_seen Shared = block.Shared
line_seen Owned = block.Owned
line_seen Modified = block.Modified
line_seen Exclusive = block.Exclusive

-- the content that a cache holds at a cut from now on: that of a line which owns its block
abbrev pub content_held : Line → List ℕ
content_held line = if is_owned line.state then line.content else []

-- the open miss, where it is on this block; of another it is seen that it is open, and since when

abbrev pub wants : Need → block.Want
wants Read = block.Reads
wants Write = block.Writes

abbrev pub or_zero : Option ℕ → ℕ
or_zero None = 0
or_zero (Some number) = number

abbrev pub miss_here : Miss → block.Miss
miss_here miss = record {
  want = wants miss.need;
  issued = miss.issued;
  is_fixed = is_some miss.fixed;
  fixed = or_zero miss.fixed;
  due = miss.due;
  acks = miss.acks;
}

abbrev pub miss_seen : ℕ → Option Miss → block.Miss
miss_seen b None = block.no_miss
miss_seen b (Some miss) = if nat_eq miss.block b then miss_here miss else block.new_miss block.Elsewhere miss.issued

-- the open put

abbrev pub put_seen : ℕ → Option Put → block.Putting
put_seen b None = block.NoPut
put_seen b (Some put) = if nat_eq put.block b then block.Here else block.PutElsewhere

abbrev pub put_issued : Option Put → ℕ
put_issued None = 0
put_issued (Some put) = put.issued

-- the home's entry

abbrev pub is_itself : Holder → Bool
is_itself (Itself content) = true
is_itself (OfCache node) = false

abbrev pub owner_of : Holder → ℕ
owner_of (Itself content) = 0
owner_of (OfCache node) = node

abbrev pub content_of : Holder → List ℕ
content_of (Itself content) = content
content_of (OfCache node) = []

abbrev pub kind_seen : Kind → block.Kind
kind_seen kind.Read = block.Read
kind_seen kind.Take = block.Take
kind_seen kind.Move = block.Move
kind_seen kind.Upgrade = block.Upgrade
kind_seen kind.Put = block.Put

abbrev pub kind_open : Option Transaction → block.Kind
kind_open None = block.Idle
kind_open (Some transaction) = kind_seen transaction.kind

abbrev pub requester_of : Option Transaction → ℕ
requester_of None = 0
requester_of (Some transaction) = transaction.requester

abbrev pub begun_of : Option Transaction → ℕ
begun_of None = 0
begun_of (Some transaction) = transaction.begun

-- the messages in flight: those of this block, and each Ready and Advance

abbrev pub message_seen : Message → Body → block.Message
message_seen m GetS = block.plain block.GetS m.from m.to m.tag
message_seen m GetM = block.plain block.GetM m.from m.to m.tag
message_seen m (FwdGetS r) = block.forward block.FwdGetS m.from m.to m.tag r 0
message_seen m (FwdGetM r due) = block.forward block.FwdGetM m.from m.to m.tag r due
message_seen m (Inv r) = block.forward block.Inv m.from m.to m.tag r 0
message_seen m (DataS content) = block.answer block.DataS m.from m.to m.tag 0 content
message_seen m (DataM content due) = block.answer block.DataM m.from m.to m.tag due content
message_seen m (DataE content) = block.answer block.DataE m.from m.to m.tag 0 content
message_seen m (UpgOk due) = block.answer block.UpgOk m.from m.to m.tag due block.nothing
message_seen m InvAck = block.plain block.InvAck m.from m.to m.tag
message_seen m (Unblock fixed) = block.with_number block.Unblock m.from m.to m.tag fixed
message_seen m PutReq = block.plain block.PutReq m.from m.to m.tag
message_seen m PutGo = block.plain block.PutGo m.from m.to m.tag
message_seen m (PutData content) = block.answer block.PutData m.from m.to m.tag 0 content
message_seen m PutDone = block.plain block.PutDone m.from m.to m.tag
message_seen m (Ready k) = block.with_number block.Ready m.from m.to m.tag k
message_seen m (Advance k) = block.with_number block.Advance m.from m.to m.tag k

-- whether every block sees a message: one that comes to no cache and to no home
abbrev pub is_for_all : Body → Bool
is_for_all body = not (comes_to_cache body || comes_to_home body)

abbrev pub is_seen : ℕ → Message → Bool
is_seen b m = is_for_all m.body || nat_eq m.block b

abbrev pub net_seen : ℕ → List Flight → ℕ → block.Message
net_seen b [] i = block.no_message
net_seen b (f ∷ fs) i = if nat_eq f.message.id i && is_seen b f.message then message_seen f.message f.message.body else net_seen b fs i

-- what the proof alone knows of each block: how far its transaction has come and its interval of atomicity, who is waited
-- for, and whether it had a frame of a node at an edge
pub record GhostState : Type 0 where
  pub stage : ℕ → block.Stage
  pub at : ℕ → ℕ
  pub waited : ℕ → ℕ → Bool
  pub framed : ℕ → ℕ → ℕ → Bool

abbrev pub home_log : Fabric → ℕ → List LogEntry
home_log s b = (node_at s (home_node s b)).log

-- block b of the fabric
abbrev pub block_seen : Fabric → GhostState → ℕ → block.Block
block_seen s t b = record {
  point = s.point;
  home = home_node s b;
  now = λ n. (node_at s n).now;
  known = λ n. (node_at s n).known;
  line = λ n. line_seen (line_of (node_at s n).cache b).state;
  content = λ n. (line_of (node_at s n).cache b).content;
  miss = λ n. miss_seen b (node_at s n).cache.miss;
  putting = λ n. put_seen b (node_at s n).cache.put;
  put_issued = λ n. put_issued (node_at s n).cache.put;
  at_home = is_itself (home_of s b).holder;
  owner = owner_of (home_of s b).holder;
  home_content = content_of (home_of s b).holder;
  sharers = λ n. slice_index_or (home_of s b).sharers n false;
  kind = kind_open (home_of s b).transaction;
  requester = requester_of (home_of s b).transaction;
  begun = begun_of (home_of s b).transaction;
  net = net_seen b s.net.flights;
  next = s.net.next_id;
  holds = λ n. told_at was_owned (node_at s n).log false b (is_owned (line_of (node_at s n).cache b).state);
  held = λ n. told_at old_content (node_at s n).log false b (content_held (line_of (node_at s n).cache b));
  last = λ n. logged_to (node_at s n).log false b;
  named_home = told_at was_home (home_log s b) true b (is_itself (home_of s b).holder);
  named = told_at old_cache (home_log s b) true b (owner_of (home_of s b).holder);
  home_held = told_at old_content (home_log s b) true b (content_of (home_of s b).holder);
  home_last = logged_to (home_log s b) true b;
  stage = t.stage b;
  at = t.at b;
  waited = t.waited b;
  framed = λ n j. t.framed b n j;
}
