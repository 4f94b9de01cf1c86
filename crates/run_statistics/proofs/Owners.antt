-- What each event leaves of the nodes and of what their caches own: all nodes but one, and all owners but by the lines that a delivery
-- touches and what a recovery makes anew.
use Rattle.std.proofs.Common.{◌≡◌, ◌≢◌, ℕ, zero, suc, Bool, true, false, not, if◌then◌else◌, List, [], ◌∷◌, Option, Some, None}
use Rattle.std.proofs.Common.{refl, sym, ap, ◌∙◌, get_or-set_other}
use Rattle.std.specs.Prelude.{nat_eq, nat_lt, slice_index_or, slice_set}
use Rattle.std.proofs.lemmas.Bool.{eqb-false}
use Rattle.sn_base.specs.declared.block.Write.{Write}
use Rattle.sn_base.specs.declared.config.Config.{Config}
use Rattle.sn_base.specs.declared.log.LogEntry.{LogEntry}
use Rattle.sn_base.specs.declared.event.Answer.{Answer}
use Rattle.sn_base.specs.declared.event.Answer.TheVariants.{LogFull, NetFull, NeedsEvict, Waits, PutOpen, NotCached, MissOpen, CheckpointsFull}
use Rattle.sn_base.specs.declared.event.Answer.TheVariants.{Retired, NoMessage, Arrived, NotArrived, AlreadyDead, Held, HomeBusy}
use Rattle.sn_msg.specs.declared.Message.{Message}
use Rattle.sn_msg.specs.declared.Body.{Body}
use Rattle.sn_msg.specs.declared.Body.TheVariants.{GetS, GetM, FwdGetS, FwdGetM, Inv, DataS, DataM, DataE, UpgOk, InvAck, Unblock, PutReq}
use Rattle.sn_msg.specs.declared.Body.TheVariants.{PutGo, PutData, PutDone, Ready, Advance}
use Rattle.route_plan.specs.Distances.{is_dead}
use Rattle.rv_core.specs.Core.{block_of}
use Rattle.sn_model.specs.declared.cache.LineState.{LineState}
use Rattle.sn_model.specs.declared.cache.LineState.TheVariants.{Absent, Shared, Owned, Modified, Exclusive}
use Rattle.sn_model.specs.declared.cache.Need.{Need}
use Rattle.sn_model.specs.declared.cache.Out.{Out}
use Rattle.sn_model.specs.Caches.{Cache, Line, Miss, line_of, no_line, is_owned, is_writable_state}
use Rattle.sn_model.specs.CacheRows.{Logged, CacheReply, reply_or_wait, reply_or_wait_by, reply_when_complete, reply_that_waits, fixed_at, miss_with_ack}
use Rattle.sn_model.specs.CacheRows.{taken_over, forward_read, forward_write, invalidate, data_shared, data_modified, data_exclusive}
use Rattle.sn_model.specs.CacheRows.{upgrade_granted, acknowledge, put_go, put_done}
use Rattle.sn_model.specs.HomeRows.{HomeReply}
use Rattle.sn_model.specs.Homes.{Transaction}
use Rattle.sn_model.specs.Fabric.{Fabric, Node, Flight, FabricStep, first_node, node_at, with_node, home_of, home_node, step_refused}
use Rattle.sn_model.specs.Net.{is_there, next_switch, routes_of}
use Rattle.sn_model.specs.Access.{step_of_access, accesses, misses, step_of_miss, missing, lacks_room, with_write, node_to_write}
use Rattle.sn_model.specs.NodeEvents.{evicts, step_of_eviction, begins_put, with_put, without_copy, step_of_edge, after_edge, step_of_report}
use Rattle.sn_model.specs.NetEvents.{Outcome, AtCache, AtHome, logged_at, hops, hops_to, loses, step_of_kill, delivers, delivers_flight}
use Rattle.sn_model.specs.NetEvents.{outcome_of, unless_busy, fits_in, node_after, node_after_news}
use Rattle.sn_model.specs.PointEvents.{step_of_advance}
use Rattle.run_statistics.specs.declared.owned.TouchedLines.{TouchedLines}
use Rattle.run_statistics.specs.declared.reach.Reach.{Reach}
use Rattle.run_statistics.specs.declared.reach.Reach.TheVariants.{One}
use Rattle.run_statistics.specs.Owned.{owns, missed_block, lines_at, lines_of_flight, reach_of_lines, is_reached}

-- each cache owns what it owned
abbrev pub SameOwners : Fabric → Fabric → Type 0
SameOwners s t = (n b : ℕ) → owns t n b ≡ owns s n b

-- each does but by these lines
abbrev pub FollowsLines : Fabric → Fabric → Option TouchedLines → Type 0
FollowsLines s t None = SameOwners s t
FollowsLines s t (Some l) = (n b : ℕ) → (n ≡ l.node → (b ≢ l.block) × (b ≢ l.missed)) → owns t n b ≡ owns s n b

-- what holds of both branches holds of a choice
either : {A : Type 0} (P : A → Type 0) (test : Bool) (a b : A) → P a → P b → P (if test then a else b)
either P true a b first second = first
either P false a b first second = second

-- what holds of an element that is written, and held of the one that is read, holds of the one that is read then
set_either : {A : Type 0} (P : A → Type 0) (xs : List A) (k n : ℕ) (x d : A) → (n ≡ k → P x) → P (slice_index_or xs n d) →
    P (slice_index_or (slice_set xs k x) n d)
set_either P [] k n x d new old = old
set_either P (y ∷ xs) zero zero x d new old = new refl
set_either P (y ∷ xs) zero (suc n) x d new old = old
set_either P (y ∷ xs) (suc k) zero x d new old = old
set_either P (y ∷ xs) (suc k) (suc n) x d new old = set_either P xs k n x d (λ e. new (ap suc e)) old

-- a line that owns its block just where the one before it did
owned_set : (lines : List Line) (k b : ℕ) (line : Line) → is_owned line.state ≡ is_owned (slice_index_or lines k no_line).state →
    is_owned (slice_index_or (slice_set lines k line) b no_line).state ≡ is_owned (slice_index_or lines b no_line).state
owned_set lines k b line e =
    set_either (λ (l : Line). is_owned l.state ≡ is_owned (slice_index_or lines b no_line).state) lines k b line no_line
    (λ same. e ∙ ap (λ j. is_owned (slice_index_or lines j no_line).state) (sym same)) refl

abbrev OwnsAlike : Cache → Cache → Type 0
OwnsAlike c d = (b : ℕ) → is_owned (line_of d b).state ≡ is_owned (line_of c b).state

-- a node whose cache owns what it owned
node_alike : (s : Fabric) (k : ℕ) (node : Node) → OwnsAlike (node_at s k).cache node.cache → SameOwners s (with_node s k node)
node_alike s k node alike n b =
    set_either (λ (x : Node). is_owned (line_of x.cache b).state ≡ owns s n b) s.nodes k n node first_node
    (λ same. alike b ∙ ap (λ j. owns s j b) (sym same)) refl

-- each node but this one is as it was
abbrev pub SameNodesBut : Fabric → ℕ → Fabric → Type 0
SameNodesBut s k t = (n : ℕ) → n ≢ k → node_at t n ≡ node_at s n

node_beside : (s : Fabric) (k : ℕ) (node : Node) → SameNodesBut s k (with_node s k node)
node_beside s k node n d = get_or-set_other s.nodes k n node first_node d

record KeepsOwners (s : Fabric) (k : ℕ) (x : FabricStep) : Type 0 where
  pub same : SameOwners s x.fabric
  pub others : SameNodesBut s k x.fabric

-- an event that leaves its node as it was, or changes it but not what its cache owns
refused : (s : Fabric) (k : ℕ) (answer : Answer) → KeepsOwners s k (step_refused s answer)
refused s k answer = record { same = λ n b. refl; others = λ n d. refl }

-- an access, and a write to a line that may be written

pub writable_owned : (state : LineState) → is_writable_state state ≡ true → is_owned state ≡ true
writable_owned Absent e = cc
writable_owned Shared e = cc
writable_owned Owned e = refl
writable_owned Modified e = refl
writable_owned Exclusive e = refl

missed : (s : Fabric) (n block : ℕ) (need : Need) → KeepsOwners s n (step_of_miss s n block need)
missed s n block need = record {
  same = node_alike s n (missing (node_at s n) block need) (λ b. refl);
  others = node_beside s n (missing (node_at s n) block need);
}

served : (s : Fabric) (config : Config) (n block : ℕ) (need : Need) →
    KeepsOwners s n (if lacks_room config (node_at s n) block need then step_refused s LogFull else record { fabric = s; answer = Retired; sent = []; told = None })
served s config n block need = either (KeepsOwners s n) _ _ _ (refused s n LogFull) (record { same = λ n b. refl; others = λ n d. refl })

missing_line : (config : Config) (s : Fabric) (n block : ℕ) (need : Need) → KeepsOwners s n (misses config s n block need)
missing_line config s n block need =
    either (KeepsOwners s n) _ _ _ (refused s n NeedsEvict) (either (KeepsOwners s n) _ _ _ (refused s n NetFull) (missed s n block need))

found_line : (config : Config) (s : Fabric) (n block : ℕ) (need : Need) → KeepsOwners s n (accesses config s n block need)
found_line config s n block need =
    either (KeepsOwners s n) _ _ _ (refused s n Waits)
    (either (KeepsOwners s n) _ _ _ (served s config n block need) (missing_line config s n block need))

accessed : (config : Config) (s : Fabric) (n block : ℕ) (need : Need) → KeepsOwners s n (step_of_access config s n block need)
accessed config s n block need = either (KeepsOwners s n) _ _ _ (refused s n Waits) (found_line config s n block need)

pub access-owners : (config : Config) (s : Fabric) (n block : ℕ) (need : Need) → SameOwners s (step_of_access config s n block need).fabric
access-owners config s n block need = (accessed config s n block need).same

pub access-others : (config : Config) (s : Fabric) (n block : ℕ) (need : Need) → SameNodesBut s n (step_of_access config s n block need).fabric
access-others config s n block need = (accessed config s n block need).others

written_alike : (node : Node) (w : Write) → is_owned (line_of node.cache (block_of w.address)).state ≡ true →
    OwnsAlike node.cache (with_write node w).cache
written_alike node w e b =
    owned_set (node_to_write node (block_of w.address)).cache.lines (block_of w.address) b _ refl
    ∙ owned_set node.cache.lines (block_of w.address) b _ (sym e)

pub write-owners : (s : Fabric) (n : ℕ) (w : Write) → owns s n (block_of w.address) ≡ true → SameOwners s (with_node s n (with_write (node_at s n) w))
write-owners s n w e = node_alike s n (with_write (node_at s n) w) (written_alike (node_at s n) w e)

pub write-others : (s : Fabric) (n : ℕ) (w : Write) → SameNodesBut s n (with_node s n (with_write (node_at s n) w))
write-others s n w = node_beside s n (with_write (node_at s n) w)

-- an eviction

put_begun : (s : Fabric) (n block : ℕ) → KeepsOwners s n (begins_put s n block)
put_begun s n block =
    either (KeepsOwners s n) _ _ _ (refused s n PutOpen)
    (either (KeepsOwners s n) _ _ _ (refused s n NetFull) (record {
      same = node_alike s n (with_put (node_at s n) block) (λ b. refl);
      others = node_beside s n (with_put (node_at s n) block);
    }))

evicted : (s : Fabric) (n block : ℕ) (state : LineState) → (line_of (node_at s n).cache block).state ≡ state → KeepsOwners s n (evicts s n block state)
evicted s n block Absent e = refused s n NotCached
evicted s n block Shared e = record {
  same =
      node_alike s n (without_copy (node_at s n) block)
      (λ b. owned_set (node_at s n).cache.lines block b no_line (ap is_owned (sym e)));
  others = node_beside s n (without_copy (node_at s n) block);
}
evicted s n block Owned e = put_begun s n block
evicted s n block Modified e = put_begun s n block
evicted s n block Exclusive e = put_begun s n block

eviction : (s : Fabric) (n block : ℕ) → KeepsOwners s n (step_of_eviction s n block)
eviction s n block =
    either (KeepsOwners s n) _ _ _ (refused s n MissOpen) (evicted s n block (line_of (node_at s n).cache block).state refl)

pub eviction-owners : (s : Fabric) (n block : ℕ) → SameOwners s (step_of_eviction s n block).fabric
eviction-owners s n block = (eviction s n block).same

pub eviction-others : (s : Fabric) (n block : ℕ) → SameNodesBut s n (step_of_eviction s n block).fabric
eviction-others s n block = (eviction s n block).others

-- an edge, a report, a hop, a loss, a kill, and a validation

edge : (s : Fabric) (n : ℕ) → KeepsOwners s n (step_of_edge s n)
edge s n =
    either (KeepsOwners s n) _ _ _ (refused s n CheckpointsFull)
    (record { same = node_alike s n (after_edge (node_at s n)) (λ b. refl); others = node_beside s n (after_edge (node_at s n)) })

pub edge-owners : (s : Fabric) (n : ℕ) → SameOwners s (step_of_edge s n).fabric
edge-owners s n = (edge s n).same

pub edge-others : (s : Fabric) (n : ℕ) → SameNodesBut s n (step_of_edge s n).fabric
edge-others s n = (edge s n).others

-- these change no node

abbrev pub SameNodes : Fabric → Fabric → Type 0
SameNodes s t = t.nodes ≡ s.nodes

pub same-owners : (s t : Fabric) → SameNodes s t → SameOwners s t
same-owners s t e n b = ap (λ (nodes : List Node). is_owned (line_of (slice_index_or nodes n first_node).cache b).state) e

pub same-nodes : (s t : Fabric) → SameNodes s t → (n : ℕ) → node_at t n ≡ node_at s n
same-nodes s t e n = ap (λ (nodes : List Node). slice_index_or nodes n first_node) e

record KeepsNodes (s : Fabric) (x : FabricStep) : Type 0 where
  pub same : SameNodes s x.fabric

declined : (s : Fabric) (answer : Answer) → KeepsNodes s (step_refused s answer)
declined s answer = record { same = refl }

report : (s : Fabric) (n : ℕ) → KeepsNodes s (step_of_report s n)
report s n = either (KeepsNodes s) _ _ _ (declined s NetFull) (record { same = refl })

pub report-nodes : (s : Fabric) (n : ℕ) → SameNodes s (step_of_report s n).fabric
report-nodes s n = (report s n).same

hopped : (s : Fabric) (f : Option Flight) → KeepsNodes s (hops s f)
hopped s None = declined s NoMessage
hopped s (Some f) =
    either (KeepsNodes s) (is_there f) (step_refused s Arrived) (hops_to s f (next_switch (routes_of s) f)) (declined s Arrived)
    (either (KeepsNodes s) (is_dead s.net.dead (next_switch (routes_of s) f)) _ _ (record { same = refl }) (record { same = refl }))

pub hop-nodes : (s : Fabric) (f : Option Flight) → SameNodes s (hops s f).fabric
hop-nodes s f = (hopped s f).same

pub loss-nodes : (s : Fabric) (f : Option Flight) → SameNodes s (loses s f).fabric
loss-nodes s None = refl
loss-nodes s (Some f) = refl

killed : (s : Fabric) (switch : ℕ) → KeepsNodes s (step_of_kill s switch)
killed s switch = either (KeepsNodes s) _ _ _ (declined s AlreadyDead) (record { same = refl })

pub kill-nodes : (s : Fabric) (switch : ℕ) → SameNodes s (step_of_kill s switch).fabric
kill-nodes s switch = (killed s switch).same

advanced : (s : Fabric) (k : ℕ) → KeepsNodes s (step_of_advance s k)
advanced s k = either (KeepsNodes s) _ _ _ (declined s NetFull) (record { same = refl })

pub advance-nodes : (s : Fabric) (k : ℕ) → SameNodes s (step_of_advance s k).fabric
advance-nodes s k = (advanced s k).same

-- a delivery: the rows of a cache, which write the line of the message's block and that of the miss

line_beside : (lines : List Line) (k b : ℕ) (line : Line) → b ≢ k → slice_index_or (slice_set lines k line) b no_line ≡ slice_index_or lines b no_line
line_beside lines k b line d = get_or-set_other lines k b line no_line d

miss_waits : (at : Logged) (home : ℕ) (miss : Miss) (fixed : Option ℕ) (b : ℕ) → b ≢ miss.block →
    line_of (reply_or_wait_by at home miss fixed).after.cache b ≡ line_of at.cache b
miss_waits at home miss None b d = refl
miss_waits at home miss (Some fixed) b d =
    either (λ (x : CacheReply). line_of x.after.cache b ≡ line_of at.cache b) (nat_eq miss.acks miss.due)
    (reply_when_complete at home miss fixed) (reply_that_waits at miss) (line_beside at.cache.lines miss.block b _ d) refl

reply_beside : (at : Logged) (home : ℕ) (miss : Option Miss) (other b : ℕ) → b ≢ missed_block miss other →
    line_of (reply_or_wait at home miss).after.cache b ≡ line_of at.cache b
reply_beside at home None other b d = refl
reply_beside at home (Some miss) other b d = miss_waits at home miss miss.fixed b d

fixed_block : (miss : Option Miss) (tag due other : ℕ) → missed_block (fixed_at miss tag due) other ≡ missed_block miss other
fixed_block None tag due other = refl
fixed_block (Some miss) tag due other = refl

counted_block : (miss : Option Miss) (other : ℕ) → missed_block (miss_with_ack miss) other ≡ missed_block miss other
counted_block None other = refl
counted_block (Some miss) other = refl

fixed_beside : (at : Logged) (home : ℕ) (miss : Option Miss) (tag due other b : ℕ) → b ≢ missed_block miss other →
    line_of (reply_or_wait at home (fixed_at miss tag due)).after.cache b ≡ line_of at.cache b
fixed_beside at home miss tag due other b d =
    reply_beside at home (fixed_at miss tag due) other b (λ is. d (is ∙ fixed_block miss tag due other))

-- the lines of other blocks are as they were
abbrev LeavesOthers : Logged → ℕ → CacheReply → Type 0
LeavesOthers at block reply =
    (b : ℕ) → b ≢ block → b ≢ missed_block at.cache.miss block → line_of reply.after.cache b ≡ line_of at.cache b

module _ (at : Logged) (home block now tag : ℕ) where
  by_read : (r : ℕ) → LeavesOthers at block (forward_read at block r)
  by_read r b d m = line_beside at.cache.lines block b _ d

  by_write : (r due : ℕ) → LeavesOthers at block (forward_write at block now r due)
  by_write r due b d m = line_beside at.cache.lines block b no_line d

  by_invalidation : (r : ℕ) → LeavesOthers at block (invalidate at block r)
  by_invalidation r b d m = line_beside at.cache.lines block b no_line d

  by_shared : (content : List ℕ) → LeavesOthers at block (data_shared at home block tag content)
  by_shared content b d m =
      fixed_beside (record at { cache = record at.cache { lines = slice_set at.cache.lines block (record { state = Shared; content = content }) } })
      home at.cache.miss tag 0 block b m
      ∙ line_beside at.cache.lines block b _ d

  by_modified : (content : List ℕ) (due : ℕ) → LeavesOthers at block (data_modified at home block tag content due)
  by_modified content due b d m =
      fixed_beside (taken_over at block tag Modified content) home at.cache.miss tag due block b m ∙ line_beside at.cache.lines block b _ d

  by_exclusive : (content : List ℕ) → LeavesOthers at block (data_exclusive at home block tag content)
  by_exclusive content b d m =
      fixed_beside (taken_over at block tag Exclusive content) home at.cache.miss tag 0 block b m ∙ line_beside at.cache.lines block b _ d

  by_upgrade : (due : ℕ) → LeavesOthers at block (upgrade_granted at home tag due)
  by_upgrade due b d m = fixed_beside at home at.cache.miss tag due block b m

  by_acknowledgement : LeavesOthers at block (acknowledge at home)
  by_acknowledgement b d m = reply_beside at home (miss_with_ack at.cache.miss) block b (λ is. m (is ∙ counted_block at.cache.miss block))

  by_put : LeavesOthers at block (put_go at home block now)
  by_put b d m = line_beside at.cache.lines block b no_line d

  by_end : LeavesOthers at block (put_done at)
  by_end b d m = refl

record FollowsMessage (s : Fabric) (m : Message) (x : FabricStep) : Type 0 where
  pub same : FollowsLines s x.fabric (Some (lines_at s m))
  pub others : SameNodesBut s m.to x.fabric

kept_back : (s : Fabric) (m : Message) (answer : Answer) → FollowsMessage s m (step_refused s answer)
kept_back s m answer = record { same = λ n b c. refl; others = λ n d. refl }

fits : (config : Config) (s : Fabric) (m : Message) (log : List LogEntry) (sends : List Out) (done : FabricStep) → FollowsMessage s m done →
    FollowsMessage s m (fits_in config s log sends done)
fits config s m log sends done good =
    either (FollowsMessage s m) _ _ _ (kept_back s m LogFull) (either (FollowsMessage s m) _ _ _ (kept_back s m NetFull) good)

record FollowsOutcome (config : Config) (s : Fabric) (m : Message) (outcome : Outcome) : Type 0 where
  pub good : FollowsMessage s m (delivers config s m outcome)

at_cache : (config : Config) (s : Fabric) (m : Message) (reply : CacheReply) → LeavesOthers (logged_at s m.to) m.block reply →
    FollowsOutcome config s m (AtCache reply)
at_cache config s m reply leaves = record {
  good =
      fits config s m reply.after.log reply.sends _ (record {
        same =
            λ n b c. set_either (λ (x : Node). is_owned (line_of x.cache b).state ≡ owns s n b) s.nodes m.to n (node_after (node_at s m.to) reply)
            first_node
            (λ is. ap (λ (x : Line). is_owned x.state) (leaves b ((c is).0) ((c is).1)) ∙ ap (λ j. owns s j b) (sym is)) refl;
        others = node_beside s m.to (node_after (node_at s m.to) reply);
      });
}

at_home : (config : Config) (s : Fabric) (m : Message) (reply : HomeReply) → FollowsOutcome config s m (AtHome reply)
at_home config s m reply = record {
  good =
      fits config s m reply.after.log reply.sends _ (record {
        same = λ n b c. node_alike s m.to (record (node_at s m.to) { log = reply.after.log }) (λ k. refl) n b;
        others = node_beside s m.to (record (node_at s m.to) { log = reply.after.log });
      });
}

request : (config : Config) (s : Fabric) (m : Message) (transaction : Option Transaction) (reply : HomeReply) →
    FollowsOutcome config s m (unless_busy transaction reply)
request config s m None reply = at_home config s m reply
request config s m (Some transaction) reply = record { good = kept_back s m HomeBusy }

by_body : (config : Config) (s : Fabric) (m : Message) (body : Body) → FollowsOutcome config s m (outcome_of s m body)
by_body config s m GetS = request config s m (home_of s m.block).transaction _
by_body config s m GetM = request config s m (home_of s m.block).transaction _
by_body config s m (FwdGetS r) = at_cache config s m _ (by_read (logged_at s m.to) 0 m.block 0 0 r)
by_body config s m (FwdGetM r due) = at_cache config s m _ (by_write (logged_at s m.to) 0 m.block (node_at s m.to).now 0 r due)
by_body config s m (Inv r) = at_cache config s m _ (by_invalidation (logged_at s m.to) 0 m.block 0 0 r)
by_body config s m (DataS content) = at_cache config s m _ (by_shared (logged_at s m.to) (home_node s m.block) m.block 0 m.tag content)
by_body config s m (DataM content due) =
    at_cache config s m _ (by_modified (logged_at s m.to) (home_node s m.block) m.block 0 m.tag content due)
by_body config s m (DataE content) = at_cache config s m _ (by_exclusive (logged_at s m.to) (home_node s m.block) m.block 0 m.tag content)
by_body config s m (UpgOk due) = at_cache config s m _ (by_upgrade (logged_at s m.to) (home_node s m.block) m.block 0 m.tag due)
by_body config s m InvAck = at_cache config s m _ (by_acknowledgement (logged_at s m.to) (home_node s m.block) m.block 0 0)
by_body config s m (Unblock fixed) = at_home config s m _
by_body config s m PutReq = request config s m (home_of s m.block).transaction _
by_body config s m PutGo = at_cache config s m _ (by_put (logged_at s m.to) (home_node s m.block) m.block (node_at s m.to).now 0)
by_body config s m (PutData content) = at_home config s m _
by_body config s m PutDone = at_cache config s m _ (by_end (logged_at s m.to) 0 m.block 0 0)
by_body config s m (Ready k) = record { good = record { same = λ n b c. refl; others = λ n d. refl } }
by_body config s m (Advance k) = record {
  good = record {
    same = λ n b c. node_alike s m.to (node_after_news (node_at s m.to) k) (λ j. refl) n b;
    others = node_beside s m.to (node_after_news (node_at s m.to) k);
  };
}

-- one that hasn't arrived touches nothing
by_place : (s : Fabric) (l : TouchedLines) (x : FabricStep) (there : Bool) → FollowsLines s x.fabric (Some l) →
    FollowsLines s (if not there then step_refused s NotArrived else x).fabric (if there then Some l else None)
by_place s l x true follows = follows
by_place s l x false follows = λ n b. refl

whole_delivery : (config : Config) (s : Fabric) (f : Flight) →
    FollowsMessage s f.message
    (if nat_lt (node_at s f.message.to).now f.message.tag then step_refused s Held
    else delivers config s f.message (outcome_of s f.message f.message.body))
whole_delivery config s f =
    either (FollowsMessage s f.message) (nat_lt (node_at s f.message.to).now f.message.tag) (step_refused s Held)
    (delivers config s f.message (outcome_of s f.message f.message.body)) (kept_back s f.message Held)
    (by_body config s f.message f.message.body).good

pub delivery-owners : (config : Config) (s : Fabric) (f : Option Flight) →
    FollowsLines s (delivers_flight config s f).fabric (lines_of_flight s f)
delivery-owners config s None = λ n b. refl
delivery-owners config s (Some f) = by_place s (lines_at s f.message) _ (is_there f) (whole_delivery config s f).same

-- and all nodes but the receiver are as they were
abbrev pub SameUnreached : Fabric → Fabric → Reach → Type 0
SameUnreached s t reach = (n : ℕ) → is_reached reach n ≡ false → node_at t n ≡ node_at s n

pub one-reached : (s t : Fabric) (k : ℕ) → SameNodesBut s k t → SameUnreached s t (One k)
one-reached s t k same n other = same n (λ is. eqb-false k n other (sym is))

others_by_place : (s : Fabric) (l : TouchedLines) (x : FabricStep) (there : Bool) → SameNodesBut s l.node x.fabric →
    SameUnreached s (if not there then step_refused s NotArrived else x).fabric (reach_of_lines (if there then Some l else None))
others_by_place s l x true same = one-reached s x.fabric l.node same
others_by_place s l x false same = λ n other. refl

pub delivery-others : (config : Config) (s : Fabric) (f : Option Flight) →
    SameUnreached s (delivers_flight config s f).fabric (reach_of_lines (lines_of_flight s f))
delivery-others config s None = λ n other. refl
delivery-others config s (Some f) = others_by_place s (lines_at s f.message) _ (is_there f) (whole_delivery config s f).others
