-- What a block sees of a row of a cache: at the node the new line, miss and put, and what its log says; else what it saw.
use Rattle.std.specs.Prelude.{◌≡◌, ℕ, Bool, true, false, cond, List}
use Rattle.sn_msg.specs.declared.Message.{Message}
use Rattle.log_buffer.specs.Log.{LogEntry, logged_to}
use Rattle.sn_model.specs.Caches.{Line, is_owned}
use Rattle.sn_model.specs.declared.cache.Out.{Out}
use Rattle.sn_model.specs.CacheRows.{CacheReply}
use Rattle.sn_model.specs.Fabric.{Fabric, node_at}
use Rattle.sn_model.specs.Net.{message_of}
use Rattle.sn_coherence.specs.Block.{Block, Content, Message as Seen, no_message, set, set_row}
use Rattle.sn_coherence.specs.OtherEvents.{end_miss_elsewhere}
use Rattle.sn_coherence.specs.Same.{IsSame}
use Rattle.sn_coherence.specs.Log.{was_owned, old_content, was_home, old_cache, told_at}
use Rattle.fabric_coherence.specs.View.{GhostState, block_seen, line_seen, content_held, miss_seen, put_seen, put_issued, net_seen}
use Rattle.fabric_coherence.specs.View.{message_seen}
use Rattle.fabric_coherence.specs.Steps.{after_cache, ghost_with, losing, lost_at_once, elsewhere}

abbrev pub cache_seen : Fabric → GhostState → Message → CacheReply → Line → ℕ → Block
cache_seen s t m reply line o = record (block_seen s t o) {
  line = set (block_seen s t o).line m.to (line_seen line.state);
  content = set (block_seen s t o).content m.to line.content;
  miss = set (block_seen s t o).miss m.to (miss_seen o reply.after.cache.miss);
  putting = set (block_seen s t o).putting m.to (put_seen o reply.after.cache.put);
  put_issued = set (block_seen s t o).put_issued m.to (put_issued reply.after.cache.put);
  net = net_seen o (after_cache s m reply).fabric.net.flights;
  next = (after_cache s m reply).fabric.net.next_id;
  holds = set_row (block_seen s t o).holds m.to (told_at was_owned reply.after.log false o (is_owned line.state));
  held = set_row (block_seen s t o).held m.to (told_at old_content reply.after.log false o (content_held line));
  last = set (block_seen s t o).last m.to (logged_to reply.after.log false o);
}

-- a log says of the home's side of a block what it said before
pub record KeepsHomeSide (before after : List LogEntry) (o : ℕ) : Type 0 where
  pub home : (was : Bool) (j : ℕ) → told_at was_home after true o was j ≡ told_at was_home before true o was j
  pub cache : (was j : ℕ) → told_at old_cache after true o was j ≡ told_at old_cache before true o was j
  pub content : (was : Content) (j : ℕ) → told_at old_content after true o was j ≡ told_at old_content before true o was j
  pub newest : logged_to after true o ≡ logged_to before true o

-- the fields that a row of a cache may change
abbrev pub with_row : Block → Block → Block
with_row block row = record block {
  line = row.line;
  content = row.content;
  miss = row.miss;
  putting = row.putting;
  put_issued = row.put_issued;
  net = row.net;
  next = row.next;
  holds = row.holds;
  held = row.held;
  last = row.last;
  stage = row.stage;
  at = row.at;
  waited = row.waited;
}

-- of these, the ones that the fabric has
pub record IsRow (a b : Block) : Type 0 where
  pub line : (n : ℕ) → a.line n ≡ b.line n
  pub content : (n : ℕ) → a.content n ≡ b.content n
  pub miss : (n : ℕ) → a.miss n ≡ b.miss n
  pub putting : (n : ℕ) → a.putting n ≡ b.putting n
  pub put_issued : (n : ℕ) → a.put_issued n ≡ b.put_issued n
  pub net : (i : ℕ) → a.net i ≡ b.net i
  pub next : a.next ≡ b.next
  pub holds : (n j : ℕ) → a.holds n j ≡ b.holds n j
  pub held : (n j : ℕ) → a.held n j ≡ b.held n j
  pub last : (n : ℕ) → a.last n ≡ b.last n

-- a reply of a cache is, for its own block, this row of the block
abbrev pub IsOwnRow : Fabric → GhostState → Message → CacheReply → Block → Type 0
IsOwnRow s t m reply row =
    IsSame (block_seen (after_cache s m reply).fabric (ghost_with t m.block row) m.block)
    (losing row (lost_at_once (after_cache s m reply).sent))

-- the net with a message of the block taken, and one sent by its receiver
abbrev pub net_answered : Fabric → GhostState → Message → Out → ℕ → Seen
net_answered s t m out =
    set (set (block_seen s t m.block).net m.id no_message) s.net.next_id
    (message_seen (message_of s.net m.to (node_at s m.to).now m.block out) out.body)

-- a log says of the cache's side of a block what it said before
pub record KeepsCacheSide (before after : List LogEntry) (o : ℕ) : Type 0 where
  pub owned : (was : Bool) (j : ℕ) → told_at was_owned after false o was j ≡ told_at was_owned before false o was j
  pub content : (was : Content) (j : ℕ) → told_at old_content after false o was j ≡ told_at old_content before false o was j
  pub newest : logged_to after false o ≡ logged_to before false o

-- a reply of a cache that goes with this row of its own block leaves this of block o
abbrev pub IsElsewhere : Fabric → GhostState → Message → CacheReply → Block → ℕ → Block → Type 0
IsElsewhere s t m reply row o block = IsSame (block_seen (after_cache s m reply).fabric (ghost_with t m.block row) o) block

-- another block, where node n's miss is complete or waits for acknowledgements
abbrev pub completed_or_waiting_elsewhere : Block → ℕ → ℕ → Bool → Block
completed_or_waiting_elsewhere block i n complete = cond complete (end_miss_elsewhere (elsewhere block i 1) n) (elsewhere block i 0)
