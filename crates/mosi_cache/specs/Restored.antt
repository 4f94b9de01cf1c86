-- A cache while a recovery unwinds its log: what stands once the recovery begins, what is held of each block, which maps of
-- blocks have room, and what the unwinding leaves as it is.
use Rattle.std.specs.Prelude.{◌≡◌, ℕ, List, length, map, Option, Some, None}
use Rattle.std.specs.List.{range_with_len}
use Rattle.sn_base.specs.declared.log.Old.{Old}
use Rattle.sn_base.specs.declared.log.Old.TheVariants.{NotOwned, Owned, WasHome, WasCache}
use Rattle.sn_model.specs.declared.cache.LineState.{LineState}
use Rattle.sn_model.specs.declared.cache.LineState.TheVariants.{Absent, Shared, Owned as InOwned, Modified, Exclusive}
use Rattle.sn_model.specs.Caches.{Line, Cache, no_line, line_of, block_count, line_at, FitsSets}
use Rattle.sn_model.specs.Cuts.{owned_content}
use Rattle.sn_model.specs.PointEvents.{restored_line}
use Rattle.mosi_cache.specs.Controller.{CacheData}

-- a line once a recovery begins: one that owns its block is Modified, and any other is gone
abbrev pub begun_line : Line → Line
begun_line line = restored_line (owned_content line line.state)

-- a cache once a recovery begins: it has the lines that it owns, and nothing is open
abbrev pub begun_restore : Cache → Cache
begun_restore cache = record { lines = map begun_line cache.lines; miss = None; put = None }

-- an owned content as a log says it
abbrev pub old_of : Option (List ℕ) → Old
old_of None = NotOwned
old_of (Some content) = Owned content

-- what a controller holds of a block
abbrev pub held_of : CacheData → ℕ → Old
held_of c block = old_of (owned_content (line_of c.cache block) (line_of c.cache block).state)

-- the line where it is a Shared copy, or else none
abbrev pub shared_copy : Line → LineState → Line
shared_copy line Absent = no_line
shared_copy line Shared = line
shared_copy line InOwned = no_line
shared_copy line Modified = no_line
shared_copy line Exclusive = no_line

-- the line of a block of which so much is held, where this line was: what is held is Modified; a Shared copy that isn't, stays
abbrev pub line_holding : Line → Old → Line
line_holding line (Owned content) = record { state = Modified; content = content }
line_holding line NotOwned = shared_copy line line.state
line_holding line (WasHome content) = shared_copy line line.state
line_holding line (WasCache node) = shared_copy line line.state

unfoldable pub lines_holding : List Line → (ℕ → Old) → List Line
lines_holding lines held = map (λ block. line_holding (line_at lines block) (held block)) (range_with_len 0 block_count)

-- the cache if it held so much of each block, beside its Shared copies and its miss
abbrev pub cache_holding : Cache → (ℕ → Old) → Cache
cache_holding cache held = record cache { lines = lines_holding cache.lines held }

-- a map of what is held of each block fits a controller: the cache that holds so much has no set with more frames taken than ways
abbrev pub HeldFits : CacheData → (ℕ → Old) → Type 0
HeldFits c held = FitsSets (cache_holding c.cache held) c.sets c.ways

-- each line is as the beginning of a recovery leaves it: Modified, or not there
abbrev pub HasOnlyModified : Cache → Type 0
HasOnlyModified cache = (block : ℕ) → begun_line (line_of cache block) ≡ line_of cache block

-- what an unwinding leaves of a controller as it is: all but its lines, and of these that each is Modified or not there
pub record StaysAsItIs (before after : CacheData) : Type 0 where
  pub node : after.node ≡ before.node
  pub nodes : after.nodes ≡ before.nodes
  pub sets : after.sets ≡ before.sets
  pub ways : after.ways ≡ before.ways
  pub blocks : length after.cache.lines ≡ length before.cache.lines
  pub miss : after.cache.miss ≡ before.cache.miss
  pub put : after.cache.put ≡ before.cache.put
  pub begun : HasOnlyModified before.cache → HasOnlyModified after.cache
