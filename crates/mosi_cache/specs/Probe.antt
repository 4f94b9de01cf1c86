-- What a controller says of an access and of an eviction, and what it does then. The network's room is not its business.
use Rattle.std.specs.Prelude.{ℕ, ◌%◌, Bool, true, false, not, ◌&&◌, nat_eq, nat_lt, nat_le, min, if◌then◌else◌, List, length, Option, Some}
use Rattle.std.specs.Prelude.{None}
use Rattle.sn_base.specs.declared.block.Write.{Write}
use Rattle.sn_base.specs.declared.event.Answer.{Answer}
use Rattle.sn_base.specs.declared.event.Answer.TheVariants.{Evicted, PutBegun, NotCached, PutOpen, MissOpen}
use Rattle.sn_base.specs.declared.log.LogEntry.{LogEntry}
use Rattle.sn_base.specs.declared.log.Old.TheVariants.{Owned as WasOwned}
use Rattle.log_buffer.specs.Log.{LogData, log_with_note}
use Rattle.rv_core.specs.Core.{block_of}
use Rattle.sn_model.specs.declared.cache.LineState.{LineState}
use Rattle.sn_model.specs.declared.cache.LineState.TheVariants.{Absent, Shared, Owned, Modified, Exclusive}
use Rattle.sn_model.specs.declared.cache.Need.{Need}
use Rattle.sn_model.specs.declared.cache.Need.TheVariants.{Read, Write as ToWrite}
use Rattle.sn_model.specs.Caches.{Cache, Miss, Put, line_of, with_line, is_present, is_writable_state, misses_on, puts_on, frames_taken}
use Rattle.sn_model.specs.Access.{new_miss, written_to}
use Rattle.sn_model.specs.NodeEvents.{has_put}
use Rattle.mosi_cache.specs.declared.step.AccessProbe.{AccessProbe}
use Rattle.mosi_cache.specs.declared.step.AccessProbe.TheVariants.{Ready, Waits, Miss as NeedsMiss, NeedsEvict, LogFull}
use Rattle.mosi_cache.specs.Controller.{CacheData}

-- an access

-- the log after the block's content is noted as owned
abbrev pub log_with : CacheData → List LogEntry → ℕ → ℕ → List LogEntry
log_with c entries block now = log_with_note entries now block (WasOwned (line_of c.cache block).content)

abbrev pub probe_miss : CacheData → ℕ → AccessProbe
probe_miss c block =
    if not (is_present (line_of c.cache block).state) && nat_le c.ways (frames_taken c.cache c.sets block) then NeedsEvict else NeedsMiss

-- the first of the step's tests that applies, from the open put on
abbrev pub probe_by : CacheData → LogData → ℕ → ℕ → Need → AccessProbe
probe_by c log block now Read =
    if puts_on c.cache.put block then Waits
    else if is_present (line_of c.cache block).state then Ready
    else probe_miss c block
probe_by c log block now ToWrite =
    if puts_on c.cache.put block then Waits
    else if is_writable_state (line_of c.cache block).state
    then (if nat_lt log.limit (length (log_with c log.entries block now)) then LogFull else Ready)
    else probe_miss c block

-- the cache with a miss that was just issued
abbrev pub with_miss : CacheData → ℕ → Need → ℕ → CacheData
with_miss c block need now = record c { cache = record c.cache { miss = Some (new_miss block need now) } }

-- the cache after a write to a line that may be written
abbrev pub cache_after_write : CacheData → Write → CacheData
cache_after_write c w =
    record c { cache = written_to (with_line c.cache (block_of w.address) Modified (line_of c.cache (block_of w.address)).content) w }

-- an eviction

abbrev pub evict_line : Option Put → LineState → Answer
evict_line put Absent = NotCached
evict_line put Shared = Evicted
evict_line put Owned = if has_put put then PutOpen else PutBegun
evict_line put Modified = if has_put put then PutOpen else PutBegun
evict_line put Exclusive = if has_put put then PutOpen else PutBegun

abbrev pub evict_by : Cache → ℕ → Answer
evict_by cache block = if misses_on cache.miss block then MissOpen else evict_line cache.put (line_of cache block).state

-- the cache with a put that was just issued
abbrev pub with_put : CacheData → ℕ → ℕ → CacheData
with_put c block now = record c { cache = record c.cache { put = Some (record { block = block; issued = now }) } }

-- whether an answer lets a line go: at once, or, where puts may begin, by a put
abbrev pub lets_go : Bool → Answer → Bool
lets_go puts Evicted = true
lets_go puts PutBegun = puts
lets_go puts _ = false

-- whether a block of the set of another may go
abbrev pub may_go : CacheData → ℕ → Bool → ℕ → Bool
may_go c block puts candidate = nat_eq (candidate % c.sets) (block % c.sets) && lets_go puts (evict_by c.cache candidate)

-- the least interval in which something that is open was issued
abbrev pub least_open_of : Option Miss → Option Put → Option ℕ
least_open_of None None = None
least_open_of (Some miss) None = Some miss.issued
least_open_of None (Some put) = Some put.issued
least_open_of (Some miss) (Some put) = Some (min miss.issued put.issued)
