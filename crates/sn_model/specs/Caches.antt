-- A cache as a value: its lines, its open miss and its open put. A map from blocks is a list in order of block numbers.
use Rattle.std.specs.Prelude.{ℕ, zero, suc, ◌+◌, ◌≤◌, ◌%◌, Bool, true, false, ◌&&◌, ◌||◌, nat_eq, if◌then◌else◌, List, [], slice_index_or}
use Rattle.std.specs.Prelude.{slice_set, replicate, Option, Some, None}
use Rattle.sn_base.specs.declared.limits.TheConstants.{BLOCKS}
use Rattle.sn_model.specs.declared.cache.LineState.{LineState}
use Rattle.sn_model.specs.declared.cache.LineState.TheVariants.{Absent, Shared, Owned, Modified, Exclusive}
use Rattle.sn_model.specs.declared.cache.Need.{Need}

-- a line of a block: its state and, where it isn't absent, its 64 bytes
pub record Line : Type 0 where
  pub state : LineState
  pub content : List ℕ

-- the open miss: the block and what is needed of it, the interval in which it was issued, the interval of atomicity once
-- the answer is there, how many acknowledgements are due, and how many are in
pub record Miss : Type 0 where
  pub block : ℕ
  pub need : Need
  pub issued : ℕ
  pub fixed : Option ℕ
  pub due : ℕ
  pub acks : ℕ

-- the open put: the block, and the interval in which it was issued
pub record Put : Type 0 where
  pub block : ℕ
  pub issued : ℕ

pub record Cache : Type 0 where
  pub lines : List Line
  pub miss : Option Miss
  pub put : Option Put

-- how many blocks memory has
abbrev pub block_count : ℕ
block_count = BLOCKS

abbrev pub no_line : Line
no_line = record { state = Absent; content = [] }

-- a cache without a line
unfoldable pub empty_lines : List Line
empty_lines = replicate block_count no_line

abbrev pub empty_cache : Cache
empty_cache = record { lines = empty_lines; miss = None; put = None }

-- a cache of these lines, with nothing open
abbrev pub cache_of_lines : List Line → Cache
cache_of_lines lines = record { lines = lines; miss = None; put = None }

-- the line of a block among lines, and in a cache
abbrev pub line_at : List Line → ℕ → Line
line_at lines block = slice_index_or lines block no_line

abbrev pub line_of : Cache → ℕ → Line
line_of cache block = slice_index_or cache.lines block no_line

abbrev pub with_line : Cache → ℕ → LineState → List ℕ → Cache
with_line cache block state content = record cache { lines = slice_set cache.lines block (record { state = state; content = content }) }

abbrev pub without_line : Cache → ℕ → Cache
without_line cache block = record cache { lines = slice_set cache.lines block no_line }

abbrev pub is_present : LineState → Bool
is_present Absent = false
is_present Shared = true
is_present Owned = true
is_present Modified = true
is_present Exclusive = true

-- whether a line owns its block
abbrev pub is_owned : LineState → Bool
is_owned Absent = false
is_owned Shared = false
is_owned Owned = true
is_owned Modified = true
is_owned Exclusive = true

-- whether a line may be written without a message
abbrev pub is_writable_state : LineState → Bool
is_writable_state Absent = false
is_writable_state Shared = false
is_writable_state Owned = false
is_writable_state Modified = true
is_writable_state Exclusive = true

abbrev pub misses_on : Option Miss → ℕ → Bool
misses_on None block = false
misses_on (Some miss) block = nat_eq miss.block block

abbrev pub puts_on : Option Put → ℕ → Bool
puts_on None block = false
puts_on (Some put) block = nat_eq put.block block

-- whether a block takes a frame of its set: it has a line, or the miss is open on it
abbrev pub takes_frame : Cache → ℕ → Bool
takes_frame cache block = is_present (line_of cache block).state || misses_on cache.miss block

-- how many of the first blocks take a frame of a set
abbrev pub frames_below : ℕ → Cache → ℕ → ℕ → ℕ
frames_below zero cache sets set = 0
frames_below (suc block) cache sets set =
    frames_below block cache sets set + (if nat_eq (block % sets) set && takes_frame cache block then 1 else 0)

-- how many frames of the set of a block are taken
unfoldable pub frames_taken : Cache → ℕ → ℕ → ℕ
frames_taken cache sets block = frames_below block_count cache sets (block % sets)

-- in no set more frames are taken than it has ways
abbrev pub FitsSets : Cache → ℕ → ℕ → Type 0
FitsSets cache sets ways = (block : ℕ) → frames_taken cache sets block ≤ ways
