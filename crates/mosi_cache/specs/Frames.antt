-- The lines of a cache by their frames: what each frame keeps, and the map from blocks that the frames stand for.
use Rattle.std.specs.Prelude.{◌≡◌, ℕ, ◌<◌, ◌≤◌, ◌%◌, Bool, true, false, not, ◌&&◌, nat_eq, min, if◌then◌else◌, List, [], length, map}
use Rattle.std.specs.Prelude.{slice_index_or, Option, Some, None}
use Rattle.std.specs.List.{range_with_len}
use Rattle.cache_array.specs.Slots.{FrameSlots, AreSlots, block_at, frame_of}
use Rattle.sn_model.specs.declared.cache.LineState.{LineState}
use Rattle.sn_model.specs.declared.cache.LineState.TheVariants.{Absent, Shared, Owned, Modified, Exclusive}
use Rattle.sn_model.specs.declared.cache.Need.{Need}
use Rattle.sn_model.specs.CacheRows.{line_when_done}
use Rattle.sn_model.specs.Caches.{Line, no_line, line_at, cache_of_lines, is_present, block_count, frames_taken}
pub use Rattle.mosi_cache.specs.declared.lines.FrameLine.{FrameLine}

-- the lines that a cache keeps, and how they are divided
pub record LinesData : Type 0 where
  pub lines : List Line
  pub sets : ℕ
  pub ways : ℕ

-- a block of memory has a line, or its set has a frame for one
abbrev pub HasFrame : LinesData → ℕ → Type 0
HasFrame d block =
    block < block_count → is_present (line_at d.lines block).state ≡ false → frames_taken (cache_of_lines d.lines) d.sets block < d.ways

-- a line when the miss on its block is complete
abbrev pub line_after_miss : Line → Need → Line
line_after_miss l need = record l { state = line_when_done l.state need }

-- what a frame keeps
abbrev pub kept_at : List FrameLine → ℕ → FrameLine
kept_at kept frame = slice_index_or kept frame (record { state = Absent; content = [] })

abbrev pub line_kept : FrameLine → Line
line_kept k = record { state = k.state; content = k.content }

-- the line of a block that has this frame, or none
abbrev pub line_in_frame : List FrameLine → Option ℕ → Line
line_in_frame kept None = no_line
line_in_frame kept (Some frame) = line_kept (kept_at kept frame)

-- the line of a block: what its frame keeps
abbrev pub line_in : FrameSlots → List FrameLine → ℕ → Line
line_in frames kept block = line_in_frame kept (frame_of frames block)

-- the lines of all blocks, in order of their numbers
unfoldable pub lines_of : FrameSlots → List FrameLine → List Line
lines_of frames kept = map (line_in frames kept) (range_with_len 0 block_count)

-- frames and what they keep as they may be: each frame keeps something, a block that has one is of memory, and has a line
pub record AreLines (frames : FrameSlots) (kept : List FrameLine) : Type 0 where
  pub slots : AreSlots frames
  pub whole : length kept ≡ length frames.slots
  pub inside : (frame block : ℕ) → block_at frames frame ≡ Some block → block < block_count
  pub present : (frame block : ℕ) → block_at frames frame ≡ Some block → is_present (kept_at kept frame).state ≡ true

-- the least block that may leave its set

-- whether a block is the one that is spared
abbrev pub is_spared : Option ℕ → ℕ → Bool
is_spared None block = false
is_spared (Some spared) block = nat_eq spared block

-- whether a line in this state may leave: a Shared one always, one that owns its block where that is asked for
abbrev pub may_leave : Bool → LineState → Bool
may_leave owned_too Absent = false
may_leave owned_too Shared = true
may_leave owned_too Owned = owned_too
may_leave owned_too Modified = owned_too
may_leave owned_too Exclusive = owned_too

-- whether a block with this line may leave a set
abbrev pub leaves : ℕ → ℕ → Option ℕ → Bool → ℕ → LineState → Bool
leaves sets set spared owned_too block state = nat_eq (block % sets) set && (not (is_spared spared block) && may_leave owned_too state)

-- the lesser of two blocks that may be there
abbrev pub lesser_of : Option ℕ → Option ℕ → Option ℕ
lesser_of None o = o
lesser_of (Some a) None = Some a
lesser_of (Some a) (Some b) = Some (min a b)

-- the block in a frame, where it isn't spared and its line may leave
abbrev pub leaving_by : Option ℕ → Bool → LineState → Option ℕ → Option ℕ
leaving_by spared owned_too state None = None
leaving_by spared owned_too state (Some block) = if not (is_spared spared block) && may_leave owned_too state then Some block else None

abbrev pub leaving_at : FrameSlots → List FrameLine → Option ℕ → Bool → ℕ → Option ℕ
leaving_at frames kept spared owned_too frame = leaving_by spared owned_too (kept_at kept frame).state (block_at frames frame)

-- the least of the blocks that these frames give, or that they give none
abbrev pub IsLeastLeaving : (ℕ → Option ℕ) → ℕ → ℕ → Option ℕ → Type 0
IsLeastLeaving leaving first end None = (frame : ℕ) → first ≤ frame → frame < end → leaving frame ≡ None
IsLeastLeaving leaving first end (Some least) =
    ((frame : ℕ) × ((first ≤ frame) × (frame < end) × (leaving frame ≡ Some least)))
    × ((frame block : ℕ) → first ≤ frame → frame < end → leaving frame ≡ Some block → least ≤ block)
