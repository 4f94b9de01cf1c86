-- The frames of a cache as slots, one for each way of each set: a slot has a block or is free.
use Rattle.std.specs.Prelude.{◌≡◌, ℕ, ◌+◌, ◌*◌, ◌<◌, ◌≤◌, ◌%◌, Bool, false, nat_eq, List, length, slice_index_or, slice_set, slice_range}
use Rattle.std.specs.Prelude.{Option, Some, None, is_some}
use Rattle.std.specs.List.{position, list_all}

-- how many sets there are, of how many ways each, and the slots in order of their frames' numbers
pub record FrameSlots : Type 0 where
  pub sets : ℕ
  pub ways : ℕ
  pub slots : List (Option ℕ)

-- the block in a frame
abbrev pub block_at : FrameSlots → ℕ → Option ℕ
block_at d frame = slice_index_or d.slots frame None

-- the frame of the first way of a block's set
abbrev pub first_of : FrameSlots → ℕ → ℕ
first_of d block = (block % d.sets) * d.ways

-- a frame is of the set of a block
abbrev pub IsOfSet : FrameSlots → ℕ → ℕ → Type 0
IsOfSet d frame block = (first_of d block ≤ frame) × (frame < first_of d block + d.ways)

-- slots as they may be: one for each way of each set, each block in a slot of its own set, and none in two
pub record AreSlots (d : FrameSlots) : Type 0 where
  pub some : 0 < d.sets
  pub whole : length d.slots ≡ d.sets * d.ways
  pub placed : (frame block : ℕ) → block_at d frame ≡ Some block → IsOfSet d frame block
  pub apart : (f g block : ℕ) → block_at d f ≡ Some block → block_at d g ≡ Some block → f ≡ g

-- whether a slot has this block
abbrev pub is_of : ℕ → Option ℕ → Bool
is_of block None = false
is_of block (Some b) = nat_eq b block

-- the frame of a block, where it has one
abbrev pub frame_of : FrameSlots → ℕ → Option ℕ
frame_of d block = position (is_of block) d.slots

-- the slots of the set of a block
abbrev pub ways_of : FrameSlots → ℕ → List (Option ℕ)
ways_of d block = slice_range d.slots (first_of d block) (first_of d block + d.ways)

-- whether all ways of the set of a block are taken
abbrev pub is_full : FrameSlots → ℕ → Bool
is_full d block = list_all is_some (ways_of d block)

-- the slots with a block in a frame, and with a frame that is free
abbrev pub slots_with_block : FrameSlots → ℕ → ℕ → FrameSlots
slots_with_block d frame block = record d { slots = slice_set d.slots frame (Some block) }

abbrev pub slots_without_block : FrameSlots → ℕ → FrameSlots
slots_without_block d frame = record d { slots = slice_set d.slots frame None }
