-- The frames while a recovery begins: those whose lines are Shared are freed, and each line that is left is Modified. A frame that
-- wasn't touched since the last recovery is so already.
use Rattle.std.specs.Prelude.{◌≡◌, ℕ, Bool, false, List, length, Option, Some, None}
use Rattle.touched_places.specs.Touched.{is_marked}
use Rattle.cache_array.specs.Slots.{FrameSlots, AreSlots, block_at}
use Rattle.sn_model.specs.declared.cache.LineState.{LineState}
use Rattle.sn_model.specs.declared.cache.LineState.TheVariants.{Absent, Shared, Owned, Modified, Exclusive}
use Rattle.mosi_cache.specs.Frames.{FrameLine, kept_at}

-- a slot once it is freed where the line in it is Shared
abbrev pub slot_unless_shared : LineState → Option ℕ → Option ℕ
slot_unless_shared Absent slot = slot
slot_unless_shared Shared slot = None
slot_unless_shared Owned slot = slot
slot_unless_shared Modified slot = slot
slot_unless_shared Exclusive slot = slot

-- what a frame keeps, as Modified
abbrev pub as_modified : FrameLine → FrameLine
as_modified kept = record kept { state = Modified }

-- frames after others: each is freed where what it keeps is Shared, and what is kept of a block that has one still is as it was, as Modified
pub record AreUnshared (before after : FrameSlots) (kept left : List FrameLine) : Type 0 where
  pub slots : AreSlots after
  pub sets : after.sets ≡ before.sets
  pub ways : after.ways ≡ before.ways
  pub whole : length left ≡ length kept
  pub freed : (frame : ℕ) → block_at after frame ≡ slot_unless_shared (kept_at kept frame).state (block_at before frame)
  pub modified : (frame block : ℕ) → block_at after frame ≡ Some block → kept_at left frame ≡ as_modified (kept_at kept frame)

-- each frame is marked, or it is free, or the line in it is Modified
pub record AreSettled (marks : List Bool) (frames : FrameSlots) (kept : List FrameLine) : Type 0 where
  pub whole : length marks ≡ length kept
  pub others : (frame block : ℕ) → is_marked marks frame ≡ false → block_at frames frame ≡ Some block → (kept_at kept frame).state ≡ Modified
