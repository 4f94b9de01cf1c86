-- Programs: segments of memory and an entry. Two programs are the same where they agree, at each address of memory, on
-- the byte, on whether it may be executed and on whether it may be written, and have the same entry.
use Rattle.std.specs.Prelude.{◌≡◌, ℕ, zero, suc, ◌+◌, ◌-◌, ◌≤◌, ◌%◌, Bool, true, false, not, ◌&&◌, ◌||◌, nat_le, nat_lt, min, max}
use Rattle.std.specs.Prelude.{if◌then◌else◌, List, [], ◌∷◌, length, get_or, All, Option, Some, None, ⊤}
use Rattle.byteorder.specs.Endian.{little_number}
use Rattle.sn_base.specs.Blocks.{ram_start, ram_size}

-- a stretch of memory: the bytes past those that it gives are 0
pub record SegmentData : Type 0 where
  pub start : ℕ
  pub size : ℕ
  pub bytes : List ℕ
  pub write : Bool
  pub exec : Bool

pub record ImageData : Type 0 where
  pub segments : List SegmentData
  pub entry : ℕ

-- whether an address is one of the segment's
abbrev pub covers : SegmentData → ℕ → Bool
covers s address = nat_le s.start address && nat_lt address (s.start + s.size)

-- the byte that a segment gives at an address of its own
abbrev pub byte_in : SegmentData → ℕ → ℕ
byte_in s address = get_or s.bytes (address - s.start) 0

-- the byte that memory begins with: 0 where no segment gives one
abbrev pub byte_at : List SegmentData → ℕ → ℕ
byte_at [] address = 0
byte_at (s ∷ segments) address = if covers s address then byte_in s address else byte_at segments address

-- whether the byte at an address may be executed
abbrev pub is_executable : List SegmentData → ℕ → Bool
is_executable [] address = false
is_executable (s ∷ segments) address = (s.exec && covers s address) || is_executable segments address

-- whether no segment forbids to write at an address
abbrev pub is_unprotected : List SegmentData → ℕ → Bool
is_unprotected [] address = true
is_unprotected (s ∷ segments) address = not (not s.write && covers s address) && is_unprotected segments address

-- whether the byte at an address may be written: it lies in memory, and in no segment that may not be written
abbrev pub is_writable : List SegmentData → ℕ → Bool
is_writable segments address = nat_le ram_start address && nat_lt address (ram_start + ram_size) && is_unprotected segments address

-- the same of the first bytes from an address
abbrev pub all_executable : ℕ → List SegmentData → ℕ → Bool
all_executable zero segments address = true
all_executable (suc n) segments address = is_executable segments address && all_executable n segments (address + 1)

abbrev pub all_writable : ℕ → List SegmentData → ℕ → Bool
all_writable zero segments address = true
all_writable (suc n) segments address = is_writable segments address && all_writable n segments (address + 1)

-- the first bytes from an address
abbrev pub bytes_from : ℕ → List SegmentData → ℕ → List ℕ
bytes_from zero segments address = []
bytes_from (suc n) segments address = byte_at segments address ∷ bytes_from n segments (address + 1)

-- the instruction word at an address, where its four bytes may be executed
abbrev pub word_fetched : List SegmentData → ℕ → Option ℕ
word_fetched segments address = if all_executable 4 segments address then Some (little_number 4 (bytes_from 4 segments address)) else None

-- whether two segments share a byte
abbrev pub overlaps : SegmentData → SegmentData → Bool
overlaps s t = nat_lt (max s.start t.start) (min (s.start + s.size) (t.start + t.size))

-- a segment as it may stand in a program
pub record IsSegment (s : SegmentData) : Type 0 where
  pub above : ram_start ≤ s.start
  pub below : s.start + s.size ≤ ram_start + ram_size
  pub filled : length s.bytes ≤ s.size
  pub protected : (s.write && s.exec) ≡ false

-- no two of the segments share a byte
abbrev pub AreApart : List SegmentData → Type 0
AreApart [] = ⊤
AreApart (s ∷ segments) = All (λ t. overlaps s t ≡ false) segments × AreApart segments

pub record IsImage (segments : List SegmentData) (entry : ℕ) : Type 0 where
  pub each : All IsSegment segments
  pub apart : AreApart segments
  pub aligned : entry % 4 ≡ 0
  pub entered : all_executable 4 segments entry ≡ true
