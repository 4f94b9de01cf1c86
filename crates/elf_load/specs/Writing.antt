-- ELF files that are written: the file header, a program header for each segment, and then the segments' bytes.
use Rattle.std.specs.Prelude.{◌≡◌, ℕ, ◌+◌, ◌*◌, Bool, true, false, List, [], ◌∷◌, ◌++◌, length, flat_map, Ok}
use Rattle.byteorder.specs.Endian.{little_bytes}
use Rattle.sn_base.specs.Image.{SegmentData, ImageData, byte_at, is_executable, is_writable}
use Rattle.elf_load.specs.Loading.{image_of}

-- two programs agree at each address and have the same entry
pub record IsSameProgram (p q : ImageData) : Type 0 where
  pub bytes : (address : ℕ) → byte_at p.segments address ≡ byte_at q.segments address
  pub executable : (address : ℕ) → is_executable p.segments address ≡ is_executable q.segments address
  pub writable : (address : ℕ) → is_writable p.segments address ≡ is_writable q.segments address
  pub entry : p.entry ≡ q.entry

-- the file is read as the same program
pub record IsReadAs (file : List ℕ) (image : ImageData) : Type 0 where
  pub read : ImageData
  pub accepted : image_of file ≡ Ok read
  pub same : IsSameProgram read image

-- numbers of 16 and of 32 bits as bytes
abbrev pub halves : List ℕ → List ℕ
halves numbers = flat_map (little_bytes 2) numbers

abbrev pub words : List ℕ → List ℕ
words numbers = flat_map (little_bytes 4) numbers

-- e_ident, e_type, e_machine and e_version of a 32-bit RISC-V executable
abbrev pub identity_bytes : List ℕ
identity_bytes = 127 ∷ 69 ∷ 76 ∷ 70 ∷ 1 ∷ 1 ∷ 1 ∷ 0 ∷ 0 ∷ 0 ∷ 0 ∷ 0 ∷ 0 ∷ 0 ∷ 0 ∷ 0 ∷ 2 ∷ 0 ∷ 243 ∷ 0 ∷ 1 ∷ 0 ∷ 0 ∷ 0 ∷ []

-- the file header: the identity; the entry, the place of the program headers, that of the sections' and the flags; the sizes
-- of both headers, the number of program headers, and that there are no sections
abbrev pub file_header : ℕ → ℕ → List ℕ
file_header count entry = identity_bytes ++ words (entry ∷ 52 ∷ 0 ∷ 0 ∷ []) ++ halves (52 ∷ 32 ∷ count ∷ 0 ∷ 0 ∷ 0 ∷ [])

-- what may be done with a segment: all are read
abbrev pub flags_of : Bool → Bool → ℕ
flags_of true exec = 6
flags_of false true = 5
flags_of false false = 4

-- the program header of a segment whose bytes stand at a place
abbrev pub header_bytes : SegmentData → ℕ → List ℕ
header_bytes s place = words (1 ∷ place ∷ s.start ∷ s.start ∷ length s.bytes ∷ s.size ∷ flags_of s.write s.exec ∷ 1 ∷ [])

-- the program headers of segments whose bytes stand one after the other from a place
unfoldable pub table_from : List SegmentData → ℕ → List ℕ
table_from [] place = []
table_from (s ∷ segments) place = header_bytes s place ++ table_from segments (place + length s.bytes)

-- the segments' bytes
abbrev pub content_of : List SegmentData → List ℕ
content_of segments = flat_map (λ s. s.bytes) segments

-- the file of an image
unfoldable pub file_of : ImageData → List ℕ
file_of image =
    let count = length image.segments in
    file_header count image.entry ++ (table_from image.segments (52 + 32 * count) ++ content_of image.segments)
