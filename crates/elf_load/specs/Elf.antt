-- ELF files: the file header, the program headers and the segments that these load. Places are from the file's start.
use Rattle.std.specs.Prelude.{ℕ, zero, suc, ◌+◌, ◌*◌, ◌%◌, Bool, true, false, not, ◌&&◌, ◌==◌, nat_eq, nat_le, nat_lt, min, max}
use Rattle.std.specs.Prelude.{if◌then◌else◌, List, [], ◌∷◌, ◌++◌, length, get_or, take, drop, map, filter, position, Option, Some, None}
use Rattle.std.specs.Prelude.{Result, Ok, Err}
use Rattle.std.specs.Int.RustNames.{bit_and}
use Rattle.byteorder.specs.Endian.{little_number}
use Rattle.sn_base.specs.Blocks.{ram_start, ram_size}
use Rattle.sn_base.specs.Image.{SegmentData, ImageData, all_executable}
use Rattle.elf_load.specs.declared.fault.Field.{Field}
use Rattle.elf_load.specs.declared.fault.Field.TheVariants.{Magic, Class, Order, IdentVersion, FileKind, Machine, Version, PhEntSize}
use Rattle.elf_load.specs.declared.fault.LoadCause.{LoadCause}
use Rattle.elf_load.specs.declared.fault.LoadCause.TheVariants.{Truncated, WrongField, Compressed, TooManySegments, FileLargerThanMemory}
use Rattle.elf_load.specs.declared.fault.LoadCause.TheVariants.{Outside, Overlap, WritableCode, BadEntry}
use Rattle.elf_load.specs.declared.program_header.ProgramHeader.{ProgramHeader}

-- what a step of loading says: that it passes, or why it refuses
abbrev pub Step : Type 0
Step = Result (Unit {0}) LoadCause

-- a step that refuses where a test holds
abbrev pub refuse_if : Bool → LoadCause → Step
refuse_if true cause = Err cause
refuse_if false cause = Ok tt

-- the first refusal of steps that are tried in order
abbrev pub first_refusal : List Step → Step
first_refusal [] = Ok tt
first_refusal (Err cause ∷ steps) = Err cause
first_refusal (Ok passed ∷ steps) = first_refusal steps

-- the numbers of 8, 16 and 32 bits at a place
abbrev pub byte_at : List ℕ → ℕ → ℕ
byte_at bytes place = get_or bytes place 0

abbrev pub half_at : List ℕ → ℕ → ℕ
half_at bytes place = little_number 2 (drop place bytes)

abbrev pub word_at : List ℕ → ℕ → ℕ
word_at bytes place = little_number 4 (drop place bytes)

-- the file reaches to a place
abbrev pub reaches : List ℕ → ℕ → Step
reaches bytes end = refuse_if (nat_lt (length bytes) end) (Truncated end (length bytes))

-- a field of the file header is as it has to be
abbrev pub is_field : Field → ℕ → ℕ → Step
is_field field wanted value = refuse_if (not (nat_eq value wanted)) (WrongField field value)

-- the fields that say that the file is a 32-bit RISC-V executable, lowest byte first
unfoldable pub identity : List ℕ → Step
identity bytes = first_refusal (
    is_field Magic 0x464c_457f (word_at bytes 0) ∷
    is_field Class 1 (byte_at bytes 4) ∷
    is_field Order 1 (byte_at bytes 5) ∷
    is_field IdentVersion 1 (byte_at bytes 6) ∷
    is_field FileKind 2 (half_at bytes 16) ∷
    is_field Machine 243 (half_at bytes 18) ∷
    is_field Version 1 (word_at bytes 20) ∷
    is_field PhEntSize 32 (half_at bytes 42) ∷ [])

-- the other numbers of the file header: the entry, the place of the program headers, the flags, how many headers
abbrev pub entry_of : List ℕ → ℕ
entry_of bytes = word_at bytes 24

abbrev pub table_place : List ℕ → ℕ
table_place bytes = word_at bytes 28

abbrev pub file_flags : List ℕ → ℕ
file_flags bytes = word_at bytes 36

abbrev pub header_count : List ℕ → ℕ
header_count bytes = half_at bytes 44

-- the program header at a place
unfoldable pub header_at : List ℕ → ℕ → ProgramHeader
header_at bytes place = record {
  kind = word_at bytes place;
  offset = word_at bytes (place + 4);
  address = word_at bytes (place + 8);
  file_size = word_at bytes (place + 16);
  memory_size = word_at bytes (place + 20);
  flags = word_at bytes (place + 24);
}

-- the first n program headers of a table at a place
unfoldable pub first_headers : ℕ → List ℕ → ℕ → List ProgramHeader
first_headers zero bytes place = []
first_headers (suc n) bytes place = first_headers n bytes place ++ header_at bytes (place + 32 * n) ∷ []

abbrev pub headers_of : List ℕ → List ProgramHeader
headers_of bytes = first_headers (header_count bytes) bytes (table_place bytes)

-- a header of type LOAD that takes memory
abbrev pub loads : ProgramHeader → Bool
loads h = nat_eq h.kind 1 && not (nat_eq h.memory_size 0)

abbrev pub is_executed : ProgramHeader → Bool
is_executed h = bit_and h.flags 1 == 1

abbrev pub is_written : ProgramHeader → Bool
is_written h = bit_and h.flags 2 == 2

-- the segment that a header loads
abbrev pub segment_of : List ℕ → ProgramHeader → SegmentData
segment_of bytes h = record {
  start = h.address;
  size = h.memory_size;
  bytes = take h.file_size (drop h.offset bytes);
  write = is_written h;
  exec = is_executed h;
}

-- the segments that headers load
abbrev pub segments_of : List ℕ → List ProgramHeader → List SegmentData
segments_of bytes headers = map (segment_of bytes) (filter loads headers)

-- the segment lies in memory
abbrev pub is_inside : ProgramHeader → Bool
is_inside h = nat_le ram_start h.address && nat_le (h.address + h.memory_size) (ram_start + ram_size)

-- the two segments share a byte
abbrev pub shares : ProgramHeader → ProgramHeader → Bool
shares g h = nat_lt (max g.address h.address) (min (g.address + g.memory_size) (h.address + h.memory_size))

-- no earlier segment shares a byte with the header's
abbrev pub is_apart : Option ℕ → ℕ → Step
is_apart None number = Ok tt
is_apart (Some earlier) number = Err (Overlap earlier number)

-- a header that loads a segment is tried, after the headers before it
unfoldable pub header_step : List ℕ → List ProgramHeader → ProgramHeader → Step
header_step bytes earlier h =
    let number = length earlier in
    first_refusal (
    refuse_if (nat_lt h.memory_size h.file_size) (FileLargerThanMemory number) ∷
    reaches bytes (h.offset + h.file_size) ∷
    refuse_if (not (is_inside h)) (Outside number) ∷
    refuse_if (is_executed h && is_written h) (WritableCode number) ∷
    is_apart (position (λ g. loads g && shares g h) earlier) number ∷ [])

-- the headers that load segments are tried in order, after those before them
unfoldable pub table_step : List ℕ → List ProgramHeader → List ProgramHeader → Step
table_step bytes earlier [] = Ok tt
table_step bytes earlier (h ∷ headers) = first_refusal (
    (if loads h then header_step bytes earlier h else Ok tt) ∷
    table_step bytes (earlier ++ h ∷ []) headers ∷ [])

-- the entry is where an instruction can be
abbrev pub is_entry : List SegmentData → ℕ → Bool
is_entry segments entry = nat_eq (entry % 4) 0 && all_executable 4 segments entry

-- the steps by which an ELF file is tried
unfoldable pub elf_step : List ℕ → Step
elf_step bytes =
    let count = header_count bytes in
    first_refusal (
    reaches bytes 52 ∷
    identity bytes ∷
    refuse_if (bit_and (file_flags bytes) 1 == 1) Compressed ∷
    refuse_if (nat_lt 64 count) (TooManySegments count) ∷
    reaches bytes (table_place bytes + 32 * count) ∷
    table_step bytes [] (headers_of bytes) ∷
    refuse_if (not (is_entry (segments_of bytes (headers_of bytes)) (entry_of bytes))) (BadEntry (entry_of bytes)) ∷ [])

-- an image where the steps pass
abbrev pub image_of_step : Step → ImageData → Result ImageData LoadCause
image_of_step (Err cause) image = Err cause
image_of_step (Ok passed) image = Ok image

-- the image that an ELF file is
abbrev pub elf_image : List ℕ → Result ImageData LoadCause
elf_image bytes = image_of_step (elf_step bytes) (record { segments = segments_of bytes (headers_of bytes); entry = entry_of bytes })
