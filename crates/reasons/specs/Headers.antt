-- A program header, as far as a reason names it.
use Rattle.std.specs.Prelude.{ℕ, ◌+◌, ◌*◌, nat_lt, if◌then◌else◌, List, length, Option, Some, None}
use Rattle.elf_load.specs.Elf.{word_at, table_place}
use Rattle.reasons.specs.declared.header.Header.{Header}

-- the header at a place
abbrev pub header_at : List ℕ → ℕ → Header
header_at bytes place = record {
  address = word_at bytes (place + 8);
  file_size = word_at bytes (place + 16);
  memory_size = word_at bytes (place + 20);
}

-- the header of a number, where the file has it
unfoldable pub header_of : List ℕ → ℕ → Option Header
header_of bytes number =
    if nat_lt (length bytes) 52 then None
    else if nat_lt (length bytes) (table_place bytes + 32 * number + 32) then None
    else Some (header_at bytes (table_place bytes + 32 * number))
