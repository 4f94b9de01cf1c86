-- Memory and its blocks, as lists of bytes. A number in them has its lowest byte first.
use Rattle.std.specs.Prelude.{ℕ, ◌+◌, List, ◌++◌, length, take, drop}
use Rattle.sn_base.specs.declared.block.Width.{Width}
use Rattle.sn_base.specs.declared.block.Width.TheVariants.{Byte, Half, Word}
use Rattle.sn_base.specs.declared.limits.TheConstants.{RAM_START, RAM_SIZE}

-- the first address of memory, and how many bytes it has
abbrev pub ram_start : ℕ
ram_start = RAM_START

abbrev pub ram_size : ℕ
ram_size = RAM_SIZE

-- how many bytes an access touches
abbrev pub bytes_of : Width → ℕ
bytes_of Byte = 1
bytes_of Half = 2
bytes_of Word = 4

-- a list of bytes with some of them written at a place
abbrev pub stored_in : List ℕ → ℕ → List ℕ → List ℕ
stored_in old place bytes = take place old ++ bytes ++ drop (place + length bytes) old
