use Rattle.elf_load.proofs.Table.{IsTriedTo}
use Rattle.elf_load.proofs.program_header.read_segments.Given as goal

abbrev pub invariant-headers : goal.invariant-headers
invariant-headers l = IsTriedTo l.bytes l.headers l.segments.items l.number
