use Rattle.std.proofs.Common.{◌≡◌, vec_len}
use Rattle.elf_load.specs.Elf.{first_headers}
use Rattle.elf_load.proofs.program_header.read_headers.Given as goal

abbrev pub invariant-headers : goal.invariant-headers
invariant-headers l = record {
  same : l.headers.items ≡ first_headers l.i l.bytes l.place;
  counted : vec_len l.headers ≡ l.i;
}
