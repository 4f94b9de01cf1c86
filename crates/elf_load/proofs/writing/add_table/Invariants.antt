use Rattle.std.proofs.Common.{◌≡◌, ◌≤◌, ◌+◌, ◌*◌, ◌++◌, drop}
use Rattle.elf_load.specs.Writing.{table_from}
use Rattle.elf_load.proofs.writing.add_table.Given as goal

abbrev pub invariant-segments : goal.invariant-segments
invariant-segments l = record {
  same : l.file.items ++ table_from (drop l.segment-index l.segments) l.place ≡ l.initial.file.items
      ++ table_from l.segments l.initial.place;
  near : l.place ≤ 4096 + 4194304 * l.segment-index;
}
