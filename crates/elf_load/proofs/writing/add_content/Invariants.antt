use Rattle.std.proofs.Common.{◌≡◌, ◌++◌, take}
use Rattle.elf_load.specs.Writing.{content_of}
use Rattle.elf_load.proofs.writing.add_content.Given as goal

abbrev pub invariant-segments : goal.invariant-segments
invariant-segments l = l.file.items ≡ l.initial.file.items ++ content_of (take l.segment-index l.segments)
