use Rattle.std.proofs.Common.{◌≡◌, ◌++◌, take}
use Rattle.elf_load.specs.Writing.{words}
use Rattle.elf_load.proofs.writing.add_words.Given as goal

abbrev pub invariant-numbers : goal.invariant-numbers
invariant-numbers l = l.file.items ≡ l.initial.file.items ++ words (take l.number-index l.numbers)
