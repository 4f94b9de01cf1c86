use Rattle.std.proofs.Common.{◌≡◌, ◌≤◌, ◌+◌, ◌%◌, [], length, vec_len}
use Rattle.text_lines.specs.Lines.{lines_of}
use Rattle.elf_load.specs.Hexadecimal.{code_from}
use Rattle.elf_load.proofs.hexadecimal.code_of.Given as goal

abbrev pub invariant-lines : goal.invariant-lines
invariant-lines l = record {
  same : code_from l.number l.code.items l.lines ≡ code_from 1 [] (lines_of l.text);
  numbered : l.number + length l.lines ≤ length l.text + 2;
  whole : vec_len l.code % 4 ≡ 0;
  small : vec_len l.code ≤ 4194304;
}

abbrev pub decreases-lines : goal.decreases-lines
decreases-lines l = length l.lines
