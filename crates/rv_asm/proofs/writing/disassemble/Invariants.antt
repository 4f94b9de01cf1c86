use Rattle.std.proofs.Common.{◌≡◌, ◌++◌, drop}
use Rattle.rv_asm.specs.Text.{dis_of}
use Rattle.rv_asm.proofs.writing.disassemble.Given as goal

abbrev pub invariant-words : goal.invariant-words
invariant-words l = l.text.items ++ dis_of (drop l.word-index l.words) ≡ dis_of l.words
