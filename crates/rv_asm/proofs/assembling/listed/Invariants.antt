use Rattle.std.proofs.Common.{◌≡◌, ◌≤◌, ◌+◌, length, vec_len}
use Rattle.text_lines.specs.Lines.{lines_of}
use Rattle.rv_asm.specs.Assembly.{listed_from, nothing_listed}
use Rattle.rv_asm.specs.Lists.{listing_of}
use Rattle.rv_asm.proofs.assembling.listed.Given as goal

abbrev pub invariant-lines : goal.invariant-lines
invariant-lines l = record {
  same : listed_from l.number (listing_of l.items.items l.labels) l.lines ≡ listed_from 1 nothing_listed (lines_of l.text);
  numbered : l.number + length l.lines ≤ length l.text + 2;
  few : vec_len l.items ≤ 1048576;
}

abbrev pub decreases-lines : goal.decreases-lines
decreases-lines l = length l.lines
