use Rattle.std.proofs.Common.{◌≡◌, ◌+◌, ◌≤◌, length, All}
use Rattle.access_check.specs.Accesses.{IsFittingAccess, IsFittingWord}
use Rattle.access_texts.specs.Lists.{said_by, said_from}
use Rattle.access_texts.proofs.access_list.read_accesses.Given as goal

-- what is left says the rest of what the text says
abbrev pub invariant-lines : goal.invariant-lines
invariant-lines l = record {
  same : said_from l.number l.list l.lines ≡ said_by l.bytes;
  words : All IsFittingWord l.list.words;
  accesses : All IsFittingAccess l.list.accesses;
  numbers : l.number + length l.lines ≤ length l.bytes + 2;
}

abbrev pub decreases-lines : goal.decreases-lines
decreases-lines l = length l.lines
