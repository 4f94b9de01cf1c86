use Rattle.std.proofs.Common.{take, ◌≡◌, length}
use Rattle.sn_base.specs.Blocks.{ram_size}
use Rattle.access_check.specs.Legal.{memory_of, with_words, zeros}
use Rattle.access_check.specs.Blocks.{IsWide, Shows}
use Rattle.access_check.proofs.blocks.Blocks.start.Given as goal

-- the blocks have the words so far
abbrev pub invariant-words : goal.invariant-words
invariant-words l = record {
  wide : IsWide l.blocks;
  size : length (with_words zeros (take l.place l.words)) ≡ ram_size;
  shows : Shows l.blocks (memory_of (with_words zeros (take l.place l.words)));
}
