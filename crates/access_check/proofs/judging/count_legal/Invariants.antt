use Rattle.std.proofs.Common.{take}
use Rattle.access_check.specs.Legal.{MemoryState, AreLegal, memory_after_all}
use Rattle.access_check.specs.Blocks.{IsWide, Shows}
use Rattle.access_check.proofs.judging.count_legal.Given as goal

-- the accesses so far are legal, and the blocks have what they leave
abbrev pub invariant-accesses : goal.invariant-accesses
invariant-accesses l = record {
  wide : IsWide l.blocks;
  legal : (m : MemoryState) → Shows l.initial.blocks m → AreLegal m (take l.place l.accesses);
  shows : (m : MemoryState) → Shows l.initial.blocks m → Shows l.blocks (memory_after_all m (take l.place l.accesses));
}
