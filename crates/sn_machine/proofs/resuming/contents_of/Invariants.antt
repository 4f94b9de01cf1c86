use Rattle.std.proofs.Common.{◌≡◌, ℕ, ◌<◌, [], length}
use Rattle.std.specs.Prelude.{slice_index_or}
use Rattle.sn_model.specs.RecoveryPoint.{block_in}
use Rattle.sn_machine.proofs.resuming.contents_of.Given as goal

-- the blocks before this one are there
abbrev pub invariant-numbers : goal.invariant-numbers
invariant-numbers l = record {
  count : length l.contents.items ≡ l.number;
  blocks : (block : ℕ) → block < l.number → slice_index_or l.contents.items block [] ≡ block_in l.flat.memory block;
}
