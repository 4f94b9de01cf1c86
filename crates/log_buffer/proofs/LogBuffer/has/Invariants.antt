use Rattle.std.proofs.Common.{◌≡◌, take}
use Rattle.log_buffer.specs.Log.{has_entry}
use Rattle.log_buffer.specs.Index.{entries_of}
use Rattle.log_buffer.proofs.LastPlace.{upto, IsPlaceOf}
use Rattle.log_buffer.proofs.LogBuffer.has.Given as goal

-- the entries up to the place have the answer of all
abbrev pub invariant-older : goal.invariant-older
invariant-older l = record {
  is : IsPlaceOf (entries_of l.self-inside.stored.items) l.home_side l.fn.block l.place;
  same : has_entry (take (upto l.place) (entries_of l.self-inside.stored.items)) l.interval l.home_side l.fn.block
      ≡ has_entry (entries_of l.self-inside.stored.items) l.interval l.home_side l.fn.block;
}

abbrev pub decreases-older : goal.decreases-older
decreases-older l = upto l.place
