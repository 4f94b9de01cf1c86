use Rattle.std.proofs.Common.{◌≡◌, take, option_copied}
use Rattle.log_buffer.specs.Log.{old_at}
use Rattle.log_buffer.specs.Index.{entries_of}
use Rattle.log_buffer.proofs.Laws.{or_else}
use Rattle.log_buffer.proofs.LastPlace.{upto, IsPlaceOf}
use Rattle.log_buffer.proofs.LogBuffer.old_at.Given as goal

-- the entries up to the place have the answer of all, or what was found is it
abbrev pub invariant-older : goal.invariant-older
invariant-older l = record {
  is : IsPlaceOf (entries_of l.self-inside.stored.items) l.home_side l.fn.block l.place;
  same : or_else (old_at (take (upto l.place) (entries_of l.self-inside.stored.items)) l.home_side l.fn.block l.k) (option_copied l.found)
      ≡ old_at (entries_of l.self-inside.stored.items) l.home_side l.fn.block l.k;
}

abbrev pub decreases-older : goal.decreases-older
decreases-older l = upto l.place
