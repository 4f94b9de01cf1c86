use Rattle.std.proofs.Common.{◌≡◌, slice_index}
use Rattle.run_statistics.specs.Numbers.{with_more_below}
use Rattle.run_statistics.proofs.numbers.Numbers.add_all.Given as goal

abbrev pub invariant-places : goal.invariant-places
invariant-places l = l.self ≡ with_more_below (slice_index l.others) l.place l.initial.self
