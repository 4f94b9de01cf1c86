-- What a table becomes whose place was lent for writing.
use Rattle.std.specs.Prelude.{ℕ, List, slice_set}
use Rattle.std.specs.Borrow.{Lends, Fml, RattleType, MutBor}
use Rattle.sparse_table.specs.declared.Usual.{Ghosts}
use Rattle.sparse_table.specs.contracts.SparseTable.{the_row}

-- once the borrow r ends, the place has the last value written through r
abbrev pub LendsValue : (T : RattleType) → Ghosts T.Denot → MutBor (List T.Denot) → ℕ → MutBor T.Denot → Fml
LendsValue T usual table place r = Lends (the_row T usual) T table r (slice_set table.now place)
