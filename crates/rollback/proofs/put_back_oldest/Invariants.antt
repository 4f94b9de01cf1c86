use Rattle.std.proofs.Common.{◌≡◌, ℕ, take}
use Rattle.rollback.specs.Unwound.{Old, some_restored}
use Rattle.rollback.proofs.put_back_oldest.Given as goal

abbrev pub invariant-places : goal.invariant-places
invariant-places g l = record {
  held : (b : ℕ) → g.T.Restore.holds l.target b
      ≡ some_restored (take l.place (g.E.Entries.entries l.log)) (g.E.Entries.entries l.log) g.T.Restore.home_side l.k
      (g.T.Restore.holds l.initial.target) b;
  room : (map : ℕ → Old) → g.T.Restore.fits l.initial.target map → g.T.Restore.fits l.target map;
  stays : g.T.Restore.stays l.initial.target l.target;
}
