use Rattle.std.proofs.Common.{◌≡◌, ℕ, ◌<◌, ◌≤◌, take, get_or}
use Rattle.rollback.specs.Unwound.{LogEntry, Old, all_forgotten}
use Rattle.rollback.proofs.forget_all.Given as goal

abbrev pub invariant-places : goal.invariant-places
invariant-places g l = record {
  held : (b : ℕ) → g.T.Restore.holds l.target b
      ≡ all_forgotten (take l.place (g.E.Entries.entries l.log)) g.T.Restore.home_side l.k (g.T.Restore.holds l.initial.target) b;
  fits : (i : ℕ) (d : LogEntry) → i < l.place → l.k ≤ (get_or (g.E.Entries.entries l.log) i d).interval →
      g.T.Restore.fits l.target (g.T.Restore.holds l.target);
  room : (map : ℕ → Old) → g.T.Restore.fits l.initial.target map → g.T.Restore.fits l.target map;
  stays : g.T.Restore.stays l.initial.target l.target;
}
