use Rattle.std.proofs.Common.{ℕ, ◌<◌, sym, ap, subst}
use Rattle.snap_board.specs.Snap.{SnapData}
use Rattle.sn_monitor.proofs.monitored.publish.Goals as goal

pub show-requires : goal.show-requires
show-requires g c s ends = subst (λ (k : ℕ). s.point < k) (sym (ap (λ (t : SnapData). t.point) c.snap_of.ensures)) (c.requires.below s ends)
