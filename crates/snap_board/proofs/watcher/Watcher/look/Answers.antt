use Rattle.std.proofs.Common.{sym, subst}
use Rattle.snap_board.specs.Snap.{SnapData}
use Rattle.snap_board.specs.Watching.{WatcherData}
use Rattle.snap_board.specs.Fronts.{EndsIn}
use Rattle.snap_board.proofs.Fronts.{later_last}
use Rattle.snap_board.proofs.watcher.Watcher.look.Goals as goal

pub returns-clause-stays : goal.returns-clause-stays
returns-clause-stays c s ends =
    let given : SnapData = c.copied.result in
    let last : SnapData = c.self.inside.last in
    let here = subst (λ (t : SnapData). EndsIn c.go_on.new.self.front t) (sym c.copied.ensures)
    (subst (λ (w : WatcherData). EndsIn w.front last) c.self.view_is c.self.invariant.2) in
    later_last _ _ s given c.go_on.ensures.goes_on c.go_on.ensures.rises ends here
