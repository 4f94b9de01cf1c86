use Rattle.std.proofs.Common.{refl, length-append, arith}
use Rattle.interval_list.specs.WaitingList.{entries_below}
use Rattle.interval_list.proofs.Intervals.{left_fits}
use Rattle.sn_history.proofs.Counts.{reads-commit}
use Rattle.sn_history.proofs.History.commit_below.Goals as goal

-- each record is committed or still pending
pub invariant_of-self : goal.invariant_of-self
invariant_of-self c =
    let pending = c.self.inside.records.waiting in
    let committed = c.self.inside.records.committed in
    rw c.commit_below.ensures (
      omega (arith, left_fits c.args.k pending, length-append committed (entries_below c.args.k pending), c.self.invariant.0),
      λ n l. reads-commit c.args.k n _ committed _ pending _ refl refl (c.self.invariant.1 n l),
    )
