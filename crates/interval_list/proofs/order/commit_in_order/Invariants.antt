use Rattle.std.proofs.Common.{◌≡◌, ◌≤◌, ◌-◌, ◌++◌, vec_capacity}
use Rattle.interval_list.specs.WaitingList.{entries_below}
use Rattle.interval_list.proofs.order.commit_in_order.Given as goal

-- the entries of the intervals below this one are committed
abbrev pub invariant-intervals : goal.invariant-intervals
invariant-intervals g l =
    (l.interval ≤ l.k)
    × (l.committed.items ≡ l.initial.committed.items ++ entries_below l.interval l.waiting)
    × (vec_capacity l.initial.committed ≤ vec_capacity l.committed)

abbrev pub decreases-intervals : goal.decreases-intervals
decreases-intervals g l = l.k - l.interval
