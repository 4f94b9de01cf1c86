use Rattle.std.proofs.Common.{◌≡◌, ◌≤◌, ◌++◌, drop, vec_capacity}
use Rattle.interval_list.specs.WaitingList.{entries_in}
use Rattle.interval_list.proofs.order.commit_interval.Given as goal

-- what is committed, with what is left of the interval, is all of it
abbrev pub invariant-waiting : goal.invariant-waiting
invariant-waiting g l =
    (l.committed.items ++ entries_in l.interval (drop l.one-index l.waiting) ≡ l.initial.committed.items ++ entries_in l.interval l.waiting)
    × (vec_capacity l.initial.committed ≤ vec_capacity l.committed)
