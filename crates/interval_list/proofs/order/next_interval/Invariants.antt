use Rattle.std.proofs.Common.{ℕ, ◌<◌, ◌≤◌, get_or}
use Rattle.interval_list.specs.WaitingList.{Waiting}
use Rattle.interval_list.proofs.order.next_interval.Given as goal

-- no entry seen so far is of an interval between
abbrev pub invariant-waiting : goal.invariant-waiting
invariant-waiting g l = record {
  most : l.next ≤ l.k;
  least : l.from ≤ l.next;
  none : (j : ℕ) (d : Waiting _) → j < l.one-index → l.from ≤ (get_or l.waiting j d).interval → l.next ≤ (get_or l.waiting j d).interval;
}
