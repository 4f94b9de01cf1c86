use Rattle.std.proofs.Common.{ap, length, length-append, arith}
use Rattle.interval_list.specs.WaitingList.{entries_below}
use Rattle.interval_list.proofs.Intervals.{first_below, next_below, next_fits}
use Rattle.interval_list.proofs.order.commit_in_order.Goals as goal

pub intervals-init : goal.intervals-init
intervals-init g c = (
  c.next_interval-interval.ensures.most,
  first_below c.next_interval-interval.result c.args.waiting.now c.args.committed.now.items c.next_interval-interval.ensures.none,
  omega arith,
)

pub commit_interval-requires : goal.commit_interval-requires
commit_interval-requires g c =
    omega (
      arith,
      ap length c.intervals.invariant.1,
      length-append c.args.committed.now.items (entries_below c.intervals.interval c.args.waiting.now),
      next_fits c.intervals.interval c.args.waiting.now,
    )

pub intervals-preserved : goal.intervals-preserved
intervals-preserved g c = (
  c.next_interval-interval-in-intervals.ensures.most,
  next_below c.intervals.interval c.next_interval-interval-in-intervals.result c.args.waiting.now c.args.committed.now.items _
      c.next_interval-interval-in-intervals.ensures.least c.next_interval-interval-in-intervals.ensures.none
      (rw (← c.intervals.invariant.1) c.commit_interval.ensures.entries),
  omega arith,
)
