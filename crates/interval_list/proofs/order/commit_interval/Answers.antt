use Rattle.std.proofs.Common.{◌∙◌, ap, sym, arith}
use Rattle.interval_list.specs.WaitingList.{Waiting}
use Rattle.interval_list.proofs.Intervals.{one_fits}
use Rattle.interval_list.proofs.order.commit_interval.Goals as goal

pub append-requires : goal.append-requires
append-requires g c =
    let f = one_fits c.args.interval c.waiting.one-index c.one-item.result c.args.waiting.now c.waiting.committed.items c.args.committed.now.items c.waiting.invariant.0 c.waiting-test.true
    (ap (λ (p : Waiting _). p.interval) (sym c.one-item.is) ∙ c.if-one-interval.true) in
    let o = c.waiting.committed.ok in
    let p = c.args.committed.now.ok in
    omega (arith, f, o, p)
