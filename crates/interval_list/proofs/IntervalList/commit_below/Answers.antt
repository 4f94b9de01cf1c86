use Rattle.std.proofs.Common.{◌≡◌, ◌∙◌, ◌+◌, ◌++◌, ap, length, length-append, arith, rules}
use Rattle.std.proofs.lemmas.Fn.{filter_same}
use Rattle.interval_list.specs.WaitingList.{waiting_from, entries_below}
use Rattle.interval_list.proofs.Intervals.{left_fits}
use Rattle.interval_list.proofs.IntervalList.commit_below.Goals as goal

pub invariant_of-self : goal.invariant_of-self
invariant_of-self g c =
    let e : c.retain.new.self.items
    ≡ waiting_from c.args.k c.self.inside.waiting.items = filter_same _ _ _ (λ x b f' k. search rules) _ _ c.retain.ensures.filtered in
    let b : c.commit_in_order.new.committed.items ≡ c.self.inside.committed.items
    ++ entries_below c.args.k c.self.inside.waiting.items = rw (← c.as_slice.ensures.value) c.commit_in_order.ensures.entries in
    let m : length c.retain.new.self.items ≡ length (waiting_from c.args.k c.self.inside.waiting.items) = ap length e in
    let n : length c.commit_in_order.new.committed.items
    ≡ length c.self.inside.committed.items + length (entries_below c.args.k c.self.inside.waiting.items) =
    ap length b ∙ length-append c.self.inside.committed.items (entries_below c.args.k c.self.inside.waiting.items) in
    let f = left_fits c.args.k c.self.inside.waiting.items in
    (omega arith, omega (arith, m, n, f))

pub returns : goal.returns
returns g c =
    let e : c.retain.new.self.items
    ≡ waiting_from c.args.k c.self.inside.waiting.items = filter_same _ _ _ (λ x b f' k. search rules) _ _ c.retain.ensures.filtered in
    rw (← c.self.view_is, e, c.commit_in_order.ensures.entries, c.as_slice.ensures.value)
