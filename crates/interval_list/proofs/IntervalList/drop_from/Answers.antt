use Rattle.std.proofs.Common.{◌≡◌, rules}
use Rattle.std.proofs.lemmas.Fn.{filter_same}
use Rattle.interval_list.specs.WaitingList.{waiting_below}
use Rattle.interval_list.proofs.IntervalList.drop_from.Goals as goal

pub returns : goal.returns
returns g c =
    let e : c.retain.new.self.items
    ≡ waiting_below c.args.k c.self.inside.waiting.items = filter_same _ _ _ (λ x b f' k. search rules) _ _ c.retain.ensures.filtered in
    rw (← c.self.view_is, e)
