use Rattle.std.proofs.Common.{sym, ◌∙◌}
use Rattle.switch_net.proofs.Nets.{without-none}
use Rattle.switch_net.proofs.Ordered.{find-at_place, find-no_place, without-at_place}
use Rattle.switch_net.proofs.messages.Messages.remove.Goals as goal

pub returns-in_err-place-clause-removed : goal.returns-in_err-place-clause-removed
returns-in_err-place-clause-removed c =
    c.from_residual.ensures ∙ sym (find-no_place c.args.id c.args.self.now (sym c.place_of.ensures ∙ c.in_err-place.was))

pub returns-in_err-place-clause-others : goal.returns-in_err-place-clause-others
returns-in_err-place-clause-others c =
    sym (without-none c.args.id c.args.self.now (find-no_place c.args.id c.args.self.now (sym c.place_of.ensures ∙ c.in_err-place.was)))

pub returns-clause-removed : goal.returns-clause-removed
returns-clause-removed c =
    sym (find-at_place c.args.id c.in_ok-place.place c.args.self.now c.remove.result
    (sym c.place_of.ensures ∙ c.in_ok-place.was) (rw c.self.view_is at c.remove.ensures.value))

pub returns-clause-others : goal.returns-clause-others
returns-clause-others c =
    rw (c.remove.ensures.items, c.self.view_is)
    (sym (without-at_place c.args.id 1 c.requires.0 c.in_ok-place.place c.args.self.now c.remove.result c.requires.1
    (sym c.place_of.ensures ∙ c.in_ok-place.was)))
