use Rattle.std.proofs.Common.{Bor, Option, sym, ap, ◌∙◌}
use Rattle.std.specs.Option.{option_copied}
use Rattle.switch_net.specs.declared.flight.Flight.{Flight}
use Rattle.switch_net.proofs.Ordered.{find-at_place, find-no_place}
use Rattle.switch_net.proofs.messages.Messages.find.Goals as goal

pub returns-in_err-place : goal.returns-in_err-place
returns-in_err-place c =
    ap (λ (o : Option (Bor Flight)). option_copied o) c.from_residual.ensures
    ∙ sym (find-no_place c.args.id c.args.self.now (sym c.place_of.ensures ∙ c.in_err-place.was))

pub returns : goal.returns
returns c =
    sym (find-at_place c.args.id c.in_ok-place.place c.args.self.now c.index.result.now
    (sym c.place_of.ensures ∙ c.in_ok-place.was) (rw c.self.view_is at c.index.ensures))
