use Rattle.std.proofs.Common.{◌==◌, List, set, sym, ap, ◌∙◌}
use Rattle.std.specs.List.{position}
use Rattle.switch_net.specs.declared.flight.Flight.{Flight}
use Rattle.switch_net.proofs.Nets.{moved-none, moved-some}
use Rattle.switch_net.proofs.messages.Messages.put.Goals as goal

pub returns-in-Some : goal.returns-in-Some
returns-in-Some c =
    rw (← c.self.view_is)
    (ap (λ (f : Flight). set c.self.inside.flights.items c.in-Some.place (record f { at = c.args.switch })) c.index_mut.ensures.value
    ∙ sym (moved-some c.args.id c.args.switch c.in-Some.place c.self.inside.flights.items c.index_mut.result.now
    (ap (λ (fs : List Flight). position (λ f. f.message.id == c.args.id) fs) c.self.view_is ∙ (sym c.place_of.ensures ∙ c.in-Some.is))))

pub returns-in_default : goal.returns-in_default
returns-in_default c = sym (moved-none c.args.id c.args.switch c.args.self.now (sym c.place_of.ensures ∙ c.in_default.is))
