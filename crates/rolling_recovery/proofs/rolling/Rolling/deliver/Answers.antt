use Rattle.std.proofs.Common.{Some, sym, ap, ◌∙◌}
use Rattle.rolling_recovery.specs.declared.messages.ControlMessage.{ControlMessage}
use Rattle.rolling_recovery.proofs.Invariant.{obey-kept, note-kept}
use Rattle.rolling_recovery.proofs.rolling.Rolling.deliver.Goals as goal

pub invariant_of-self-in-Order : goal.invariant_of-self-in-Order
invariant_of-self-in-Order c =
    obey-kept c.self.inside.machine c.self.inside.messages c.self.inside.restored c.self.inside.noted c.self.invariant
    c.args.id c.in-Order.node c.obey-told.new.restored c.take.new.self c.send.new.self
    (ap (λ (m : ControlMessage). Some m) (sym c.in-Order.is) ∙ c.in-Some.ensures.taken) c.in-Some.ensures.some c.send.ensures.sent
    c.obey-told.ensures.mark

pub invariant_of-self-in-Done : goal.invariant_of-self-in-Done
invariant_of-self-in-Done c =
    note-kept c.self.inside.machine c.self.inside.messages c.self.inside.restored c.self.inside.noted c.self.invariant
    c.args.id c.in-Done.node c.from.result c.take.new.self
    (ap (λ (m : ControlMessage). Some m) (sym c.in-Done.is) ∙ c.in-Some.ensures.taken) c.in-Some.ensures.some
    (c.from.ensures ∙ c.number.ensures.same)
