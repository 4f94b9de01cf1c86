use Rattle.rolling_recovery.proofs.Invariant.{order-kept}
use Rattle.rolling_recovery.proofs.rolling.Rolling.order.Goals as goal

pub invariant_of-self : goal.invariant_of-self
invariant_of-self c =
    order-kept c.self.inside.machine c.self.inside.messages c.self.inside.restored c.self.inside.noted c.self.invariant
    c.args.node c.is_full.result c.send.new.self (rw (← c.self.view_is) at c.requires.there) c.is_full.ensures.full c.if-is_full.false
    c.send.ensures.sent
