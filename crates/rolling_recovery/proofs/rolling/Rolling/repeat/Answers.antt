use Rattle.rolling_recovery.proofs.Invariant.{repeat-kept}
use Rattle.rolling_recovery.proofs.rolling.Rolling.repeat.Goals as goal

pub invariant_of-self : goal.invariant_of-self
invariant_of-self c =
    repeat-kept c.self.inside.machine c.self.inside.messages c.self.inside.restored c.self.inside.noted c.self.invariant
    c.args.id c.in-Some.message c.is_full.result c.send.new.self c.in-Some.ensures c.is_full.ensures.full c.if-is_full.false
    c.send.ensures.sent
