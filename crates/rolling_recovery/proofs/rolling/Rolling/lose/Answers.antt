use Rattle.rolling_recovery.proofs.Invariant.{lose-kept}
use Rattle.rolling_recovery.proofs.rolling.Rolling.lose.Goals as goal

pub invariant_of-self : goal.invariant_of-self
invariant_of-self c =
    lose-kept c.self.inside.machine c.self.inside.messages c.self.inside.restored c.self.inside.noted c.self.invariant
    c.args.id c.take.result c.take.new.self c.take.ensures.taken c.take.ensures.some c.take.ensures.none
