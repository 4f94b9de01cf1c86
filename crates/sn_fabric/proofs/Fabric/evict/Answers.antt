use Rattle.sn_fabric.proofs.Evicted.{unevicted-after}
use Rattle.sn_fabric.proofs.Fabric.evict.Goals as goal

pub returns-in_default : goal.returns-in_default
returns-in_default c =
    unevicted-after c.args.self.now c.send_nothing.new.self c.args.node c.args.block c.foresee_evict-answer.result c.foresee_evict-answer.ensures c.in_default.not-Evicted c.in_default.not-PutBegun c.send_nothing.ensures
