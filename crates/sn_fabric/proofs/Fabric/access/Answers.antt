use Rattle.sn_fabric.proofs.Sends.{unmissed-after}
use Rattle.sn_fabric.proofs.Fabric.access.Goals as goal

pub returns-in_default : goal.returns-in_default
returns-in_default c =
    unmissed-after c.args.self.now c.send_nothing.new.self c.args.node c.args.block c.args.need c.foresee_access-answer.result c.foresee_access-answer.ensures c.in_default.not-Missed c.send_nothing.ensures
