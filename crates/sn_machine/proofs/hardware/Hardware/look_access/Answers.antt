use Rattle.rv_core.specs.Core.{block_of}
use Rattle.sn_machine.proofs.Turns.{access-refused}
use Rattle.sn_machine.proofs.hardware.Hardware.look_access.Goals as goal

pub returns-in_default : goal.returns-in_default
returns-in_default c =
    access-refused c.args.self.now.fabric.config c.args.self.now.fabric.fabric c.args.node
    (block_of c.args.address) c.args.need c.foresee_access.result c.in_default.not-Retired c.in_default.not-Missed
    (rw c.block_at-block.ensures at c.foresee_access.ensures)
