use Rattle.std.proofs.Common.{refl}
use Rattle.sn_model.specs.Access.{step_of_access}
use Rattle.consistent_cuts.proofs.Clocks.{same_accessed}
use Rattle.sn_machine.proofs.Parts.{carried-does}
use Rattle.sn_machine.proofs.hardware.Hardware.miss.Goals as goal

pub returns : goal.returns
returns c =
    carried-does c.args.self.now _ c.access.result
    (step_of_access c.args.self.now.fabric.config c.args.self.now.fabric.fabric c.args.node c.args.block c.args.need) c.requires.whole c.access.ensures
    (same_accessed c.args.self.now.fabric.config c.args.self.now.fabric.fabric c.args.node c.args.block c.args.need).clocks
    (record { processors = refl; controller = refl; history = refl; output = refl }) refl
