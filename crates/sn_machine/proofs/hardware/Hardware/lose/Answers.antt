use Rattle.std.proofs.Common.{refl}
use Rattle.sn_model.specs.NetEvents.{step_of_loss}
use Rattle.consistent_cuts.proofs.Clocks.{same_lost}
use Rattle.sn_machine.proofs.Parts.{carried-does}
use Rattle.sn_machine.proofs.hardware.Hardware.lose.Goals as goal

pub returns : goal.returns
returns c =
    carried-does c.args.self.now _ c.lose.result (step_of_loss c.args.self.now.fabric.fabric c.args.id) c.requires.whole c.lose.ensures
    (same_lost c.args.self.now.fabric.fabric c.args.id).clocks
    (record { processors = refl; controller = refl; history = refl; output = refl }) refl
