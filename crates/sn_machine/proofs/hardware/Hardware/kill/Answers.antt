use Rattle.std.proofs.Common.{refl}
use Rattle.sn_model.specs.NetEvents.{step_of_kill}
use Rattle.consistent_cuts.proofs.Clocks.{same_killed}
use Rattle.sn_machine.proofs.Parts.{carried-does}
use Rattle.sn_machine.proofs.hardware.Hardware.kill.Goals as goal

pub returns : goal.returns
returns c =
    carried-does c.args.self.now _ c.kill.result (step_of_kill c.args.self.now.fabric.fabric c.args.switch) c.requires.whole c.kill.ensures
    (same_killed c.args.self.now.fabric.fabric c.args.switch).clocks
    (record { processors = refl; controller = refl; history = refl; output = refl }) refl
