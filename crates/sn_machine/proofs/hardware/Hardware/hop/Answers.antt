use Rattle.std.proofs.Common.{refl}
use Rattle.sn_model.specs.NetEvents.{step_of_hop}
use Rattle.consistent_cuts.proofs.Clocks.{same_hopped}
use Rattle.sn_machine.proofs.Parts.{carried-does}
use Rattle.sn_machine.proofs.hardware.Hardware.hop.Goals as goal

pub returns : goal.returns
returns c =
    carried-does c.args.self.now _ c.hop.result (step_of_hop c.args.self.now.fabric.fabric c.args.id) c.requires.whole c.hop.ensures
    (same_hopped c.args.self.now.fabric.fabric c.args.id).clocks
    (record { processors = refl; controller = refl; history = refl; output = refl }) refl
