use Rattle.std.proofs.Common.{refl}
use Rattle.sn_model.specs.NodeEvents.{step_of_report}
use Rattle.consistent_cuts.proofs.Clocks.{same_reported}
use Rattle.sn_machine.proofs.Parts.{carried-does}
use Rattle.sn_machine.proofs.hardware.Hardware.report.Goals as goal

pub returns : goal.returns
returns c =
    carried-does c.args.self.now _ c.report.result (step_of_report c.args.self.now.fabric.fabric c.args.node) c.requires.whole c.report.ensures
    (same_reported c.args.self.now.fabric.fabric c.args.node).clocks
    (record { processors = refl; controller = refl; history = refl; output = refl }) refl
