use Rattle.std.proofs.Common.{refl, ◌∙◌, ap}
use Rattle.sn_machine.specs.Start.{units_below}
use Rattle.sn_machine.proofs.FirstParts.{first-parts}
use Rattle.sn_machine.proofs.hardware.Hardware.new.Goals as goal

pub returns : goal.returns
returns c =
    first-parts _ c.args.image.now c.args.config c.in_ok-fabric.ensures
    (c.in_ok-processors.ensures ∙ ap (units_below c.args.config.nodes) c.entry.ensures) c.new-2.ensures c.new-3.ensures c.new-4.ensures refl
