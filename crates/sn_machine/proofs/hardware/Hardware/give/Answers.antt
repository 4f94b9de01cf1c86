use Rattle.std.proofs.Common.{refl, ◌∙◌}
use Rattle.sn_machine.proofs.Units.{given-does}
use Rattle.sn_machine.proofs.hardware.Hardware.give.Goals as goal

pub returns : goal.returns
returns c =
    given-does c.args.self.now _ c.args.node c.args.byte c.from.result c.index_mut-processor.result.now c.give.new.self c.requires.whole c.requires.here (c.from.ensures ∙ c.number.ensures.same) c.index_mut-processor.ensures.value
    (record { processors = refl; controller = refl; history = refl; output = refl }) c.give.ensures refl refl
