use Rattle.std.proofs.Common.{refl, ◌∙◌}
use Rattle.sn_machine.specs.Parts.{state_of}
use Rattle.sn_machine.proofs.Turns.{core-read}
use Rattle.sn_machine.proofs.Retires.{given-reserved, given-byte, can-write, retire-does}
use Rattle.sn_machine.proofs.hardware.Hardware.retire.Goals as goal

pub finish_by-effect-requires-clause-reserved : goal.finish_by-effect-requires-clause-reserved
finish_by-effect-requires-clause-reserved c =
    given-reserved c.args.image.now c.args.self.now.fabric.config (state_of c.args.self.now) c.args.node c.args.instruction c.args.did
    c.index_mut-processor.result.now.core c.requires.next c.requires.found
    (core-read c.args.self.now c.args.node c.from.result c.index_mut-processor.result.now c.requires.whole c.requires.can.node
    (c.from.ensures ∙ c.number.ensures.same) c.index_mut-processor.ensures.value)

pub finish_by-effect-requires-clause-byte : goal.finish_by-effect-requires-clause-byte
finish_by-effect-requires-clause-byte c =
    given-byte c.args.image.now c.args.self.now.fabric.config (state_of c.args.self.now) c.args.node c.args.instruction c.args.did
    c.index_mut-processor.result.now.core c.requires.next c.requires.found
    (core-read c.args.self.now c.args.node c.from.result c.index_mut-processor.result.now c.requires.whole c.requires.can.node
    (c.from.ensures ∙ c.number.ensures.same) c.index_mut-processor.ensures.value) c.requires.can

pub write-requires : goal.write-requires
write-requires c =
    can-write c.args.image.now c.args.self.now c.args.node c.args.instruction c.args.did c.index_mut-processor.result.now.core c.finish_by-effect.result c.requires.can c.requires.next c.requires.found
    (core-read c.args.self.now c.args.node c.from.result c.index_mut-processor.result.now c.requires.whole c.requires.can.node
    (c.from.ensures ∙ c.number.ensures.same) c.index_mut-processor.ensures.value) c.finish_by-effect.ensures.effect

pub returns : goal.returns
returns c =
    retire-does c.args.image.now c.args.self.now _ c.args.node c.from.result c.now-interval.result c.args.instruction c.args.did c.index_mut-processor.result.now c.finish_by-effect.new.self c.finish_by-effect.result c.requires.whole c.requires.can c.requires.next c.requires.found
    c.now-interval.ensures (c.from.ensures
    ∙ c.number.ensures.same) c.index_mut-processor.ensures.value c.finish_by-effect.ensures.core c.finish_by-effect.ensures.effect c.write.ensures.fabric c.write.ensures.sizes
    (record { processors = refl; controller = refl; history = refl; output = refl }) c.add.ensures c.put_out.ensures refl
