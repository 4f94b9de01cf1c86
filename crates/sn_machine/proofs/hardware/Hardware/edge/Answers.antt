use Rattle.std.proofs.Common.{refl, ap, ◌∙◌}
use Rattle.sn_model.specs.MachineEvents.{with_checkpoint}
use Rattle.sn_machine.specs.declared.processor.Processor.{Processor as ProcessorUnit}
use Rattle.sn_machine.specs.Parts.{processor_as}
use Rattle.sn_machine.proofs.Parts.{unit-read}
use Rattle.sn_machine.proofs.Units.{unit_placed, edge-done}
use Rattle.sn_machine.proofs.hardware.Hardware.edge.Goals as goal

pub returns : goal.returns
returns c =
    let i = c.from.ensures ∙ c.number.ensures.same in
    let e = unit-read c.args.self.now c.args.node c.from.result c.index_mut.result.now c.requires.whole c.requires.here i c.index_mut.ensures.value in
    edge-done c.args.self.now _ c.args.node c.requires.whole c.requires.here c.in-Edged.k c.take_checkpoint.new.processor c.in-Edged.ensures
    (unit_placed c.args.self.now _ c.args.node c.from.result c.take_checkpoint.new.processor i
    (record { processors = refl; controller = refl; history = refl; output = refl }))
    (c.take_checkpoint.ensures.processor ∙ ap (λ (x : ProcessorUnit). with_checkpoint (processor_as x)) e)
    (c.take_checkpoint.ensures.first ∙ ap (λ (x : ProcessorUnit). x.checkpoints.first) e)
    (c.take_checkpoint.ensures.input ∙ ap (λ (x : ProcessorUnit). x.input) e) refl
