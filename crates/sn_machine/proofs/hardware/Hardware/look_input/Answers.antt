use Rattle.std.proofs.Common.{ap, sym, ◌∙◌, Some}
use Rattle.std.specs.Prelude.{slice_index}
use Rattle.rv_core.specs.declared.step.Record.{Record}
use Rattle.sn_machine.specs.declared.steps.NodeStep.TheVariants.{Retires}
use Rattle.sn_machine.specs.Turns.{input_turn}
use Rattle.sn_machine.proofs.Turns.{no-byte, some-byte}
use Rattle.sn_machine.proofs.hardware.Hardware.look_input.Goals as goal

pub returns-then-taken-given : goal.returns-then-taken-given
returns-then-taken-given c =
    sym (ap (input_turn c.args.node)
    (no-byte c.args.self.now c.args.node c.from.result c.index.result.now c.given-given.result.now c.taken-taken.result c.requires.whole c.requires.here (c.from.ensures ∙ c.number.ensures.same) c.index.ensures c.given-given.ensures c.taken-taken.ensures c.if-taken-given.true))

pub returns : goal.returns
returns c =
    let byte = some-byte c.args.self.now c.args.node c.from.result c.index.result.now c.given-given.result.now c.taken-taken.result c.requires.whole c.requires.here (c.from.ensures ∙ c.number.ensures.same) c.index.ensures c.given-given.ensures c.taken-taken.ensures c.if-taken-given.false in
    ap (λ (r : Record). Retires (record r { read = Some (slice_index c.given-given.result.now c.taken-taken.result) })) c.quiet.ensures
    ∙ sym (ap (input_turn c.args.node) byte)
