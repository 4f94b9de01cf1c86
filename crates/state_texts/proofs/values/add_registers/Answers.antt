use Rattle.std.proofs.Common.{◌∙◌, sym}
use Rattle.state_texts.proofs.Registers.{registers-next, registers-end}
use Rattle.state_texts.proofs.values.add_registers.Goals as goal

pub registers-preserved : goal.registers-preserved
registers-preserved c =
    registers-next c.registers.text.items c.registers.others c.args.values.now c.registers.i _ _ c.registers-test.true c.in_ok-others.ensures
    ∙ c.registers.invariant

pub returns : goal.returns
returns c =
    sym (registers-end c.registers.text.items c.registers.others c.args.values.now c.registers.i c.registers-test.false)
    ∙ c.registers.invariant
