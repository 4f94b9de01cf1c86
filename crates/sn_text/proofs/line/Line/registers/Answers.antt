use Rattle.std.proofs.Common.{arith, sym, ap, ◌∙◌, ◌++◌, ◌+◌, drop}
use Rattle.std.proofs.lemmas.Bool.Decides.{nat_tests}
use Rattle.sn_text.specs.Text.{registers_text}
use Rattle.sn_text.proofs.Texts.{registers-more, registers-skip, registers-end}
use Rattle.sn_text.proofs.line.Line.registers.Goals as goal
use Rattle.sn_text.proofs.line.Line.registers.Goals.{then-value-ne0, else-value-ne0}

pub registers-preserved : goal.registers-preserved
registers-preserved c =
    elim c.if-value-ne0.branch [
      | then-value-ne0 w ↦ rw w.self-is (record {
        same = ap (λ t. t ++ registers_text (c.registers.i + 1 + 1) (drop (c.registers.i + 1) c.args.values.now)) w.register.ensures.text
            ∙ sym (registers-more c.registers.self c.args.values.now c.registers.i c.registers-test.true
            (grind (arith, nat_tests, w.if-value-ne0.true))) ∙ c.registers.invariant.same;
        short = omega (arith, w.register.ensures.short, c.registers.invariant.short);
      })
      | else-value-ne0 w ↦ rw w.self-is (record {
        same =
            sym (registers-skip c.registers.self c.args.values.now c.registers.i c.registers-test.true
            (grind (arith, nat_tests, w.if-value-ne0.false))) ∙ c.registers.invariant.same;
        short = omega (arith, c.registers.invariant.short);
      })
    ]

pub returns-clause-text : goal.returns-clause-text
returns-clause-text c =
    sym (registers-end c.registers.self c.args.values.now c.registers.i c.registers-test.false) ∙ c.registers.invariant.same
