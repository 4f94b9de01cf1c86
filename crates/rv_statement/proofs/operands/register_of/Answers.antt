use Rattle.std.proofs.Common.{sym, ◌∙◌}
use Rattle.rv_statement.specs.Operands.{register_names}
use Rattle.rv_statement.proofs.Registers.{register_from-next, register_of-found}
use Rattle.rv_statement.proofs.operands.register_of.Goals as goal

pub returns-then-is_named-clause-value : goal.returns-then-is_named-clause-value
returns-then-is_named-clause-value c =
    register_of-found c.numbers.number c.args.text.now c.numbers-test.true (sym c.is_frame_pointer.ensures ∙ c.if-is_frame_pointer.false)
    (sym c.is_named.ensures ∙ c.if-is_named.true) c.numbers.invariant

pub numbers-preserved : goal.numbers-preserved
numbers-preserved c =
    sym (register_from-next register_names c.numbers.number c.args.text.now c.numbers-test.true
    (sym c.is_named.ensures ∙ c.if-is_named.false)) ∙ c.numbers.invariant
