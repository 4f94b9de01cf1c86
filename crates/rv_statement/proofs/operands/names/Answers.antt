use Rattle.std.proofs.Common.{ℕ, ◌<◌, List, [], length, get_or, ap, arith, ◌∙◌}
use Rattle.rv_statement.specs.Operands.{register_names}
use Rattle.rv_statement.proofs.Registers.{seen-at}
use Rattle.rv_statement.proofs.operands.names.Goals as goal

pub returns-clause-plain : goal.returns-clause-plain
returns-clause-plain c =
    let inside : c.from.result < length c.all_names.result.now = omega (arith, c.from.ensures, c.all_names.ensures.count, c.requires) in
    ap (λ (names : List ℕ × List ℕ). names.0)
    (seen-at _ _ c.from.result _ c.all_names.ensures.names inside ∙ ap (λ (n : ℕ). get_or register_names n ([], [])) c.from.ensures)

pub returns-clause-usual : goal.returns-clause-usual
returns-clause-usual c =
    let inside : c.from.result < length c.all_names.result.now = omega (arith, c.from.ensures, c.all_names.ensures.count, c.requires) in
    ap (λ (names : List ℕ × List ℕ). names.1)
    (seen-at _ _ c.from.result _ c.all_names.ensures.names inside ∙ ap (λ (n : ℕ). get_or register_names n ([], [])) c.from.ensures)
