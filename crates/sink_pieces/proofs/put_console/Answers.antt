use Rattle.std.proofs.Common.{sym, ◌∙◌}
use Rattle.std.proofs.lemmas.Result.{err_from_is_err_and}
use Rattle.sink_pieces.proofs.PieceLaws.{after-empty, after-console_piece, Breaks-console_piece}
use Rattle.sink_pieces.proofs.put_console.Goals as goal

pub returns-in_err-put-clause-err : goal.returns-in_err-put-clause-err
returns-in_err-put-clause-err g c =
    let p = err_from_is_err_and c.from_residual.result c.from_residual.ensures.1 in
    rw p.1 (λ r. Breaks-console_piece _ _ r _ c.in_err-put.ensures.part.0
    (sym c.is_empty.ensures ∙ c.if-is_empty.false) c.in_err-put.ensures.part.2)

pub returns-clause-ok : goal.returns-clause-ok
returns-clause-ok g c = λ r. after-console_piece _ _ r _ c.in_ok-put.ensures.whole

pub returns-then-is_empty-clause-ok : goal.returns-then-is_empty-clause-ok
returns-then-is_empty-clause-ok g c = λ r. after-empty _ _ (sym c.is_empty.ensures ∙ c.if-is_empty.true)
