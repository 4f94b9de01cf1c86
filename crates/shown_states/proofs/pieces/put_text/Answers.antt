use Rattle.std.proofs.Common.{sym, ◌∙◌}
use Rattle.std.proofs.lemmas.Result.{err_from_is_err_and}
use Rattle.shown_states.proofs.Puts.{text-none, text-one, text-breaks}
use Rattle.shown_states.proofs.pieces.put_text.Goals as goal

pub returns-in_err-put_report-clause-err : goal.returns-in_err-put_report-clause-err
returns-in_err-put_report-clause-err g c =
    let p = err_from_is_err_and c.from_residual.result c.from_residual.ensures.1 in
    rw p.1 (λ r. text-breaks _ _ _ (sym c.is_empty.ensures ∙ c.if-is_empty.false) (c.in_err-put_report.ensures.err r))

pub returns-clause-ok : goal.returns-clause-ok
returns-clause-ok g c = λ r. text-one _ _ _ (sym c.is_empty.ensures ∙ c.if-is_empty.false) (c.in_ok-put_report.ensures.ok r)

pub returns-then-is_empty-clause-ok : goal.returns-then-is_empty-clause-ok
returns-then-is_empty-clause-ok g c = λ r. text-none _ _ (sym c.is_empty.ensures ∙ c.if-is_empty.true)
