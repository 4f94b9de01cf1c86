use Rattle.std.proofs.lemmas.Result.{err_from_is_err_and}
use Rattle.sink_pieces.proofs.PieceLaws.{after-report, Breaks-report}
use Rattle.sink_pieces.proofs.put_report.Goals as goal

pub returns-in_err-put-clause-err : goal.returns-in_err-put-clause-err
returns-in_err-put-clause-err g c =
    let p = err_from_is_err_and c.from_residual.result c.from_residual.ensures.1 in
    rw p.1 (λ r. Breaks-report r _ _ _ c.in_err-put.ensures.part.0 c.in_err-put.ensures.part.2)

pub returns-clause-ok : goal.returns-clause-ok
returns-clause-ok g c = λ r. after-report r _ _ _ c.in_ok-put.ensures.whole
