use Rattle.std.proofs.Common.{◌∙◌, arith}
use Rattle.std.proofs.lemmas.Result.{err_from_is_err_and}
use Rattle.script_replay.proofs.PieceLaws.{group-none, group-one, group-breaks}
use Rattle.script_replay.proofs.play.put_group.Goals as goal

pub returns-in_err-put_report-in-Events-clause-err : goal.returns-in_err-put_report-in-Events-clause-err
returns-in_err-put_report-in-Events-clause-err g c =
    let p = err_from_is_err_and c.from_residual.result c.from_residual.ensures.1 in
    rw p.1 (λ r. group-breaks _ _ _ _ _ c.in-Events.is (c.bytes.ensures ∙ c.write_group.ensures)
    (c.in_err-put_report-in-Events.ensures.err r))

pub returns-in_ok-put_report-in-Events-clause-ok : goal.returns-in_ok-put_report-in-Events-clause-ok
returns-in_ok-put_report-in-Events-clause-ok g c = λ r.
    group-one _ _ _ _ _ c.in-Events.is (c.bytes.ensures ∙ c.write_group.ensures) (c.in_ok-put_report-in-Events.ensures.ok r)

pub returns-in_default : goal.returns-in_default
returns-in_default g c = record {
  ok = λ r. group-none _ _ _ c.in_default.not-Events;
  err = tt;
  later = omega arith;
  cause = tt;
}
