use Rattle.std.proofs.Common.{sym, arith}
use Rattle.std.proofs.lemmas.Result.{err_from_is_err_and}
use Rattle.std.proofs.lemmas.Grind.{common_steps}
use Rattle.sn_console.proofs.Begun.{IsBegun-take}
use Rattle.sn_console.proofs.ends.Inbox.drain.Goals as goal

pub returns-in_err-put-clause-err : goal.returns-in_err-put-clause-err
returns-in_err-put-clause-err g c =
    let p = err_from_is_err_and c.from_residual.result c.from_residual.ensures.1 in
    rw p.1 (IsBegun-take _ _ _ c.in_err-put.ensures.part.0 _ _
    (sym (grind (arith, common_steps, c.pop_partial_slice-count.ensures.received))) c.in_err-put.ensures.part.2)
