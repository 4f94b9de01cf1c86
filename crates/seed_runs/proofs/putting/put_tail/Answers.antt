use Rattle.std.proofs.Common.{[], ◌∷◌}
use Rattle.std.proofs.lemmas.Result.{err_from_is_err_and}
use Rattle.sink_pieces.specs.Pieces.{Report}
use Rattle.seed_runs.specs.Text.{end_line}
use Rattle.seed_runs.specs.Pieces.{piece_if}
use Rattle.seed_runs.proofs.Blocks.{both-put, first-breaks, last-breaks}
use Rattle.seed_runs.proofs.putting.put_tail.Goals as goal

pub returns-in_err-put_if-clause-err : goal.returns-in_err-put_if-clause-err
returns-in_err-put_if-clause-err g c =
    let p = err_from_is_err_and c.from_residual.result c.from_residual.ensures.1 in
    rw p.1
    (λ r. first-breaks (piece_if c.args.counted c.args.statistics.now) (Report (end_line c.args.ending.now) ∷ []) _ _
    (c.in_err-put_if.ensures.err r))

pub returns-in_err-put_end-clause-err : goal.returns-in_err-put_end-clause-err
returns-in_err-put_end-clause-err g c =
    let p = err_from_is_err_and c.from_residual-in_err-put_end.result c.from_residual-in_err-put_end.ensures.1 in
    rw p.1
    (λ r. last-breaks (piece_if c.args.counted c.args.statistics.now) (Report (end_line c.args.ending.now) ∷ []) _ _ _
    (c.in_ok-put_if.ensures.ok r) (c.in_err-put_end.ensures.err r))

pub returns-clause-ok : goal.returns-clause-ok
returns-clause-ok g c =
    λ r. both-put (piece_if c.args.counted c.args.statistics.now) (Report (end_line c.args.ending.now) ∷ []) _ _ _
    (c.in_ok-put_if.ensures.ok r) (c.in_ok-put_end.ensures.ok r)
