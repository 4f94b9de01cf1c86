use Rattle.std.proofs.lemmas.Result.{err_from_is_err_and}
use Rattle.committed_accesses.proofs.Stepping.{good_start, rows_start}
use Rattle.committed_accesses.proofs.RowPieces.{all-put, header-broken, rows-broken_off}
use Rattle.committed_accesses.proofs.rows.AccessRows.put.Goals as goal

pub put_rows-requires : goal.put_rows-requires
put_rows-requires g c =
    good_start c.args.image.now c.args.nodes c.args.self.now.cores c.requires.start c.args.records.now c.requires.execution

pub returns-in_err-put_header-clause-err : goal.returns-in_err-put_header-clause-err
returns-in_err-put_header-clause-err g c =
    let p = err_from_is_err_and c.from_residual.result c.from_residual.ensures.1 in
    rw p.1
    (λ r. header-broken _ _ (rows_start c.args.image.now c.args.nodes c.args.self.now.cores c.requires.start c.args.records.now) _ _
    (c.in_err-put_header.ensures.err r))

pub returns-in_err-put_rows-clause-err : goal.returns-in_err-put_rows-clause-err
returns-in_err-put_rows-clause-err g c =
    let p = err_from_is_err_and c.from_residual-in_err-put_rows.result c.from_residual-in_err-put_rows.ensures.1 in
    rw p.1
    (λ r. rows-broken_off _ _ (rows_start c.args.image.now c.args.nodes c.args.self.now.cores c.requires.start c.args.records.now) _ _ _
    (c.in_ok-put_header.ensures.ok r) (c.in_err-put_rows.ensures.err r))

pub returns-clause-ok : goal.returns-clause-ok
returns-clause-ok g c =
    λ r. all-put _ _ (rows_start c.args.image.now c.args.nodes c.args.self.now.cores c.requires.start c.args.records.now) _ _ _
    (c.in_ok-put_header.ensures.ok r) (c.in_ok-put_rows.ensures.ok r)
