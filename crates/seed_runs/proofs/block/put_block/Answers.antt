use Rattle.std.proofs.Common.{ℕ, List, [], ◌∷◌, ◌++◌, inl, inr, ⊎_elim, refl, ap, subst, ◌∙◌, arith}
use Rattle.std.proofs.lemmas.Result.{err_from_is_err_and, on_ok_weaker, on_err_weaker}
use Rattle.sink_pieces.specs.Pieces.{Report, ends, after, Breaks}
use Rattle.sn_probe.specs.Probes.{tallies_of}
use Rattle.ordered_run.proofs.NodeThreadsPuts.{rose-later}
use Rattle.seed_runs.specs.Text.{end_line}
use Rattle.seed_runs.specs.Pieces.{run_of, journal_of, piece_if}
use Rattle.seed_runs.proofs.Puts.{may-run, caused, seed-put, head-broke, middle-broke, tail-broke}
use Rattle.seed_runs.proofs.block.put_block.Goals as goal

pub returns-in_err-put_head-clause-err : goal.returns-in_err-put_head-clause-err
returns-in_err-put_head-clause-err g c =
    let p = err_from_is_err_and c.from_residual.result c.from_residual.ensures.1 in
    rw p.1
    (head-broke c.args.job.now c.args.seed c.args.played.now c.requires.may c.requires.played [] refl _ _
    (c.in_err-put_head.ensures.err (g.C.Sink.written c.args.console.now)))

pub put_run-requires-clause-start : goal.put_run-requires-clause-start
put_run-requires-clause-start g c = c.requires.played.room

pub returns-in-None-clause-err : goal.returns-in-None-clause-err
returns-in-None-clause-err g c =
    middle-broke c.args.job.now c.args.seed c.args.played.now c.requires.may c.requires.played _ (ap tallies_of c.requires.alone) _ _ _
    (c.in_ok-put_head.ensures.ok (g.C.Sink.written c.args.console.now)) (c.in-None.ensures.none refl)

pub returns-in-None-clause-cause : goal.returns-in-None-clause-cause
returns-in-None-clause-cause g c =
    ⊎_elim inl
    (λ rose. inr (rose-later (g.R.Sink.faults c.args.report.now) (g.R.Sink.faults c.put_head.new.report)
    (g.R.Sink.faults c.put_run.new.report) c.put_head.ensures.later rose))
    (caused (run_of c.args.job.now c.args.seed) (journal_of c.args.job.now c.args.seed) c.args.job.now.statistics c.args.played.now c.requires.played
    (may-run c.args.job.now c.args.seed c.requires.may) _ (c.in-None.ensures.cause refl))

pub returns-in-Some-clause-err : goal.returns-in-Some-clause-err
returns-in-Some-clause-err g c =
    on_err_weaker c.put_tail.result
    (λ broke. tail-broke c.args.job.now c.args.seed c.args.played.now c.requires.may c.requires.played _ (ap tallies_of c.requires.alone)
    c.in-Some.ending _ _ _ _ _ _ (c.in_ok-put_head.ensures.ok (g.C.Sink.written c.args.console.now)) c.in-Some.ensures.console
    c.in-Some.ensures.report
    (subst (λ (t : List ℕ). Breaks (piece_if c.args.job.now.statistics t ++ Report (end_line c.in-Some.ending) ∷ [])
    (ends (g.C.Sink.written c.put_run.new.console) (g.R.Sink.written c.put_run.new.report))
    (ends (g.C.Sink.written c.put_run.new.console) (g.R.Sink.written c.put_tail.new.report))) c.as_slice.ensures.value
    (broke (g.C.Sink.written c.put_run.new.console))))
    c.put_tail.ensures.err

pub returns-in-Some-clause-ok : goal.returns-in-Some-clause-ok
returns-in-Some-clause-ok g c =
    on_ok_weaker c.put_tail.result
    (λ put. seed-put c.args.job.now c.args.seed c.args.played.now c.requires.may c.requires.played _ (ap tallies_of c.requires.alone)
    c.in-Some.ending _ _ _ _ _ _ (c.in_ok-put_head.ensures.ok (g.C.Sink.written c.args.console.now)) c.in-Some.ensures.console
    c.in-Some.ensures.report
    (put (g.C.Sink.written c.put_run.new.console)
    ∙ ap (λ (t : List ℕ). after (ends (g.C.Sink.written c.put_run.new.console) (g.R.Sink.written c.put_run.new.report))
    (piece_if c.args.job.now.statistics t ++ Report (end_line c.in-Some.ending) ∷ [])) c.as_slice.ensures.value))
    c.put_tail.ensures.ok

pub returns-in-Some-clause-cause : goal.returns-in-Some-clause-cause
returns-in-Some-clause-cause g c =
    on_err_weaker c.put_tail.result
    (λ rose. inr (rose-later (g.R.Sink.faults c.args.report.now) (g.R.Sink.faults c.put_run.new.report)
    (g.R.Sink.faults c.put_tail.new.report) (omega (arith, c.put_head.ensures.later, c.put_run.ensures.report_later)) rose))
    c.put_tail.ensures.cause
