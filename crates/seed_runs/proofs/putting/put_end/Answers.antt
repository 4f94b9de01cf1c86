use Rattle.std.proofs.Common.{ℕ, List, [], ◌∷◌, ap, subst, ◌∙◌}
use Rattle.std.proofs.lemmas.Result.{on_ok_weaker, on_err_weaker}
use Rattle.sink_pieces.specs.Pieces.{Report, ends, after, Breaks}
use Rattle.seed_runs.proofs.putting.put_end.Goals as goal

pub returns-clause-ok : goal.returns-clause-ok
returns-clause-ok g c =
    on_ok_weaker c.put_report.result
    (λ put. λ r. put r ∙ ap (λ (t : List ℕ). after (ends r (g.R.Sink.written c.args.report.now)) (Report t ∷ []))
    (c.bytes.ensures ∙ c.write_end.ensures))
    c.put_report.ensures.ok

pub returns-clause-err : goal.returns-clause-err
returns-clause-err g c =
    on_err_weaker c.put_report.result
    (λ broke. λ r. subst (λ (t : List ℕ). Breaks (Report t ∷ []) (ends r (g.R.Sink.written c.args.report.now))
    (ends r (g.R.Sink.written c.put_report.new.report))) (c.bytes.ensures ∙ c.write_end.ensures) (broke r))
    c.put_report.ensures.err
