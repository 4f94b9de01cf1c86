use Rattle.std.proofs.Common.{ℕ, List, [], ◌∷◌, refl, ap, subst, ◌∙◌}
use Rattle.sink_pieces.specs.Pieces.{Report, ends, after, Breaks}
use Rattle.seed_runs.proofs.Puts.{caused, counted-done, run-broke, statistics-broke}
use Rattle.seed_runs.proofs.counted.put_counted.Goals as goal

pub returns-in_default-clause-none : goal.returns-in_default-clause-none
returns-in_default-clause-none g c = λ r its may played same no.
    run-broke r its _ c.args.played.now played may _ _ c.tell.ensures refl c.args.showing.now same _ _
    (c.in_default.ensures.none refl)

pub returns-in_default-clause-cause : goal.returns-in_default-clause-cause
returns-in_default-clause-cause g c = λ r its may played no.
    caused r its _ c.args.played.now played may _ (c.in_default.ensures.cause refl)

pub returns-in-Ok-clause-some : goal.returns-in-Ok-clause-some
returns-in-Ok-clause-some g c = λ r its may played same.
    counted-done r its _ c.args.played.now played may _ _ c.tell.ensures refl c.args.showing.now same c.in-Some.ending
    _ _ _ _ _ c.in-Some.ensures.console c.in-Some.ensures.report
    (c.in-Ok.ensures.ok (g.C.Sink.written c.put_run.new.console)
    ∙ ap (λ (t : List ℕ). after (ends (g.C.Sink.written c.put_run.new.console) (g.R.Sink.written c.put_run.new.report)) (Report t ∷ []))
    c.as_slice.ensures.value)

pub returns-in-Err-clause-none : goal.returns-in-Err-clause-none
returns-in-Err-clause-none g c = λ r its may played same no.
    statistics-broke r its _ c.args.played.now played may _ _ c.tell.ensures refl c.args.showing.now same c.in-Some.ending
    _ _ _ _ _ c.in-Some.ensures.console c.in-Some.ensures.report
    (subst (λ (t : List ℕ). Breaks (Report t ∷ []) (ends (g.C.Sink.written c.put_run.new.console) (g.R.Sink.written c.put_run.new.report))
    (ends (g.C.Sink.written c.put_run.new.console) (g.R.Sink.written c.put_report.new.report)))
    c.as_slice.ensures.value (c.in-Err.ensures.err (g.C.Sink.written c.put_run.new.console)))
