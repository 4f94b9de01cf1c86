use Rattle.std.proofs.Common.{List, ℕ, [], ◌∷◌, ap, subst, ◌∙◌}
use Rattle.sink_pieces.specs.Pieces.{Report, ends, after, Breaks}
use Rattle.rolled_replay.specs.Text.{control_line}
use Rattle.rolled_replay.proofs.leading.put_control.Goals as goal

pub returns-in-Ok-clause-ok : goal.returns-in-Ok-clause-ok
returns-in-Ok-clause-ok g c =
    λ r. c.in-Ok.ensures.ok r
    ∙ ap (λ (t : List ℕ). after (ends r (g.R.Sink.written c.args.report.now)) (Report t ∷ []))
    (c.bytes.ensures ∙ c.write_line.ensures ∙ ap (control_line c.args.place c.args.control.now) c.control-next.ensures.reply)

pub returns-in-Err-clause-err : goal.returns-in-Err-clause-err
returns-in-Err-clause-err g c =
    λ r. subst (λ (t : List ℕ). Breaks (Report t ∷ []) (ends r (g.R.Sink.written c.args.report.now))
    (ends r (g.R.Sink.written c.put_report.new.report)))
    (c.bytes.ensures ∙ c.write_line.ensures ∙ ap (control_line c.args.place c.args.control.now) c.control-next.ensures.reply)
    (c.in-Err.ensures.err r)
