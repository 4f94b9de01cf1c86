use Rattle.std.proofs.Common.{None, ap, ◌∙◌, append-nil}
use Rattle.sn_io.specs.Outside.{followed_by}
use Rattle.sink_pieces.proofs.Begun.{report-after}
use Rattle.access_texts.proofs.verdicts.put_verdict.Goals as goal

pub returns-in-Ok-put_report-clause-ok : goal.returns-in-Ok-put_report-clause-ok
returns-in-Ok-put_report-clause-ok g c =
    report-after _ _ _ (c.in-Ok-put_report.ensures.ok None)
    ∙ ap (followed_by (g.R.Sink.written c.args.report.now)) (append-nil c.as_slice.result.now ∙ c.as_slice.ensures.value ∙ c.in-Ok.ensures)
