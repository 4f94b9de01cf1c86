use Rattle.std.proofs.Common.{sym}
use Rattle.node_run.proofs.Ended.{report-broke}
use Rattle.node_run.proofs.reporting.put_ended.Goals as goal

pub returns-in-Err-clause-none : goal.returns-in-Err-clause-none
returns-in-Err-clause-none g c = λ no.
    report-broke c.args.finished.now.machine c.as_slice-journal.result.now c.args.finished.now.journal.items c.args.finished.now.finish
    c.args.showing.now _ c.in-Some.ending (g.R.Sink.written c.args.report.now) (g.R.Sink.written c.put_run.new.report)
    (sym c.in-Some.ensures) c.as_slice-journal.ensures.value c.in-Err.ensures.err
