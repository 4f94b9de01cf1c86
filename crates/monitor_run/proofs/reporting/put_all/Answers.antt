use Rattle.std.proofs.Common.{ap, ◌∙◌}
use Rattle.std.proofs.lemmas.Result.{err_from_is_err_and}
use Rattle.sn_machine.specs.Machine.{MachineData}
use Rattle.monitor_run.proofs.MarkLaws.{all-put, console-breaks, rest-breaks}
use Rattle.monitor_run.proofs.reporting.put_all.Goals as goal

pub returns-in_err-put_console-clause-err : goal.returns-in_err-put_console-clause-err
returns-in_err-put_console-clause-err g c =
    let p = err_from_is_err_and c.from_residual.result c.from_residual.ensures.1 in
    let text = c.released.ensures ∙ ap (λ (m : MachineData). m.state.released) c.recovered.ensures.shown in
    rw p.1 (console-breaks _ c.args.machine.now.state.released text _ _ _ (c.in_err-put_console.ensures.err (g.R.Sink.written c.args.report.now)))

pub returns-in_err-put_report_of-clause-err : goal.returns-in_err-put_report_of-clause-err
returns-in_err-put_report_of-clause-err g c =
    let p = err_from_is_err_and c.from_residual-in_err-put_report_of.result c.from_residual-in_err-put_report_of.ensures.1 in
    let text = c.released.ensures ∙ ap (λ (m : MachineData). m.state.released) c.recovered.ensures.shown in
    rw p.1 (rest-breaks _ c.args.machine.now.state.released text _ _ _ _ (c.in_ok-put_console.ensures.ok (g.R.Sink.written c.args.report.now))
    (c.in_err-put_report_of.ensures.err (g.C.Sink.written c.put_console.new.console)))

pub returns-clause-ok : goal.returns-clause-ok
returns-clause-ok g c =
    let text = c.released.ensures ∙ ap (λ (m : MachineData). m.state.released) c.recovered.ensures.shown in
    all-put _ c.args.machine.now.state.released text _ _ _ _ (c.in_ok-put_console.ensures.ok (g.R.Sink.written c.args.report.now))
    (c.in_ok-put_report_of.ensures.ok (g.C.Sink.written c.put_console.new.console))
