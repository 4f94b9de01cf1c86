use Rattle.node_run.proofs.Journals.{summary-breaks, trace-breaks, rows-breaks, script-breaks}
use Rattle.node_run.proofs.Journals.{summary-numbers, trace-numbers, rows-numbers, script-numbers}
use Rattle.node_run.proofs.Journals.{summary-values, trace-values, rows-values, script-values}
use Rattle.node_run.proofs.reporting.put_run.Goals as goal

pub returns-in-Summary-clause-err : goal.returns-in-Summary-clause-err
returns-in-Summary-clause-err g c =
    summary-breaks c.args.machine.now c.args.journal.now c.args.showing.now _ c.put_summary.result _ _ c.in-Summary.is
    c.put_summary.ensures.err

pub returns-in-Trace-clause-err : goal.returns-in-Trace-clause-err
returns-in-Trace-clause-err g c =
    trace-breaks c.args.machine.now c.args.journal.now c.args.showing.now _ c.put_end.result _ _ c.in-Trace.is c.put_end.ensures.err

pub returns-in-Accesses-clause-err : goal.returns-in-Accesses-clause-err
returns-in-Accesses-clause-err g c =
    rows-breaks c.args.machine.now c.args.journal.now c.args.showing.now _ c.put_rows.result _ _ c.in-Accesses.is c.put_rows.ensures.err

pub returns-in-Journal-clause-err : goal.returns-in-Journal-clause-err
returns-in-Journal-clause-err g c =
    script-breaks c.args.machine.now c.args.journal.now c.args.showing.now _ c.put_script.result _ _ c.in-Journal.is
    c.put_script.ensures.err

pub returns-in-Summary-clause-numbers : goal.returns-in-Summary-clause-numbers
returns-in-Summary-clause-numbers g c = summary-numbers c.args.journal.now c.args.showing.now c.put_summary.result c.in-Summary.is

pub returns-in-Trace-clause-numbers : goal.returns-in-Trace-clause-numbers
returns-in-Trace-clause-numbers g c = trace-numbers c.args.journal.now c.args.showing.now c.put_end.result c.in-Trace.is

pub returns-in-Accesses-clause-numbers : goal.returns-in-Accesses-clause-numbers
returns-in-Accesses-clause-numbers g c = rows-numbers c.args.journal.now c.args.showing.now c.put_rows.result c.in-Accesses.is

pub returns-in-Journal-clause-numbers : goal.returns-in-Journal-clause-numbers
returns-in-Journal-clause-numbers g c =
    script-numbers c.args.journal.now c.args.showing.now c.put_script.result c.put_script.ensures.numbers

pub returns-in-Summary-clause-values : goal.returns-in-Summary-clause-values
returns-in-Summary-clause-values g c =
    summary-values c.args.machine.now.state.committed c.args.showing.now c.put_summary.result c.in-Summary.is

pub returns-in-Trace-clause-values : goal.returns-in-Trace-clause-values
returns-in-Trace-clause-values g c =
    trace-values c.args.machine.now.state.committed c.args.showing.now c.put_end.result c.put_end.ensures.values

pub returns-in-Accesses-clause-values : goal.returns-in-Accesses-clause-values
returns-in-Accesses-clause-values g c =
    rows-values c.args.machine.now.state.committed c.args.showing.now c.put_rows.result c.in-Accesses.is

pub returns-in-Journal-clause-values : goal.returns-in-Journal-clause-values
returns-in-Journal-clause-values g c =
    script-values c.args.machine.now.state.committed c.args.showing.now c.put_script.result c.in-Journal.is
