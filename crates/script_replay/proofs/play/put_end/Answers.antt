use Rattle.std.proofs.Common.{All, ap, subst, ◌∙◌}
use Rattle.std.proofs.lemmas.Result.{err_from_is_err_and}
use Rattle.due_events.specs.Machine.{MachineData}
use Rattle.sn_text.specs.Written.{HasValues}
use Rattle.script_replay.proofs.PieceLaws.{end-plain, end-plain_breaks, end-traced, end-traced_breaks_first, end-traced_breaks_second}
use Rattle.script_replay.proofs.play.put_end.Goals as goal

pub returns-in_err-put_trace-in-Trace-clause-err : goal.returns-in_err-put_trace-in-Trace-clause-err
returns-in_err-put_trace-in-Trace-clause-err g c =
    let p = err_from_is_err_and c.from_residual.result c.from_residual.ensures.1 in
    rw p.1 (λ r. end-traced_breaks_first c.args.machine.now c.args.showing.now _ c.committed.result.now c.in-Trace.is
    (c.committed.ensures ∙ ap (λ (t : MachineData). t.state.committed) c.recovered-view.ensures.shown) _ _
    (c.in_err-put_trace-in-Trace.ensures.err r))

pub returns-in_err-put_summary-in-Trace-clause-err : goal.returns-in_err-put_summary-in-Trace-clause-err
returns-in_err-put_summary-in-Trace-clause-err g c =
    let p = err_from_is_err_and c.from_residual-in_err-put_summary-in-Trace.result c.from_residual-in_err-put_summary-in-Trace.ensures.1 in
    rw p.1 (λ r. end-traced_breaks_second c.args.machine.now c.args.showing.now _ c.committed.result.now c.in-Trace.is
    (c.committed.ensures ∙ ap (λ (t : MachineData). t.state.committed) c.recovered-view.ensures.shown) _ _ _
    (c.in_ok-put_trace-in-Trace.ensures.ok r) (c.in_err-put_summary-in-Trace.ensures.err r))

pub returns-in_ok-put_summary-in-Trace-clause-ok : goal.returns-in_ok-put_summary-in-Trace-clause-ok
returns-in_ok-put_summary-in-Trace-clause-ok g c = λ r.
    end-traced c.args.machine.now c.args.showing.now _ c.committed.result.now c.in-Trace.is
    (c.committed.ensures ∙ ap (λ (t : MachineData). t.state.committed) c.recovered-view.ensures.shown) _ _ _
    (c.in_ok-put_trace-in-Trace.ensures.ok r) (c.in_ok-put_summary-in-Trace.ensures.ok r)

pub returns-in_ok-put_summary-in-Trace-clause-values : goal.returns-in_ok-put_summary-in-Trace-clause-values
returns-in_ok-put_summary-in-Trace-clause-values g c = λ is.
    subst (All HasValues) (c.committed.ensures ∙ ap (λ (t : MachineData). t.state.committed) c.recovered-view.ensures.shown)
    c.in_ok-put_trace-in-Trace.ensures.values

pub returns-in_err-put_summary-in_default : goal.returns-in_err-put_summary-in_default
returns-in_err-put_summary-in_default g c =
    let p = err_from_is_err_and c.from_residual-in_err-put_summary-in_default.result
    c.from_residual-in_err-put_summary-in_default.ensures.1 in
    record {
      ok = rw p.1 tt;
      values = rw p.1 tt;
      err =
          rw p.1 (λ r. end-plain_breaks c.args.machine.now c.args.showing.now _ c.in_default.not-Trace _ _
          (c.in_err-put_summary-in_default.ensures.err r));
      later = c.put_summary-in_default.ensures.later;
      cause = rw p.1 c.in_err-put_summary-in_default.ensures.cause;
    }

pub returns-in_ok-put_summary-in_default : goal.returns-in_ok-put_summary-in_default
returns-in_ok-put_summary-in_default g c = record {
  ok = λ r. end-plain c.args.machine.now c.args.showing.now _ c.in_default.not-Trace _ _ (c.in_ok-put_summary-in_default.ensures.ok r);
  values = λ is. absurd (c.in_default.not-Trace is);
  err = tt;
  later = c.put_summary-in_default.ensures.later;
  cause = tt;
}
