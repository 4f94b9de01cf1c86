use Rattle.std.proofs.Common.{List, length, sym, ap, ◌∙◌}
use Rattle.sn_base.specs.declared.event.Answer.{Answer}
use Rattle.run_journals.proofs.Folds.{length-answers_of}
use Rattle.monitor_run.specs.Stands.{its_start}
use Rattle.monitor_run.proofs.Outcomes.{run-shown, run-broken}
use Rattle.monitor_run.proofs.monitoring.monitor.Goals as goal

pub tell-requires : goal.tell-requires
tell-requires g c =
    let s = c.in-Ok-start.started in
    ap (λ (l : List Answer). length l) c.in-Some.ensures.run.answers_are
    ∙ length-answers_of (its_start s.monitored s.turns) c.in-Some.left.turns.journal.items

pub returns-in-Ok-put-clause-ok : goal.returns-in-Ok-put-clause-ok
returns-in-Ok-put-clause-ok g c =
    let s = c.in-Ok-start.started in let left = c.in-Some.left in
    run-shown c.args.job c.requires (its_start s.monitored s.turns) c.in-Ok-start.ensures.began s.monitored.watch c.in-Ok-start.ensures.watch
    left.machine left.turns left.seen.items left.finish c.in-Some.ensures _ _ c.tell.ensures c.in-Some-how_ended.ending
    (sym c.how_ended.ensures ∙ c.in-Some-how_ended.is) _ _ c.as_slice.result.now c.as_slice.ensures.value c.in-Ok-put.ensures.ok

pub returns-in-Err-clause-sink : goal.returns-in-Err-clause-sink
returns-in-Err-clause-sink g c = λ no.
    let s = c.in-Ok-start.started in let left = c.in-Some.left in
    run-broken c.args.job c.requires (its_start s.monitored s.turns) c.in-Ok-start.ensures.began s.monitored.watch c.in-Ok-start.ensures.watch
    left.machine left.turns left.seen.items left.finish c.in-Some.ensures _ _ c.tell.ensures c.in-Some-how_ended.ending
    (sym c.how_ended.ensures ∙ c.in-Some-how_ended.is) _ _ c.as_slice.result.now c.as_slice.ensures.value c.in-Err.ensures.err
