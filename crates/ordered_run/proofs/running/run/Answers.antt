use Rattle.std.proofs.Common.{◌+◌, List, length, refl, ap, ◌∙◌}
use Rattle.sn_base.specs.declared.event.Answer.{Answer}
use Rattle.run_journals.proofs.Folds.{length-answers_of}
use Rattle.node_run.specs.Pieces.{begins}
use Rattle.node_run.proofs.Runs.{cores-at_start, run-reported, run-unreported}
use Rattle.ordered_run.specs.Stands.{its_start}
use Rattle.ordered_run.proofs.Leaving.{counts-first}
use Rattle.ordered_run.proofs.Outcomes.{ordered-by, ordered-done, ordered-broken, cause-by}
use Rattle.ordered_run.proofs.running.run.Goals as goal

pub finish-finished-requires-clause-counts : goal.finish-finished-requires-clause-counts
finish-finished-requires-clause-counts g c =
    counts-first c.in-Ok-start.course c.new-count.result c.args.job.program c.args.job.config (c.args.job.budget + 1)
    c.in-Ok-start.ensures.machine c.in-Ok-start.ensures.journal c.requires.fits c.new-count.ensures.counts

pub tell-requires : goal.tell-requires
tell-requires g c = ap (λ (l : List Answer). length l) c.finish-finished.ensures.run.answers_are ∙ length-answers_of _ _

pub put_ended-ended-requires-clause-start : goal.put_ended-ended-requires-clause-start
put_ended-ended-requires-clause-start g c =
    let left = c.finish-finished.result in
    cores-at_start c.args.job (its_start c.in-Ok-start.course) left.machine left.journal.items left.answers.items
    c.in-Ok-start.ensures.began c.finish-finished.ensures.run c.requires _ c.in-Ok.ensures

pub returns-in-Some-clause-ok : goal.returns-in-Some-clause-ok
returns-in-Some-clause-ok g c =
    let course = c.in-Ok-start.course in let left = c.finish-finished.result in
    ordered-done c.args.order c.args.job left.journal.items
    (ordered-by course.scheduler.order c.args.order (its_start course) (begins c.args.job) left.journal.items c.in-Ok-start.ensures.order
    c.in-Ok-start.ensures.began c.finish-finished.ensures.ordered) _ _ c.in-Some.ending _ _
    (run-reported c.args.job (its_start course) left.machine left.journal.items left.answers.items c.in-Ok-start.ensures.began
    c.finish-finished.ensures.run c.requires left.finish (g.C.Sink.faults c.args.console.now) (g.C.Sink.faults c.finish-finished.new.console)
    (g.C.Sink.written c.args.console.now) (g.C.Sink.written c.finish-finished.new.console) (g.R.Sink.written c.args.report.now)
    (g.R.Sink.written c.put_ended-ended.new.report) _ _ c.finish-finished.ensures.ends c.tell.ensures c.in-Some.ending c.in-Some.ensures.some)

pub returns-in-None-clause-sink : goal.returns-in-None-clause-sink
returns-in-None-clause-sink g c = λ no.
    let course = c.in-Ok-start.course in let left = c.finish-finished.result in
    ordered-broken c.args.order c.args.job left.journal.items
    (ordered-by course.scheduler.order c.args.order (its_start course) (begins c.args.job) left.journal.items c.in-Ok-start.ensures.order
    c.in-Ok-start.ensures.began c.finish-finished.ensures.ordered) _ _ (g.C.Sink.faults c.args.console.now)
    (g.C.Sink.faults c.finish-finished.new.console) _ _
    (run-unreported c.args.job (its_start course) left.machine left.journal.items left.answers.items c.in-Ok-start.ensures.began
    c.finish-finished.ensures.run c.requires left.finish (g.C.Sink.faults c.args.console.now) (g.C.Sink.faults c.finish-finished.new.console)
    (g.C.Sink.written c.args.console.now) (g.C.Sink.written c.finish-finished.new.console) (g.R.Sink.written c.args.report.now)
    (g.R.Sink.written c.put_ended-ended.new.report) _ _ c.finish-finished.ensures.ends c.tell.ensures (c.in-None.ensures.none refl))

pub returns-in-None-clause-cause : goal.returns-in-None-clause-cause
returns-in-None-clause-cause g c = λ no.
    let left = c.finish-finished.result in
    cause-by (its_start c.in-Ok-start.course) left.machine.config.nodes _ left.journal.items left.finish left.machine.state.released
    (g.C.Sink.written c.args.console.now) (g.C.Sink.written c.finish-finished.new.console) (g.C.Sink.faults c.args.console.now)
    (g.C.Sink.faults c.finish-finished.new.console) _ c.finish-finished.ensures.ends (c.in-None.ensures.cause refl)
