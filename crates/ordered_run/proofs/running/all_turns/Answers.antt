use Rattle.std.proofs.Common.{◌≡◌, ◌+◌, length, sym, ap, subst, ◌∙◌}
use Rattle.std.specs.Prelude.{Some}
use Rattle.run_journals.specs.Journal.{Began}
use Rattle.node_run.specs.Finishes.{IsRunOf, finish_by}
use Rattle.node_run.specs.Pieces.{begins}
use Rattle.ordered_run.specs.Stands.{its_start}
use Rattle.ordered_run.proofs.Leaving.{counts-first, on-by}
use Rattle.ordered_run.proofs.Outcomes.{ordered-by, whole-by_finish, unstopped-by}
use Rattle.ordered_run.proofs.running.all_turns.Goals as goal

pub finish-finished-requires-clause-counts : goal.finish-finished-requires-clause-counts
finish-finished-requires-clause-counts c =
    counts-first c.in-Ok.course c.new-count.result c.args.job.program c.args.job.config (c.args.job.budget + 1) c.in-Ok.ensures.machine
    c.in-Ok.ensures.journal c.requires.fits c.new-count.ensures.counts

pub returns-clause-run : goal.returns-clause-run
returns-clause-run c =
    let left = c.finish-finished.result in
    subst (λ (b : Began). IsRunOf b left.machine left.journal.items left.answers.items) c.in-Ok.ensures.began
    c.finish-finished.ensures.run

pub returns-clause-finish : goal.returns-clause-finish
returns-clause-finish c =
    let left = c.finish-finished.result in
    ap (λ (b : Began). finish_by b left.journal.items) (sym c.in-Ok.ensures.began)
    ∙ unstopped-by (its_start c.in-Ok.course) left.journal.items left.finish _ _ _ c.finish-finished.ensures.ends

pub returns-clause-journal : goal.returns-clause-journal
returns-clause-journal c =
    let course = c.in-Ok.course in let left = c.finish-finished.result in
    let run = subst (λ (b : Began). IsRunOf b left.machine left.journal.items left.answers.items) c.in-Ok.ensures.began
    c.finish-finished.ensures.run in
    let is : finish_by (begins c.args.job) left.journal.items ≡ Some left.finish =
    ap (λ (b : Began). finish_by b left.journal.items) (sym c.in-Ok.ensures.began)
    ∙ unstopped-by (its_start course) left.journal.items left.finish _ _ _ c.finish-finished.ensures.ends in
    whole-by_finish c.args.order c.args.job left.journal.items
    (ordered-by course.scheduler.order c.args.order (its_start course) (begins c.args.job) left.journal.items c.in-Ok.ensures.order
    c.in-Ok.ensures.began c.finish-finished.ensures.ordered) left.finish run.few is

pub returns-clause-counts : goal.returns-clause-counts
returns-clause-counts c = c.finish-finished.ensures.counts

pub returns-clause-on : goal.returns-clause-on
returns-clause-on c =
    on-by c.args.counted c.finish-finished.new.count.on c.lacks_memory.result c.lacks_memory.ensures c.if-lacks_memory.false
