use Rattle.ordered_run.proofs.Leaving.{leaves-run, leaves-ends}
use Rattle.ordered_run.proofs.Outcomes.{ordered-by}
use Rattle.ordered_run.specs.Stands.{its_start}
use Rattle.ordered_run.proofs.running.finish.Goals as goal

pub returns-clause-run : goal.returns-clause-run
returns-clause-run g c =
    leaves-run c.args.course c.make_turns-finish.new.course (g.C.Sink.written c.args.console.now)
    (g.C.Sink.written c.make_turns-finish.new.console) (g.C.Sink.faults c.args.console.now)
    (g.C.Sink.faults c.make_turns-finish.new.console) c.make_turns-finish.ensures.stands c.make_turns-finish.ensures.same c.requires.fresh

pub returns-clause-ends : goal.returns-clause-ends
returns-clause-ends g c =
    leaves-ends c.args.course c.make_turns-finish.new.course (g.C.Sink.written c.args.console.now)
    (g.C.Sink.written c.make_turns-finish.new.console) (g.C.Sink.faults c.args.console.now)
    (g.C.Sink.faults c.make_turns-finish.new.console) c.make_turns-finish.ensures.stands c.make_turns-finish.ensures.same c.requires.fresh
    c.make_turns-finish.result c.make_turns-finish.ensures.ends

pub returns-clause-ordered : goal.returns-clause-ordered
returns-clause-ordered g c =
    let d = c.make_turns-finish.new.course in
    ordered-by d.scheduler.order c.args.course.scheduler.order (its_start d) (its_start c.args.course) d.journal.items
    c.make_turns-finish.ensures.same.order c.make_turns-finish.ensures.same.start c.make_turns-finish.ensures.stands.ordered

pub returns-clause-counts : goal.returns-clause-counts
returns-clause-counts g c = c.make_turns-finish.ensures.counts
