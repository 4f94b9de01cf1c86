use Rattle.std.proofs.Common.{◌≡◌, Bool, Option, Some, None, is_some, refl, sym, ap, ◌∙◌, if◌then◌else◌}
use Rattle.node_run.specs.Finish.TheVariants.{Budget}
use Rattle.node_run.specs.Finish.{Finish}
use Rattle.node_run.proofs.Refusals.{due-some, unspent}
use Rattle.ordered_run.proofs.turns.drive.Goals as goal

pub returns-in_default-clause-err : goal.returns-in_default-clause-err
returns-in_default-clause-err c = (c.cause.ensures.same.0, c.cause.ensures.same.1, c.cause.ensures.cause c.args.spent)

pub returns-then-spent-clause-err : goal.returns-then-spent-clause-err
returns-then-spent-clause-err c = (
  refl,
  refl,
  due-some c.args.driver.now c.args.machine.now c.args.worker c.args.pick c.args.spent (ap is_some (sym c.in-Some.ensures.due))
      ∙ ap (λ (b : Bool). let none : Option Finish = None in if b then Some Budget else none) c.if-spent.true,
)

pub returns-clause-ok : goal.returns-clause-ok
returns-clause-ok c =
    let due = sym c.in-Some.ensures.due in record {
      unrefused = unspent c.args.driver.now c.args.machine.now c.args.worker c.args.pick c.args.spent _ due c.if-spent.false;
      unspent = c.if-spent.false;
      due = due;
      applied = c.apply-answer.ensures.applied;
      counted = c.apply-answer.ensures.noted;
      later = c.apply-answer.ensures.later;
    }

pub returns-clause-counts : goal.returns-clause-counts
returns-clause-counts c = λ events had. c.apply-answer.ensures.counts events had
