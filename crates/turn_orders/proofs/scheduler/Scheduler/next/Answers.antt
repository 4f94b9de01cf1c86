use Rattle.std.proofs.Common.{ℕ, ◌+◌, ◌%◌, ap, subst, sym, ◌∙◌}
use Rattle.run_journals.specs.Picks.{pick_of}
use Rattle.turn_orders.specs.declared.order.Order.{Order}
use Rattle.turn_orders.specs.declared.order.Order.TheVariants.{Drawn}
use Rattle.turn_orders.specs.Orders.{scheduler, worker_of}
use Rattle.turn_orders.specs.Scheduled.{SchedulerData, HasDrawn}
use Rattle.turn_orders.proofs.Schedulers.{word-drawn, next-drawn}
use Rattle.turn_orders.proofs.scheduler.Scheduler.next.Goals as goal

pub invariant_of-self-in-Drawn : goal.invariant_of-self-in-Drawn
invariant_of-self-in-Drawn c =
    let s = c.self.inside in
    let here = subst (λ (o : Order). HasDrawn o s.seed s.had s.generator) c.in-Drawn.is c.self.invariant.1 in (
      c.self.invariant.0,
      subst (λ (o : Order). HasDrawn o s.seed (s.had + 1) c.next_word.new.self) (sym c.in-Drawn.is)
          (next-drawn s.seed s.had c.next_word.result s.generator c.next_word.new.self here c.next_word.ensures),
    )

pub returns-in-Drawn-clause-worker : goal.returns-in-Drawn-clause-worker
returns-in-Drawn-clause-worker c =
    let s = c.self.inside in
    let here = subst (λ (o : Order). HasDrawn o s.seed s.had s.generator) c.in-Drawn.is c.self.invariant.1 in
    ap (λ (k : ℕ). k % c.from-workers.result)
    (word-drawn s.seed s.had c.next_word.result s.generator c.next_word.new.self here c.next_word.ensures)
    ∙ ap (λ (k : ℕ). pick_of s.seed scheduler s.had % k) c.from-workers.ensures
    ∙ ap (λ (o : Order). worker_of o s.seed s.workers s.had) (sym c.in-Drawn.is)
    ∙ ap (λ (d : SchedulerData). worker_of d.order d.seed d.workers d.had) c.self.view_is
