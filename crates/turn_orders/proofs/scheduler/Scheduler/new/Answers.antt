use Rattle.turn_orders.proofs.Schedulers.{drawn-first}
use Rattle.turn_orders.proofs.scheduler.Scheduler.new.Goals as goal

pub invariant_of-result : goal.invariant_of-result
invariant_of-result c = (c.requires, drawn-first c.args.order c.args.seed _ c.seed_from_u64-generator.ensures)
