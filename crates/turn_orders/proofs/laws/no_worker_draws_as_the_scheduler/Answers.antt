use Rattle.turn_orders.proofs.Schedulers.{same-apart, other-apart, scheduler-seeded}
use Rattle.turn_orders.proofs.laws.no_worker_draws_as_the_scheduler.Goals as goal

pub returns-clause-seeded : goal.returns-clause-seeded
returns-clause-seeded c = scheduler-seeded

pub returns-clause-same : goal.returns-clause-same
returns-clause-same c = same-apart

pub returns-clause-other : goal.returns-clause-other
returns-clause-other c = other-apart
