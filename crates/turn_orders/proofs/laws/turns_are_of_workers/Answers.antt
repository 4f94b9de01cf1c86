use Rattle.turn_orders.proofs.Schedulers.{worker-below}
use Rattle.turn_orders.proofs.laws.turns_are_of_workers.Goals as goal

pub returns : goal.returns
returns c = worker-below
