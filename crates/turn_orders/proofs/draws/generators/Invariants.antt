use Rattle.std.proofs.Common.{◌≡◌, [], vec_len}
use Rattle.turn_orders.specs.Drawn.{AreDrawn}
use Rattle.turn_orders.proofs.draws.generators.Given as goal

abbrev pub invariant-workers : goal.invariant-workers
invariant-workers l = AreDrawn l.seed [] l.generators.items × (vec_len l.generators ≡ l.worker)
