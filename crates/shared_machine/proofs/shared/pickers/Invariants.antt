use Rattle.std.proofs.Common.{◌≡◌, [], vec_len}
use Rattle.shared_machine.specs.Pickers.{AreDrawn}
use Rattle.shared_machine.proofs.shared.pickers.Given as goal

abbrev pub invariant-workers : goal.invariant-workers
invariant-workers l = AreDrawn l.seed [] l.pickers.items × (vec_len l.pickers ≡ l.worker)
