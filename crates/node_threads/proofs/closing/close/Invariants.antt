use Rattle.std.proofs.Common.{◌≡◌, ◌-◌, false, length}
use Rattle.node_threads.proofs.closing.close.Given as goal

abbrev pub invariant-turns : goal.invariant-turns
invariant-turns g l = (l.all.parts ≡ l.initial.all.parts) × (l.locked.stopped ≡ false)

abbrev pub decreases-turns : goal.decreases-turns
decreases-turns g l = l.locked.budget - length l.locked.journal
