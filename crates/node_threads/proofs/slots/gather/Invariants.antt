use Rattle.std.proofs.Common.{◌≡◌, ◌+◌, vec_len}
use Rattle.node_threads.proofs.slots.gather.Given as goal

abbrev pub invariant-slots : goal.invariant-slots
invariant-slots g l = l.all.parts + vec_len l.slots ≡ l.initial.all.parts + vec_len l.initial.slots

abbrev pub decreases-slots : goal.decreases-slots
decreases-slots g l = vec_len l.slots
