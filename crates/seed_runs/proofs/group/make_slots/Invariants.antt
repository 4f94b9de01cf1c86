use Rattle.std.proofs.Common.{◌≡◌, vec_len}
use Rattle.seed_runs.proofs.group.make_slots.Given as goal

abbrev pub invariant-slots : goal.invariant-slots
invariant-slots l = vec_len l.slots ≡ l._place
