use Rattle.trace_check.specs.Slots.{AreFresh}
use Rattle.trace_check.proofs.cores.fresh_slots.Given as goal

abbrev pub invariant-nodes : goal.invariant-nodes
invariant-nodes l = AreFresh l.number l.slots.items
