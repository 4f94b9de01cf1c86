use Rattle.std.proofs.Common.{◌≡◌, length}
use Rattle.rv_core.specs.Flat.{first_cores}
use Rattle.sn_flat.proofs.flat.starting_cores.Given as goal

abbrev pub invariant-nodes : goal.invariant-nodes
invariant-nodes l = (l.cores.items ≡ first_cores l.number l.entry) × (length l.cores.items ≡ l.number)
