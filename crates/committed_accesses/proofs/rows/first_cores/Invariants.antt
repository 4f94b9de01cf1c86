use Rattle.std.proofs.Common.{◌≡◌}
use Rattle.rv_core.specs.Flat.{first_cores}
use Rattle.committed_accesses.proofs.rows.first_cores.Given as goal

abbrev pub invariant-nodes : goal.invariant-nodes
invariant-nodes l = l.cores.items ≡ first_cores l.number l.entry
