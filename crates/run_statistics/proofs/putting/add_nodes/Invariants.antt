use Rattle.std.proofs.Common.{◌≡◌, ◌++◌}
use Rattle.run_statistics.specs.Lines.{node_lines}
use Rattle.run_statistics.proofs.putting.add_nodes.Given as goal

abbrev pub invariant-nodes : goal.invariant-nodes
invariant-nodes l = l.text.items ≡ l.initial.text.items ++ node_lines l.x l.number
