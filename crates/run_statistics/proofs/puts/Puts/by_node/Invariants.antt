use Rattle.std.proofs.Common.{◌≡◌, drop}
use Rattle.std.specs.Prelude.{map}
use Rattle.run_statistics.specs.declared.puts.Put.{Put}
use Rattle.run_statistics.specs.Numbers.{with_one_each}
use Rattle.run_statistics.specs.Puts.{puts_by_node}
use Rattle.run_statistics.proofs.puts.Puts.by_node.Given as goal

abbrev pub invariant-puts : goal.invariant-puts
invariant-puts l = with_one_each l.numbers (map (λ (p : Put). p.node) (drop l.put-index l.self)) ≡ puts_by_node l.self
