-- Bytes that are held, by the nodes that put them out.
use Rattle.std.specs.Prelude.{ℕ, Bool, nat_lt, nat_le, List, map}
use Rattle.run_statistics.specs.declared.puts.Put.{Put}
use Rattle.run_statistics.specs.Numbers.{times_named}

-- how many of these each node has
abbrev pub puts_by_node : List Put → List ℕ
puts_by_node puts = times_named (map (λ (p : Put). p.node) puts)

-- whether a byte is of an interval before a checkpoint, or of one behind it
abbrev pub is_before : ℕ → Put → Bool
is_before k p = nat_lt p.interval k

abbrev pub is_from : ℕ → Put → Bool
is_from k p = nat_le k p.interval
