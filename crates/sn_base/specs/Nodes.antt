-- Sets of nodes, as the marks of the nodes in order of their numbers.
use Rattle.std.specs.Prelude.{ℕ, Bool, false, List, slice_index_or}

-- whether the node is in the set
abbrev pub has_node : List Bool → ℕ → Bool
has_node set node = slice_index_or set node false
