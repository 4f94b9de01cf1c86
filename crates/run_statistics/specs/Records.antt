-- Whose records these are.
use Rattle.std.specs.Prelude.{ℕ, List, map}
use Rattle.rv_core.specs.declared.step.Record.{Record}

-- the node of each, in order
abbrev pub nodes_of : List Record → List ℕ
nodes_of records = map (λ (r : Record). r.core) records
