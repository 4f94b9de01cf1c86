use Rattle.std.proofs.Common.{◌≡◌, ◌≤◌, ◌++◌, replicate}
use Rattle.std.specs.Prelude.{vec_capacity}
use Rattle.sparse_table.proofs.add_page.Given as goal

-- so many usual values are there
abbrev pub invariant-each : goal.invariant-each
invariant-each g l =
    (l.values.items ≡ l.initial.values.items ++ replicate l.counter g.T.Usual.usual) × (vec_capacity l.initial.values ≤ vec_capacity l.values)
