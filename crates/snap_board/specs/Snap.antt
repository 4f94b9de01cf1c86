-- A snapshot as a value.
use Rattle.std.specs.Prelude.{ℕ, List}
use Rattle.rv_core.specs.declared.state.CoreState.{CoreState}

-- a recovery point, how many records are committed there, and of the flat machine after them the cores in order of their nodes
-- and the word that is watched
pub record SnapData : Type 0 where
  pub point : ℕ
  pub committed : ℕ
  pub cores : List CoreState
  pub word : ℕ
