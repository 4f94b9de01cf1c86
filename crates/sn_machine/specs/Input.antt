-- The bytes of input of a node.
use Rattle.std.specs.Prelude.{ℕ, List}

-- the bytes that it was given, in order, and for how many more there is room
pub record InputData : Type 0 where
  pub given : List ℕ
  pub room : ℕ
