-- Bytes that go from one place to the next.
use Rattle.std.specs.Prelude.{◌≡◌, ℕ, List, ◌++◌, Option}
use Rattle.sn_io.specs.Outside.{followed_by}

-- the first of a text
pub record IsFirstOf (first text : List ℕ) : Type 0 where
  pub rest : List ℕ
  pub whole : first ++ rest ≡ text

-- the bytes that a list has more than before were written, and nothing else
pub record IsHandedOn (before after : List ℕ) (written writes : Option (List ℕ)) : Type 0 where
  pub more : List ℕ
  pub grown : before ++ more ≡ after
  pub put : writes ≡ followed_by written more

-- the first of the bytes that a list has more than before were written, and nothing else
pub record IsBegun (before after : List ℕ) (written writes : Option (List ℕ)) : Type 0 where
  pub more : List ℕ
  pub begun : IsFirstOf (before ++ more) after
  pub put : writes ≡ followed_by written more
