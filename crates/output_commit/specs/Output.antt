-- Output that is held until its checkpoint is validated.
use Rattle.std.specs.Prelude.{ℕ, List}
pub use Rattle.interval_list.specs.declared.Waiting.{Waiting}

-- the bytes that are held, in the order in which they were put, the bytes that were released, and how many more may be
-- put
pub record Output : Type 0 where
  pub held : List (Waiting ℕ)
  pub released : List ℕ
  pub room : ℕ
