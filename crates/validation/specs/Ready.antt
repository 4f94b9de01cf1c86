-- Which checkpoint all nodes are ready for.
use Rattle.std.specs.Prelude.{ℕ, ◌+◌, ◌≤◌, List, length, slice_index, nat_le, Option, Some, None, Result, Ok, Err}
use Rattle.std.specs.List.{position}
pub use Rattle.validation.specs.declared.NotReady.{NotReady}

-- the recovery point, and the checkpoint that each node reported last, in order of the nodes
pub record Reports : Type 0 where
  pub point : ℕ
  pub reported : List ℕ

-- the least node whose reported checkpoint isn't above the point
abbrev pub least_behind : ℕ → List ℕ → Option ℕ
least_behind point reported = position (λ k. nat_le k point) reported

-- the next recovery point, or the node that isn't ready for it
abbrev pub next_or_behind : Reports → Option ℕ → Result ℕ NotReady
next_or_behind r None = Ok (r.point + 1)
next_or_behind r (Some node) = Err (record { node = node; reported = slice_index r.reported node })

abbrev pub next_point_of : Reports → Result ℕ NotReady
next_point_of r = next_or_behind r (least_behind r.point r.reported)

-- a machine has 1 to 16 nodes
pub record HasNodes (r : Reports) : Type 0 where
  pub some : 1 ≤ length r.reported
  pub few : length r.reported ≤ 16
