-- Tables of distances, as the code fills them: the distance of switch s at place s.
use Rattle.std.specs.Prelude.{◌≡◌, ℕ, ◌+◌, ◌*◌, ◌<◌, ◌≤◌, Bool, ◌&&◌, ◌||◌, nat_eq, nat_le, if◌then◌else◌, List, [], slice_index}
use Rattle.std.specs.Prelude.{slice_index_or}
use Rattle.route_plan.specs.Grid.{after, before, along, partner}
use Rattle.route_plan.specs.Distances.{Switches, is_living, comes, distance}

-- the distance where it is at most so many links, and 32 for all others
unfoldable pub level : Switches → ℕ → ℕ → ℕ → ℕ
level m to links s = if comes m to links s then distance m to s else 32

abbrev pub IsLevel : Switches → ℕ → ℕ → List ℕ → Type 0
IsLevel m to links table = (s : ℕ) → s < 2 * m.nodes → slice_index table s ≡ level m to links s

-- whether a neighbour is at most so many links away
unfoldable pub is_near : ℕ → ℕ → List ℕ → ℕ → Bool
is_near nodes links table s =
    nat_le (slice_index table (along after nodes s)) links || nat_le (slice_index table (along before nodes s)) links
    || nat_le (slice_index table (partner s)) links

-- whether a switch is one of the next level: a living one that isn't reached yet, and has a neighbour that is
unfoldable pub is_next : Switches → ℕ → List ℕ → ℕ → Bool
is_next m links table s = nat_eq (slice_index table s) 32 && is_living m s && is_near m.nodes links table s

unfoldable pub level_after : Switches → ℕ → List ℕ → ℕ → ℕ
level_after m links table s = if is_next m links table s then links + 1 else slice_index table s

abbrev pub IsTable : Switches → ℕ → List ℕ → Type 0
IsTable m to table = (s : ℕ) → s < 2 * m.nodes → slice_index table s ≡ distance m to s

-- how many nodes a machine may have
pub record IsSized (m : Switches) : Type 0 where
  pub some : 1 ≤ m.nodes
  pub few : m.nodes ≤ 16

-- a table for each node
abbrev pub AreTables : Switches → List (List ℕ) → Type 0
AreTables m tables = (to : ℕ) → to < m.nodes → IsTable m to (slice_index_or tables to [])

pub record IsFilled (m : Switches) (tables : List (List ℕ)) : Type 0 where
  pub sized : IsSized m
  pub all : AreTables m tables
