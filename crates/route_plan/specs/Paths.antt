-- Paths of living switches, and what the routes are among them.
use Rattle.std.specs.Prelude.{◌≡◌, ℕ, ◌+◌, ◌*◌, ◌<◌, ◌≤◌, ◌⊎◌, true, List, [], ◌∷◌, length, Some, None}
use Rattle.route_plan.specs.Grid.{node_of, is_linked}
use Rattle.route_plan.specs.Distances.{Switches, is_living, distance}
use Rattle.route_plan.specs.Routes.{next_of}

-- A path is a list of living switches, each linked with the next: here its first and the others, so one of these for each link.
abbrev pub IsPath : Switches → ℕ → List ℕ → Type 0
IsPath m s [] = is_living m s ≡ true
IsPath m s (t ∷ others) = (is_living m s ≡ true) × (is_linked m.nodes s t ≡ true) × IsPath m t others

-- its last switch
abbrev pub last_of : ℕ → List ℕ → ℕ
last_of s [] = s
last_of s (t ∷ others) = last_of t others

-- a path from a switch to one of the node's
pub record IsPathTo (m : Switches) (to s : ℕ) (others : List ℕ) : Type 0 where
  pub path : IsPath m s others
  pub ends : node_of (last_of s others) ≡ to

-- some path leads from a switch of a to one of b
pub record AreJoined (m : Switches) (a b : ℕ) : Type 0 where
  pub first : ℕ
  pub others : List ℕ
  pub begins : node_of first ≡ a
  pub leads : IsPathTo m b first others

-- the walk that `next` gives from a switch, up to where it gives none
abbrev pub IsWalk : Switches → ℕ → ℕ → List ℕ → Type 0
IsWalk m to s [] = next_of m to s ≡ None
IsWalk m to s (t ∷ others) = (next_of m to s ≡ Some t) × IsWalk m to t others

-- that walk leads to the node, with as many links as the distance, and no path from the switch has fewer
pub record IsShortestWalk (m : Switches) (to s : ℕ) : Type 0 where
  pub others : List ℕ
  pub walk : IsWalk m to s others
  pub leads : IsPathTo m to s others
  pub links : length others ≡ distance m to s
  pub shortest : (path : List ℕ) → IsPathTo m to s path → length others ≤ length path

-- what `next` names: a living neighbour that is one link nearer, and no other such neighbour has a lesser number
pub record IsStep (m : Switches) (to s next : ℕ) : Type 0 where
  pub linked : is_linked m.nodes s next ≡ true
  pub living : is_living m next ≡ true
  pub nearer : distance m to next + 1 ≡ distance m to s
  pub least : (t : ℕ) → is_linked m.nodes s t ≡ true → distance m to t + 1 ≡ distance m to s → next ≤ t

-- what `enter` names: the walk from there is a shortest one, also among the paths from the node's other switch, and switch A
-- stands back only where the walk from B is shorter
pub record IsShortestEntry (m : Switches) (from to s : ℕ) : Type 0 where
  pub walk : IsShortestWalk m to s
  pub shortest : (t : ℕ) (path : List ℕ) → node_of t ≡ from → IsPathTo m to t path → distance m to s ≤ length path
  pub second : s ≡ 2 * from + 1 → distance m to s < distance m to (2 * from)

-- a and b are cut off, and no earlier pair is
pub record IsFirstCutOff (m : Switches) (a b : ℕ) : Type 0 where
  pub ordered : a ≤ b
  pub there : b < m.nodes
  pub apart : ¬ AreJoined m a b
  pub earlier : (c d : ℕ) → c ≤ d → d < m.nodes → (c < a) ⊎ ((c ≡ a) × (d < b)) → AreJoined m c d
