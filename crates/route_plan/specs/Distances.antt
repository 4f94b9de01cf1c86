-- How far the switches are from a node, over living switches.
use Rattle.std.specs.Prelude.{ℕ, zero, suc, ◌*◌, Bool, false, not, ◌&&◌, ◌||◌, nat_eq, nat_lt, if◌then◌else◌, List, slice_index_or}
use Rattle.route_plan.specs.Grid.{node_of, is_linked}

-- how many nodes there are, and the marks of the dead switches in order of their numbers
pub record Switches : Type 0 where
  pub nodes : ℕ
  pub dead : List Bool

-- the least number below a bound that passes a test; the bound where none does
unfoldable pub least_below : ℕ → (ℕ → Bool) → ℕ
least_below zero test = 0
least_below (suc bound) test = if test 0 then 0 else suc (least_below bound (λ k. test (suc k)))

unfoldable pub some_below : ℕ → (ℕ → Bool) → Bool
some_below bound test = nat_lt (least_below bound test) bound

abbrev pub is_dead : List Bool → ℕ → Bool
is_dead dead switch = slice_index_or dead switch false

unfoldable pub is_living : Switches → ℕ → Bool
is_living m switch = nat_lt switch (2 * m.nodes) && not (is_dead m.dead switch)

-- whether a switch comes to a node over at most so many links
unfoldable pub comes : Switches → ℕ → ℕ → ℕ → Bool
comes m to zero s = is_living m s && nat_eq (node_of s) to
comes m to (suc k) s = comes m to k s || (is_living m s && some_below (2 * m.nodes) (λ t. is_linked m.nodes s t && comes m to k t))

-- the least number of links from a switch to a switch of the node; 32, the number of all switches, where no path leads there
unfoldable pub distance : Switches → ℕ → ℕ → ℕ
distance m to s = least_below 32 (λ k. comes m to k s)
