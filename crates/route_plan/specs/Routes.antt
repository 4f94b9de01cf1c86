-- The routes: where a message to a node enters, where it goes on to, and which nodes no path joins.
use Rattle.std.specs.Prelude.{ℕ, ◌+◌, ◌*◌, Bool, ◌&&◌, nat_eq, nat_le, nat_lt, if◌then◌else◌, Option, Some, None}
use Rattle.route_plan.specs.Grid.{is_linked}
use Rattle.route_plan.specs.Distances.{Switches, least_below, distance}

-- the least-numbered neighbour that is one link nearer
unfoldable pub next_of : Switches → ℕ → ℕ → Option ℕ
next_of m to at =
    let next = least_below (2 * m.nodes) (λ t. is_linked m.nodes at t && nat_eq (distance m to t + 1) (distance m to at)) in
    if nat_lt next (2 * m.nodes) then Some next else None

-- the nearer switch of a node, A where both are as near
unfoldable pub enter_of : Switches → ℕ → ℕ → ℕ
enter_of m from to = if nat_le (distance m to (2 * from)) (distance m to (2 * from + 1)) then 2 * from else 2 * from + 1

-- whether no path leads from a switch of a to one of b
unfoldable pub is_cut_off : Switches → ℕ → ℕ → Bool
is_cut_off m a b = nat_eq (distance m b (2 * a)) 32 && nat_eq (distance m b (2 * a + 1)) 32

-- the least node that isn't below a and is cut off from it; the number of nodes where none is
unfoldable pub cut_off_from : Switches → ℕ → ℕ
cut_off_from m a = least_below m.nodes (λ b. nat_le a b && is_cut_off m a b)

-- the first pair that is cut off, in order of its lesser node and then of the other
unfoldable pub first_cut_off : Switches → Option (ℕ × ℕ)
first_cut_off m =
    let a = least_below m.nodes (λ a. nat_lt (cut_off_from m a) m.nodes) in
    if nat_lt a m.nodes then Some (a, cut_off_from m a) else None
