-- The nodes stand in a grid. Switch 2n is A(n), in the ring of node n's row; switch 2n + 1 is B(n), in the ring of its column.
use Rattle.std.specs.Prelude.{ℕ, zero, suc, ◌+◌, ◌-◌, ◌*◌, ◌/◌, ◌%◌, Bool, not, ◌&&◌, ◌||◌, nat_eq, nat_le, if◌then◌else◌}

-- the greatest number up to a bound that divides n and whose square is at most n
abbrev pub greatest_divisor : ℕ → ℕ → ℕ
greatest_divisor n zero = 1
greatest_divisor n (suc r) = if nat_eq (n % suc r) 0 && nat_le (suc r * suc r) n then suc r else greatest_divisor n r

unfoldable pub row_count : ℕ → ℕ
row_count nodes = greatest_divisor nodes nodes

unfoldable pub column_count : ℕ → ℕ
column_count nodes = nodes / row_count nodes

-- the node that has the switch, and whether it is its switch A
abbrev pub node_of : ℕ → ℕ
node_of switch = switch / 2

abbrev pub is_a : ℕ → Bool
is_a switch = nat_eq (switch % 2) 0

-- the next and the previous place, round a ring
abbrev pub after : ℕ → ℕ → ℕ
after size place = (place + 1) % size

abbrev pub before : ℕ → ℕ → ℕ
before size place = (place + size - 1) % size

-- A of the node that a step round the row leads to, B of the node that a step round the column leads to
unfoldable pub along : (ℕ → ℕ → ℕ) → ℕ → ℕ → ℕ
along step nodes switch =
    let columns = column_count nodes in
    let row = node_of switch / columns in
    let column = node_of switch % columns in
    if is_a switch then 2 * (row * columns + step columns column) else 2 * (step (row_count nodes) row * columns + column) + 1

-- the other switch of the same node
unfoldable pub partner : ℕ → ℕ
partner switch = if is_a switch then switch + 1 else switch - 1

-- a switch is linked with the next and the previous one of its ring and with its partner, and never with itself
unfoldable pub is_linked : ℕ → ℕ → ℕ → Bool
is_linked nodes s t = not (nat_eq s t) && (nat_eq t (along after nodes s) || nat_eq t (along before nodes s) || nat_eq t (partner s))
