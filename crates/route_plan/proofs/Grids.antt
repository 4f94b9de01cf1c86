-- how many rows and columns there are, and that each step along a ring leads to a switch that is there
use Rattle.std.proofs.Common.{◌≡◌, ℕ, zero, suc, ◌+◌, ◌-◌, ◌*◌, ◌/◌, ◌%◌, ◌<◌, ◌≤◌, Bool, true, false, cond, ◌&&◌, eqb, [], ◌∷◌, refl, ap}
use Rattle.std.proofs.Common.{arith}
use Rattle.std.proofs.lemmas.Bool.Decides.{nat_tests}
use Rattle.std.proofs.lemmas.Nat.{mul-add-lt, div_below, mod_below, div-add-mod'}
use Rattle.route_plan.specs.Grid.{greatest_divisor, row_count, column_count, after, before, along, partner, is_a}
use Rattle.route_plan.specs.Sizes.{IsGrid}

some_step : (b : Bool) (r g : ℕ) → 1 ≤ g → 1 ≤ cond b (suc r) g
some_step true r g h = omega arith
some_step false r g h = h

pub divisor-some : (n r : ℕ) → 1 ≤ greatest_divisor n r
divisor-some n zero = omega arith
divisor-some n (suc r) = some_step _ r (greatest_divisor n r) (divisor-some n r)

divides_step : (n r g : ℕ) (b : Bool) → n % g ≡ 0 → n % (cond (eqb (n % suc r) 0 && b) (suc r) g) ≡ 0
divides_step n r g b h = grind (arith, nat_tests)

pub divisor-divides : (n r : ℕ) → n % greatest_divisor n r ≡ 0
divisor-divides n zero = omega arith
divisor-divides n (suc r) = divides_step n r (greatest_divisor n r) _ (divisor-divides n r)

filled : (n r : ℕ) → n % r ≡ 0 → r * (n / r) ≡ n
filled n r e = omega (arith, div-add-mod' n r)

some_columns : (n r c : ℕ) → 1 ≤ n → r * c ≡ n → 1 ≤ c
some_columns n r zero l e = absurd (omega arith)
some_columns n r (suc c) l e = omega arith

pub grid_made : (n rows : ℕ) → 1 ≤ n → n ≤ 16 → rows ≡ row_count n → IsGrid n rows (n / rows)
unfolding row_count column_count
grid_made n rows l m e =
    let some : 1 ≤ rows = rw e (divisor-some n n) in
    let whole : rows * (n / rows) ≡ n = filled n rows (rw e (divisor-divides n n)) in
    record {
      few = m;
      in_rows = e;
      in_columns = ap (λ r. n / r) e;
      some_rows = some;
      some_columns = some_columns n rows (n / rows) l whole;
      filled = whole;
    }

-- the place that a row and a column have
place_below : (n rows columns row column : ℕ) → rows * columns ≡ n → row < rows → column < columns → row * columns + column < n
place_below n rows columns row column e l m = omega (arith, mul-add-lt row columns column rows l m)

row_below : (n rows columns node : ℕ) → rows * columns ≡ n → 1 ≤ columns → node < n → node / columns < rows
row_below n rows columns node e some l = div_below node columns rows (omega arith) (omega arith)

along_choice : (b : Bool) (x y n : ℕ) → x < n → y < n → cond b (2 * x) (2 * y + 1) < 2 * n
along_choice true x y n l m = omega arith
along_choice false x y n l m = omega arith

-- a step along a ring leads to a switch that is there, where it leads to a place of the ring
pub along-there : (step : ℕ → ℕ → ℕ) (n rows columns s : ℕ) → ((size place : ℕ) → 1 ≤ size → step size place < size) →
    IsGrid n rows columns → s < 2 * n → along step n s < 2 * n
unfolding along
along-there step n rows columns s stays g l =
    let node : s / 2 < n = omega arith in
    let C = column_count n in
    let R = row_count n in
    let some_c : 1 ≤ C = rw g.in_columns at g.some_columns in
    let some_r : 1 ≤ R = rw g.in_rows at g.some_rows in
    let whole : R * C ≡ n = rw (g.in_rows, g.in_columns) at g.filled in
    along_choice (is_a s) _ _ n
    (place_below n R C (s / 2 / C) (step C (s / 2 % C)) whole (row_below n R C (s / 2) whole some_c node) (stays C (s / 2 % C) some_c))
    (place_below n R C (step R (s / 2 / C)) (s / 2 % C) whole (stays R (s / 2 / C) some_r) (mod_below (s / 2) C some_c))

pub after-stays : (size place : ℕ) → 1 ≤ size → after size place < size
after-stays size place l = mod_below (place + 1) size l

pub before-stays : (size place : ℕ) → 1 ≤ size → before size place < size
before-stays size place l = mod_below (place + size - 1) size l

partner_choice : (s n : ℕ) → s < 2 * n → cond (eqb (s % 2) 0) (s + 1) (s - 1) < 2 * n
partner_choice s n l = grind (arith, nat_tests)

pub partner-there : (s n : ℕ) → s < 2 * n → partner s < 2 * n
unfolding partner
partner-there s n l = partner_choice s n l

-- a step along a row and along a column
pub along-row : (step : ℕ → ℕ → ℕ) (n rows columns s : ℕ) → IsGrid n rows columns → s % 2 ≡ 0 →
    along step n s ≡ 2 * (s / 2 / columns * columns + step columns (s / 2 % columns))
unfolding along
along-row step n rows columns s g e = rw (e, g.in_columns) refl

pub along-column : (step : ℕ → ℕ → ℕ) (n rows columns s : ℕ) → IsGrid n rows columns → s % 2 ≡ 1 →
    along step n s ≡ 2 * (step rows (s / 2 / columns) * columns + s / 2 % columns) + 1
unfolding along
along-column step n rows columns s g e = rw (e, g.in_columns, g.in_rows) refl

pub partner-a : (s : ℕ) → s % 2 ≡ 0 → partner s ≡ s + 1
unfolding partner
partner-a s e = rw e refl

pub partner-b : (s : ℕ) → s % 2 ≡ 1 → partner s ≡ s - 1
unfolding partner
partner-b s e = rw e refl

pub neighbours-a : (n rows columns s : ℕ) → IsGrid n rows columns → s % 2 ≡ 0 →
    2 * (s / 2 / columns * columns + after columns (s / 2 % columns)) ∷ 2 * (s / 2 / columns * columns + before columns (s / 2 % columns))
    ∷ (s + 1) ∷ [] ≡
    along after n s ∷ along before n s ∷ partner s ∷ []
neighbours-a n rows columns s g e = rw (along-row after n rows columns s g e, along-row before n rows columns s g e, partner-a s e) refl

pub neighbours-b : (n rows columns s : ℕ) → IsGrid n rows columns → s % 2 ≡ 1 →
    (2 * (after rows (s / 2 / columns) * columns + s / 2 % columns) + 1)
    ∷ (2 * (before rows (s / 2 / columns) * columns + s / 2 % columns) + 1) ∷ (s - 1) ∷ [] ≡
    along after n s ∷ along before n s ∷ partner s ∷ []
neighbours-b n rows columns s g e =
    rw (along-column after n rows columns s g e, along-column before n rows columns s g e, partner-b s e) refl

pub grid_of : (n : ℕ) → 1 ≤ n → n ≤ 16 → IsGrid n (row_count n) (n / row_count n)
grid_of n l m = grid_made n (row_count n) l m refl

pub after-there : (n s : ℕ) → 1 ≤ n → n ≤ 16 → s < 2 * n → along after n s < 2 * n
after-there n s l m h = along-there after n _ _ s after-stays (grid_of n l m) h

pub before-there : (n s : ℕ) → 1 ≤ n → n ≤ 16 → s < 2 * n → along before n s < 2 * n
before-there n s l m h = along-there before n _ _ s before-stays (grid_of n l m) h
