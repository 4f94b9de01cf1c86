-- Numbers that count. Each ends at the greatest number of 64 bits, and stops there.
use Rattle.std.specs.Prelude.{ℕ, zero, suc, ◌+◌, ◌-◌, ◌^◌, min, max, List, [], ◌∷◌, slice_set, slice_index, replicate}

-- a sum, or the greatest number of 64 bits
abbrev pub bounded_sum : ℕ → ℕ → ℕ
bounded_sum a b = min (a + b) (2 ^ 64 - 1)

-- so many more at a place of a list of numbers
abbrev pub with_more : List ℕ → ℕ → ℕ → List ℕ
with_more numbers place more = slice_set numbers place (bounded_sum (slice_index numbers place) more)

-- so many more at a place, and then so many fewer
abbrev pub with_change : List ℕ → ℕ → ℕ → ℕ → List ℕ
with_change numbers place more fewer = slice_set numbers place (bounded_sum (slice_index numbers place) more - fewer)

-- the greater of two at a place
abbrev pub with_greater : List ℕ → ℕ → ℕ → List ℕ
with_greater numbers place other = slice_set numbers place (max (slice_index numbers place) other)

-- one more for each of these places
abbrev pub with_one_each : List ℕ → List ℕ → List ℕ
with_one_each numbers [] = numbers
with_one_each numbers (place ∷ places) = with_one_each (with_more numbers place 1) places

-- the greater of two at each place below a number, where each place has its other
abbrev pub with_greatest_below : (ℕ → ℕ) → ℕ → List ℕ → List ℕ
with_greatest_below other zero numbers = numbers
with_greatest_below other (suc n) numbers = with_greater (with_greatest_below other n numbers) n (other n)

-- so many more at each place below a number, where each place has its own
abbrev pub with_more_below : (ℕ → ℕ) → ℕ → List ℕ → List ℕ
with_more_below more zero numbers = numbers
with_more_below more (suc n) numbers = with_more (with_more_below more n numbers) n (more n)

-- all of these added, each at its place
unfoldable pub with_all : List ℕ → List ℕ → List ℕ
with_all others numbers = with_more_below (slice_index others) 32 numbers

-- nothing counted yet, and how often each place is among these
abbrev pub no_numbers : List ℕ
no_numbers = replicate 32 0

abbrev pub times_named : List ℕ → List ℕ
times_named places = with_one_each no_numbers places
