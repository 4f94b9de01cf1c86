-- What the clauses of stores and sinks cite.
use Rattle.std.specs.Prelude.{ℕ, ◌+◌, ◌-◌, ◌^◌, ◌≤◌, List, ◌++◌, length, min, nat_lt, if◌then◌else◌, Option, Some, None, Result, Ok, Err}
use Rattle.sn_io.specs.declared.outside.Fetched.{Fetched}
use Rattle.sn_io.specs.declared.outside.Fetched.TheVariants.{Whole, Longer}
use Rattle.sn_io.specs.declared.outside.StoreFault.{StoreFault}

-- a count of 64 bits, one higher, where there is a higher value
abbrev pub count_plus_one : ℕ → ℕ
count_plus_one count = min (count + 1) (2 ^ 64 - 1)

-- the count rose, or stands at the last value of its type
abbrev pub Rose : ℕ → ℕ → Type 0
Rose before now_ = count_plus_one before ≤ now_

-- what was written, followed by more, where it is told
abbrev pub followed_by : Option (List ℕ) → List ℕ → Option (List ℕ)
followed_by None bytes = None
followed_by (Some written) bytes = Some (written ++ bytes)

-- what a fetch came to
pub data Found : Type 0 where
  File : (bytes : List ℕ) → Found
  TooLong : Found
  Missing : Found

-- what a store that doesn't fail finds within a limit
abbrev pub found_in : Option (List ℕ) → ℕ → Found
found_in None limit = Missing
found_in (Some bytes) limit = if nat_lt limit (length bytes) then TooLong else File bytes

-- what an answer of `fetch` and the bytes that it left say was found
abbrev pub found_of : Result Fetched StoreFault → List ℕ → Found
found_of (Ok Whole) bytes = File bytes
found_of (Ok Longer) bytes = TooLong
found_of (Err fault) bytes = Missing
