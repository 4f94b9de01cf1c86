-- Counted calls, of which some are named to fail.
use Rattle.std.specs.Prelude.{ℕ, ◌+◌, ◌-◌, ◌^◌, ◌≤◌, Bool, ◌&&◌, nat_eq, nat_lt, List, All}
use Rattle.std.specs.List.{list_any}
use Rattle.sn_io.specs.Outside.{count_plus_one}

pub record CallsData : Type 0 where
  pub named : List ℕ
  pub made : ℕ

-- one more call was made
abbrev pub next_call : CallsData → CallsData
next_call c = record c { made = count_plus_one c.made }

-- whether the next call is one of those that are to fail: there is none past the last number of 64 bits
abbrev pub is_next_named : CallsData → Bool
is_next_named c = nat_lt c.made (2 ^ 64 - 1) && list_any (λ call. nat_eq call (c.made + 1)) c.named

-- no call that is to fail is still to come
pub record NoneToCome (c : CallsData) : Type 0 where
  pub past : All (λ call. call ≤ c.made) c.named
