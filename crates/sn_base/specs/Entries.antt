-- Entries of a log: which side and block each is about, and where the last of one side and block stands.
use Rattle.std.specs.Prelude.{ℕ, ◌+◌, Bool, true, false, not, ◌&&◌, nat_eq, if◌then◌else◌, List, [], ◌∷◌, take, Option, Some, None}
use Rattle.sn_base.specs.declared.log.LogEntry.{LogEntry}
use Rattle.sn_base.specs.declared.log.Old.{Old}
use Rattle.sn_base.specs.declared.log.Old.TheVariants.{NotOwned, Owned, WasHome, WasCache}

-- whether an old content is of the home's side, or else of the cache's
abbrev pub is_home_side : Old → Bool
is_home_side NotOwned = false
is_home_side (Owned content) = false
is_home_side (WasHome content) = true
is_home_side (WasCache node) = true

-- whether an old content is of the side that is asked for: the home's (true) or the cache's (false)
abbrev pub is_of_side : Bool → Old → Bool
is_of_side home_side old = if home_side then is_home_side old else not (is_home_side old)

-- whether an entry is of this side and block
abbrev pub is_about : Bool → ℕ → LogEntry → Bool
is_about home_side block e = is_of_side home_side e.old && nat_eq e.block block

-- a place of the rest of a list, seen from its first entry; where the rest has none, the first entry's own if that is meant
abbrev pub place_seen : Bool → Option ℕ → Option ℕ
place_seen first None = if first then Some 0 else None
place_seen first (Some place) = Some (place + 1)

-- the place of the last entry of this side and block
abbrev pub last_place : List LogEntry → Bool → ℕ → Option ℕ
last_place [] home_side block = None
last_place (e ∷ es) home_side block = place_seen (is_about home_side block e) (last_place es home_side block)

-- the place of the last entry before this place that is of the side and block of e
abbrev pub place_before : List LogEntry → ℕ → LogEntry → Option ℕ
place_before es place e = last_place (take place es) (is_home_side e.old) e.block
