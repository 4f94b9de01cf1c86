-- Where the entries of one side and block stand in a log: each entry has the place of the one before it, and a table that of the last.
use Rattle.std.specs.Prelude.{◌≡◌, ℕ, ◌<◌, ◌≤◌, ◌^◌, Bool, ◌&&◌, not, nat_eq, if◌then◌else◌, List, length, map}
use Rattle.std.specs.Prelude.{slice_index_or, Option, None, is_none}
pub use Rattle.sn_base.specs.Entries.{place_seen, last_place, place_before}
use Rattle.log_buffer.specs.Log.{LogEntry, is_home_side, IsLog}
pub use Rattle.log_buffer.specs.declared.places.Stored.{Stored}
pub use Rattle.log_buffer.specs.declared.places.Newest.{Newest}

-- the entries, without the places that stand in them
abbrev pub entries_of : List Stored → List LogEntry
entries_of stored = map (λ x. x.entry) stored

-- what the table has for this side and block
abbrev pub newest_of : Newest → Bool → ℕ → Option ℕ
newest_of newest home_side block = slice_index_or (if home_side then newest.home else newest.cache) block None

-- whether two sides and blocks are the same
abbrev pub are_same : Bool → ℕ → Bool → ℕ → Bool
are_same side block other_side other_block = (if other_side then side else not side) && nat_eq block other_block

-- where the entry before this one of its side and block stands now, by a table that is right for the entries before this one
abbrev pub place_now : Newest → Stored → Option ℕ
place_now newest x = if is_none x.older then None else newest_of newest (is_home_side x.entry.old) x.entry.block

-- each entry has the place of the last one before it of its side and block
abbrev pub IsLinked : List Stored → Type 0
IsLinked stored =
    (i : ℕ) (d : Stored) → i < length stored →
    (slice_index_or stored i d).older ≡ place_before (entries_of stored) i (slice_index_or stored i d).entry

-- the table has the place of the last entry of each side and block
abbrev pub HasLast : List LogEntry → Newest → Type 0
HasLast es newest =
    (home_side : Bool) (block : ℕ) → block < 65536 → newest_of newest home_side block ≡ last_place es home_side block

-- the places agree with the list
pub record IsIndexed (stored : List Stored) (newest : Newest) : Type 0 where
  pub linked : IsLinked stored
  pub last : HasLast (entries_of stored) newest

-- what the fields of a log keep: its entries are those of a log, the places agree with them, and there is room up to the limit
pub record IsIndexedLog (stored : List Stored) (newest : Newest) (limit capacity : ℕ) : Type 0 where
  pub log : IsLog (record { entries = entries_of stored; limit = limit })
  pub index : IsIndexed stored newest
  pub room : limit ≤ capacity
  pub few : limit < 2 ^ 16
