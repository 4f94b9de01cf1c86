-- A log: its entries, oldest first, and what they say of the start of an interval.
use Rattle.std.specs.Prelude.{◌≡◌, ℕ, ◌+◌, ◌<◌, ◌≤◌, Bool, true, false, ◌&&◌, ◌||◌, nat_eq, nat_le, max, if◌then◌else◌, List, [], ◌∷◌}
use Rattle.std.specs.Prelude.{◌++◌, length, Option, Some, None}
use Rattle.std.specs.List.{filter, AllPairs}
use Rattle.std.specs.Option.{option_map}
pub use Rattle.sn_base.specs.declared.log.LogEntry.{LogEntry}
pub use Rattle.sn_base.specs.declared.log.Old.{Old}
pub use Rattle.sn_base.specs.Entries.{is_home_side, is_of_side, is_about}

-- the entries of a log, oldest first, and how many it may hold
pub record LogData : Type 0 where
  pub entries : List LogEntry
  pub limit : ℕ

-- of an entry and perhaps another, the one with the lesser interval
abbrev pub earlier : LogEntry → Option LogEntry → LogEntry
earlier e None = e
earlier e (Some f) = if nat_le e.interval f.interval then e else f

-- of the entries of this side and block whose interval is at least k, the one with the least interval
abbrev pub entry_at : List LogEntry → Bool → ℕ → ℕ → Option LogEntry
entry_at [] home_side block k = None
entry_at (e ∷ es) home_side block k =
    if is_about home_side block e && nat_le k e.interval
    then Some (earlier e (entry_at es home_side block k))
    else entry_at es home_side block k

-- what that entry kept: what stood at checkpoint k, where the block has changed since
abbrev pub old_at : List LogEntry → Bool → ℕ → ℕ → Option Old
old_at es home_side block k = option_map (λ e. e.old) (entry_at es home_side block k)

-- whether there is an entry of this interval, side and block
abbrev pub has_entry : List LogEntry → ℕ → Bool → ℕ → Bool
has_entry [] interval home_side block = false
has_entry (e ∷ es) interval home_side block =
    (is_about home_side block e && nat_eq e.interval interval) || has_entry es interval home_side block

-- the log after a change of the block: the first one in an interval adds an entry
abbrev pub log_with_note : List LogEntry → ℕ → ℕ → Old → List LogEntry
log_with_note es interval block old =
    if has_entry es interval (is_home_side old) block
    then es
    else es ++ record { interval = interval; block = block; old = old } ∷ []

-- the entries whose interval is at least k
abbrev pub entries_from : ℕ → List LogEntry → List LogEntry
entries_from k es = filter (λ e. nat_le k e.interval) es

-- where the newest interval ends that has an entry of this side and block; 0 where there is none
abbrev pub logged_to : List LogEntry → Bool → ℕ → ℕ
logged_to [] home_side block = 0
logged_to (e ∷ es) home_side block = max (if is_about home_side block e then e.interval + 1 else 0) (logged_to es home_side block)

-- the entries of one side and block stand in growing intervals
abbrev pub IsGrowing : List LogEntry → Type 0
IsGrowing es = AllPairs (λ e f. is_about (is_home_side e.old) e.block f ≡ true → e.interval < f.interval) es

-- a log as it may be: not fuller than its limit, and growing
pub record IsLog (log : LogData) : Type 0 where
  pub within : length log.entries ≤ log.limit
  pub growing : IsGrowing log.entries
