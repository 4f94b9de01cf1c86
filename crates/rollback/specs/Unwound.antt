-- What a recovery leaves of what is held, and what holds on the way to it. What is held is a map from block to old
-- content, `NotOwned` where nothing is held of the block.
use Rattle.std.specs.Prelude.{◌≡◌, ℕ, Bool, false, ◌&&◌, ◌||◌, ◌⊎◌, nat_eq, nat_le, if◌then◌else◌, List, [], ◌∷◌, unwrap_or}
use Rattle.log_buffer.specs.Log.{is_of_side, is_about, old_at}
pub use Rattle.log_buffer.specs.Log.{LogEntry, Old}
use Rattle.sn_base.specs.declared.log.Old.TheVariants.{NotOwned}

-- what is held once the log is unwound to checkpoint k: each block has the old content of its entry of least interval
-- that is at least k, and all others stay
abbrev pub content_unwound : List LogEntry → Bool → ℕ → (ℕ → Old) → ℕ → Old
content_unwound log home_side k held block = unwrap_or (old_at log home_side block k) (held block)

-- what forgetting leaves of what is held of a block: the cache's side nothing, the home's all
abbrev pub content_left : Bool → Old → Old
content_left home_side held = if home_side then held else NotOwned

-- what is held once an entry of this block and old content is forgotten; entries of the other side are passed over
abbrev pub contents_after_loss : Bool → (ℕ → Old) → ℕ → Old → ℕ → Old
contents_after_loss home_side held block old b = if is_of_side home_side old && nat_eq block b then content_left home_side (held b) else held b

-- what is held once the old content is put back
abbrev pub contents_with_old : Bool → (ℕ → Old) → ℕ → Old → ℕ → Old
contents_with_old home_side held block old b = if is_of_side home_side old && nat_eq block b then old else held b

-- whether the log has an entry of this side and block whose interval is at least k
abbrev pub is_changed : List LogEntry → Bool → ℕ → ℕ → Bool
is_changed [] home_side block k = false
is_changed (e ∷ es) home_side block k = (is_about home_side block e && nat_le k e.interval) || is_changed es home_side block k

-- what is held once all entries from k on are forgotten
abbrev pub all_forgotten : List LogEntry → Bool → ℕ → (ℕ → Old) → ℕ → Old
all_forgotten log home_side k held b = if is_changed log home_side b k then content_left home_side (held b) else held b

-- what is held once the old contents of the first entries of a log are put back
abbrev pub some_restored : List LogEntry → List LogEntry → Bool → ℕ → (ℕ → Old) → ℕ → Old
some_restored first log home_side k held b = if is_changed first home_side b k then content_unwound log home_side k held b else held b

-- a map that holds of each block what another holds, or nothing
abbrev pub IsPart : (ℕ → Old) → (ℕ → Old) → Type 0
IsPart part whole = (b : ℕ) → (part b ≡ whole b) ⊎ (part b ≡ NotOwned)

-- a map on the way from one to another: each block is held as it is at last, or as forgetting leaves it
abbrev pub IsBetween : Bool → (ℕ → Old) → (ℕ → Old) → (ℕ → Old) → Type 0
IsBetween home_side before after between = (b : ℕ) → (between b ≡ after b) ⊎ (between b ≡ content_left home_side (before b))
