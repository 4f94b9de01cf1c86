-- What a log says of a block, and the three laws by which the block's row of cuts follows from its list of entries.
use Rattle.std.specs.Prelude.{◌≡◌, ◌≢◌, ◌⊎◌, ℕ, ◌+◌, ◌≤◌, Bool, true, false, List, Option, Some, None}
use Rattle.sn_base.specs.declared.log.Old.TheVariants.{Owned, WasHome, WasCache}
use Rattle.log_buffer.specs.Log.{LogEntry, Old, old_at, log_with_note, entries_from, logged_to, is_home_side}
use Rattle.sn_coherence.specs.Block.{Content, nothing, above, freed_below_cut, newest_freed}

-- What an entry says that there was: whether the cache owned the block; which content the owner had; whether the home
-- owned; which cache the home named. An entry of another side says what stands for none.
abbrev pub was_owned : Old → Bool
was_owned (Owned content) = true
was_owned _ = false

abbrev pub old_content : Old → Content
old_content (Owned content) = content
old_content (WasHome content) = content
old_content _ = nothing

abbrev pub was_home : Old → Bool
was_home (WasHome content) = true
was_home _ = false

abbrev pub old_cache : Old → ℕ
old_cache (WasCache node) = node
old_cache _ = 0

-- what an old content says, or what is now where there is none
abbrev pub old_or_now : {A : Type 0} → (Old → A) → Option Old → A → A
old_or_now says None now = now
old_or_now says (Some old) now = says old

-- What a log says of one side of a block at cut j. So a cache's log says `was_owned` of its line, and the home's log
-- `was_home` and `old_cache` of the owner.
abbrev pub told_at : {A : Type 0} → (Old → A) → List LogEntry → Bool → ℕ → A → ℕ → A
told_at says es home_side block now j = old_or_now says (old_at es home_side block j) now

-- Law of a note. Where no entry of the side lies above i, and the old content says what is now, a note under i and a
-- change to `new` leave each cut up to i, and say `new` at each above it; and the newest entry is of i.
pub record NoteLaw (A : Type 0) (says : Old → A) (es : List LogEntry) (i block : ℕ) (old : Old) (now new : A) : Type 0 where
  pub cuts : (j : ℕ) → told_at says (log_with_note es i block old) (is_home_side old) block new j
      ≡ above (told_at says es (is_home_side old) block now) i new j
  pub newest : logged_to (log_with_note es i block old) (is_home_side old) block ≡ i + 1
  -- the other side, and other blocks, are as before
  pub others : (home_side : Bool) (other j : ℕ) (was : A) → (home_side ≢ is_home_side old) ⊎ (other ≢ block) →
      told_at says (log_with_note es i block old) home_side other was j ≡ told_at says es home_side other was j
  pub others_newest : (home_side : Bool) (other : ℕ) → (home_side ≢ is_home_side old) ⊎ (other ≢ block) →
      logged_to (log_with_note es i block old) home_side other ≡ logged_to es home_side other

-- Law of no note. Above its newest entry a side says what is now; so a change without a note is one at these cuts alone.
abbrev pub NoNoteLaw : (A : Type 0) → (Old → A) → List LogEntry → Bool → ℕ → Type 0
NoNoteLaw A says es home_side block = (j : ℕ) (now : A) → logged_to es home_side block ≤ j → told_at says es home_side block now j ≡ now

-- Law of freeing. Without the entries below k each cut from k on is as before, and those below say what is said at k.
pub record FreeLaw (A : Type 0) (says : Old → A) (es : List LogEntry) (k : ℕ) (home_side : Bool) (block : ℕ) (now : A) : Type 0 where
  pub cuts : (j : ℕ) → told_at says (entries_from k es) home_side block now j ≡ freed_below_cut (told_at says es home_side block now) k j
  pub newest : logged_to (entries_from k es) home_side block ≡ newest_freed (logged_to es home_side block) k

-- The laws for all lists of entries.
abbrev pub NoteLaws : Type 0 → Type 0
NoteLaws A =
    (says : Old → A) (es : List LogEntry) (i block : ℕ) (old : Old) (now new : A) → logged_to es (is_home_side old) block ≤ i + 1 →
    says old ≡ now → NoteLaw A says es i block old now new

abbrev pub NoNoteLaws : Type 0 → Type 0
NoNoteLaws A = (says : Old → A) (es : List LogEntry) (home_side : Bool) (block : ℕ) → NoNoteLaw A says es home_side block

abbrev pub FreeLaws : Type 0 → Type 0
FreeLaws A =
    (says : Old → A) (es : List LogEntry) (k : ℕ) (home_side : Bool) (block : ℕ) (now : A) → FreeLaw A says es k home_side block now
