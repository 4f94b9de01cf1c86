-- The entries of a home, of which those that weren't touched since its last recovery are as that left them.
use Rattle.std.specs.Prelude.{◌≡◌, ℕ, Bool, false, List, length, slice_index_or}
use Rattle.touched_places.specs.Touched.{is_marked}
use Rattle.sn_model.specs.Homes.{HomeEntry}
use Rattle.sn_model.specs.Fabric.{no_entry}
use Rattle.home_directory.specs.Restored.{entry_without_sharers}

-- an entry is as a recovery leaves it
abbrev pub IsCleared : HomeEntry → Type 0
IsCleared entry = entry_without_sharers entry ≡ entry

-- each entry is marked, or it is as a recovery leaves it
pub record AreCleared (marks : List Bool) (entries : List HomeEntry) : Type 0 where
  pub whole : length marks ≡ length entries
  pub others : (place : ℕ) → is_marked marks place ≡ false → IsCleared (slice_index_or entries place no_entry)
