-- What a recovery asks of a node with its home, and what it leaves of them.
use Rattle.std.specs.Prelude.{◌≡◌, ℕ, ◌<◌, ◌^◌, true, false, List, [], length, None}
use Rattle.log_buffer.specs.Log.{LogEntry, old_at, entries_from}
use Rattle.rollback.specs.Unwound.{content_unwound}
use Rattle.sn_model.specs.Caches.{block_count, FitsSets}
use Rattle.sn_model.specs.PointEvents.{restored_cache}
use Rattle.home_directory.specs.Home.{HomeData}
use Rattle.home_directory.specs.Restored.{begun_restore, had, is_here, Stays}
use Rattle.sn_fabric.specs.declared.node.NodeUnit.{NodeUnit}
use Rattle.sn_fabric.specs.Parts.{unit_at, home_at}

-- the cut that a node's log and lines say fits its cache, and its log has home entries of its own blocks alone
pub record CanRestore (k : ℕ) (x : NodeUnit) (home : HomeData) : Type 0 where
  pub frames : FitsSets (restored_cache x.log.entries k x.cache.cache) x.cache.sets x.cache.ways
  pub own : (block : ℕ) → is_here home block ≡ false → old_at x.log.entries true block k ≡ None
  pub lines : length x.cache.cache.lines ≡ block_count
  pub few : length x.log.entries < 2 ^ 16

-- a node at checkpoint k, which it knows as the recovery point: its cache as it was there, and nothing in its log
abbrev pub restored_unit : ℕ → NodeUnit → NodeUnit
restored_unit k x = record {
  clock = record { interval = k; known = k };
  cache = record x.cache { cache = restored_cache x.log.entries k x.cache.cache };
  log = record x.log { entries = [] };
}

-- a home into which a log was unwound to checkpoint k
pub record IsRestoredHome (log : List LogEntry) (k : ℕ) (before after : HomeData) : Type 0 where
  pub held : (block : ℕ) → had after block ≡ content_unwound log true k (had (begun_restore before)) block
  pub stays : Stays (begun_restore before) after

-- how many entries of a node's log a recovery to checkpoint k undoes
abbrev pub undone_of : ℕ → NodeUnit → ℕ
undone_of k x = length (entries_from k x.log.entries)

-- each of these homes was put back by the log of its node
abbrev pub AreRestoredHomes : List NodeUnit → ℕ → List HomeData → List HomeData → Type 0
AreRestoredHomes units k before after =
    (n : ℕ) → n < length before → IsRestoredHome (unit_at units n).log.entries k (home_at before n) (home_at after n)
