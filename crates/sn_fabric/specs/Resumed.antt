-- The parts of a fabric that goes on from a recovery point.
use Rattle.std.specs.Prelude.{◌≡◌, ℕ, zero, suc, ◌<◌, true, List, [], ◌∷◌, ◌++◌, length, take, slice_index_or}
use Rattle.sn_base.specs.declared.config.Config.{Config}
use Rattle.sn_base.specs.declared.log.Old.{Old}
use Rattle.home_directory.specs.Home.{HomeData, entry_of, places_of}
use Rattle.home_directory.specs.Restored.{is_here}
use Rattle.mosi_cache.specs.Controller.{CacheData}
use Rattle.mosi_cache.specs.Restored.{HeldFits, old_of}
use Rattle.sn_model.specs.Caches.{block_count}
use Rattle.sn_model.specs.Homes.{HomeEntry}
use Rattle.sn_saved.specs.Resumed.{cache_resumed, content_owned, home_resumed}
use Rattle.sn_saved.specs.Saved.{owner_in}
use Rattle.sn_fabric.specs.declared.node.NodeUnit.{NodeUnit}
use Rattle.sn_fabric.specs.Parts.{home_at}

-- the content of a block in a list of all
abbrev pub content_in : List (List ℕ) → ℕ → List ℕ
content_in contents block = slice_index_or contents block []

-- a node at the recovery point, with what it owns in Modified and nothing in its log
abbrev pub unit_resumed : Config → List (List ℕ) → List (ℕ × ℕ) → ℕ → ℕ → NodeUnit
unit_resumed config contents owners point n = record {
  clock = record { interval = point; known = point };
  cache = record {
    node = n;
    nodes = config.nodes;
    sets = config.sets;
    ways = config.ways;
    cache = cache_resumed owners (content_in contents) n;
  };
  log = record { entries = []; limit = config.log };
}

-- the first so many nodes
abbrev pub units_resumed : ℕ → Config → List (List ℕ) → List (ℕ × ℕ) → ℕ → List NodeUnit
units_resumed zero config contents owners point = []
units_resumed (suc n) config contents owners point =
    units_resumed n config contents owners point ++ unit_resumed config contents owners point n ∷ []

-- what a cache holds once these owners are put back
abbrev pub held_with : List (List ℕ) → List (ℕ × ℕ) → ℕ → ℕ → Old
held_with contents owners node block = old_of (content_owned (owner_in owners block) node (content_in contents block))

-- on the way there is room: whichever of the first owners are put back, the cache fits
abbrev pub HasRoomFor : CacheData → ℕ → List (List ℕ) → List (ℕ × ℕ) → Type 0
HasRoomFor c node contents owners = (k : ℕ) → HeldFits c (held_with contents (take k owners) node)

-- the entries of a home, each of which is what these say of its block
abbrev pub HasEntries : HomeData → (ℕ → HomeEntry) → Type 0
HasEntries h entry = (block : ℕ) → block < block_count → is_here h block ≡ true → entry_of h block ≡ entry block

-- the home of a node, with an entry for each of its blocks, the contents, and the owners too
pub record IsHomeWith (n count : ℕ) (contents : List (List ℕ)) (owners : List (ℕ × ℕ)) (h : HomeData) : Type 0 where
  pub node : h.node ≡ n
  pub nodes : h.nodes ≡ count
  pub filled : length h.entries ≡ places_of n count
  pub entries : HasEntries h (home_resumed owners (content_in contents))

abbrev pub AreHomesResumed : ℕ → List (List ℕ) → List (ℕ × ℕ) → List HomeData → Type 0
AreHomesResumed nodes contents owners homes =
    (length homes ≡ nodes) × ((n : ℕ) → n < nodes → IsHomeWith n nodes contents owners (home_at homes n))
