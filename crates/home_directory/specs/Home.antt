-- A home as a value: the entries of the blocks of which a node is the home, in order of block numbers.
use Rattle.std.specs.Prelude.{◌≡◌, ℕ, zero, suc, ◌+◌, ◌-◌, ◌*◌, ◌/◌, ◌<◌, ◌≤◌, min, List, [], ◌∷◌, ◌++◌, slice_index_or, slice_set, length, replicate}
use Rattle.std.specs.Prelude.{Option, Some, None}
use Rattle.sn_base.specs.Image.{ImageData}
use Rattle.sn_model.specs.declared.home.Owner.{Owner}
use Rattle.sn_model.specs.declared.home.Owner.TheVariants.{Home, Cache}
use Rattle.sn_model.specs.Homes.{HomeEntry, Holder, Itself, OfCache, Transaction, no_sharers}
use Rattle.sn_model.specs.Fabric.{first_home, no_entry}

-- the node, how many nodes there are, and the entries: at place p that of block node + nodes * p
pub record HomeData : Type 0 where
  pub node : ℕ
  pub nodes : ℕ
  pub entries : List HomeEntry

-- the entry of a block of this home; a look-up past the end gives one that is nobody's
abbrev pub entry_of : HomeData → ℕ → HomeEntry
entry_of home block = slice_index_or home.entries (block / home.nodes) no_entry

abbrev pub with_entry : HomeData → ℕ → HomeEntry → HomeData
with_entry home block entry = record home { entries = slice_set home.entries (block / home.nodes) entry }

-- how many of the 65536 blocks of memory have their home at a node
abbrev pub places_of : ℕ → ℕ → ℕ
places_of node nodes = (65535 - node) / nodes + 1

-- the entry at the start of a block to which the program gives no byte but 0
abbrev pub usual_entry : HomeEntry
usual_entry = record { holder = Itself (replicate 64 0); sharers = no_sharers; transaction = None }

-- the first entries of a home at the start: it owns its blocks, with the bytes that the program gives them
abbrev pub entries_below : ℕ → ImageData → ℕ → ℕ → List HomeEntry
entries_below zero image node nodes = []
entries_below (suc place) image node nodes = entries_below place image node nodes ++ first_home image (node + nodes * place) ∷ []

-- the home of a node at the start
abbrev pub first_of : ImageData → ℕ → ℕ → HomeData
first_of image node nodes = record { node = node; nodes = nodes; entries = entries_below (places_of node nodes) image node nodes }

-- a home as it may be: it has an entry for each of its blocks
pub record IsHome (home : HomeData) : Type 0 where
  pub inside : home.node < home.nodes
  pub few : home.nodes ≤ 16
  pub filled : length home.entries ≡ places_of home.node home.nodes

-- the owner that an entry names
abbrev pub owner_of : Holder → Owner
owner_of (Itself content) = Home
owner_of (OfCache node) = Cache node

-- the node whose cache owns, if one does
abbrev pub cache_of : Holder → Option ℕ
cache_of (Itself content) = None
cache_of (OfCache node) = Some node

-- who owns a block by its owner's name and the content of memory, which counts where the home owns
abbrev pub holder_of : Owner → List ℕ → Holder
holder_of Home content = Itself content
holder_of (Cache node) content = OfCache node

-- the interval in which the open transaction, if any, was begun
abbrev pub begun_of : Option Transaction → Option ℕ
begun_of None = None
begun_of (Some transaction) = Some transaction.begun

-- the lesser of two intervals, where there are two
abbrev pub lesser_of : Option ℕ → Option ℕ → Option ℕ
lesser_of None other = other
lesser_of (Some interval) None = Some interval
lesser_of (Some interval) (Some other) = Some (min interval other)

-- the least interval in which one of the open transactions was begun
abbrev pub least_open : List HomeEntry → Option ℕ
least_open [] = None
least_open (entry ∷ entries) = lesser_of (begun_of entry.transaction) (least_open entries)
