-- What a fabric is made of, and the fabric that it stands for.
use Rattle.std.specs.Prelude.{◌≡◌, ℕ, ◌<◌, ◌%◌, true, List, [], length, map, slice_index_or}
use Rattle.std.specs.List.{range_with_len}
use Rattle.sn_base.specs.Config.{config_fits}
use Rattle.sn_base.specs.declared.config.Config.{Config}
use Rattle.switch_net.specs.Net.{NetData}
use Rattle.home_directory.specs.Home.{HomeData, IsHome, entry_of}
use Rattle.sn_model.specs.Caches.{block_count, empty_cache}
use Rattle.sn_model.specs.Homes.{HomeEntry}
use Rattle.sn_model.specs.Fabric.{Fabric, Node}
use Rattle.fabric_bounds.specs.Bounds.{KeepsBounds}
use Rattle.sn_fabric.specs.declared.node.NodeUnit.{NodeUnit}
use Rattle.sn_fabric.specs.Logs.{AreOwnLogs}
use Rattle.sn_fabric.specs.Nets.{net_as}

-- a node: its clock's numbers, its cache and its log
abbrev pub node_as : NodeUnit → Node
node_as x = record { now = x.clock.interval; known = x.clock.known; cache = x.cache.cache; log = x.log.entries }

-- the home of a node by its number; past the end one that is nobody's
abbrev pub no_home : HomeData
no_home = record { node = 0; nodes = 0; entries = [] }

abbrev pub home_at : List HomeData → ℕ → HomeData
home_at homes n = slice_index_or homes n no_home

-- the entry that a block has in its home
abbrev pub entry_at : List HomeData → ℕ → HomeEntry
entry_at homes block = entry_of (home_at homes (block % length homes)) block

-- the entries of all blocks, in order of their numbers
unfoldable pub homes_as : List HomeData → List HomeEntry
homes_as homes = map (entry_at homes) (range_with_len 0 block_count)

pub record Parts : Type 0 where
  pub units : List NodeUnit
  pub homes : List HomeData
  pub net : NetData
  pub point : ℕ

-- the fabric that the parts stand for
abbrev pub fabric_as : Parts → Fabric
fabric_as p = record { nodes = map node_as p.units; homes = homes_as p.homes; net = net_as p.net; point = p.point }

-- a node by its number; past the end one that is nobody's
abbrev pub no_unit : NodeUnit
no_unit = record {
  clock = record { interval = 0; known = 0 };
  cache = record { node = 0; nodes = 0; sets = 0; ways = 0; cache = empty_cache };
  log = record { entries = []; limit = 0 };
}

abbrev pub unit_at : List NodeUnit → ℕ → NodeUnit
unit_at units n = slice_index_or units n no_unit

-- a node that serves as node n, with these sizes
pub record IsUnit (config : Config) (n : ℕ) (x : NodeUnit) : Type 0 where
  pub node : x.cache.node ≡ n
  pub nodes : x.cache.nodes ≡ config.nodes
  pub sets : x.cache.sets ≡ config.sets
  pub ways : x.cache.ways ≡ config.ways
  pub limit : x.log.limit ≡ config.log

-- a home that is the one of node n
pub record IsHomeOf (config : Config) (n : ℕ) (h : HomeData) : Type 0 where
  pub node : h.node ≡ n
  pub nodes : h.nodes ≡ config.nodes
  pub whole : IsHome h

-- parts of which there is one for each node
pub record AreWhole (config : Config) (p : Parts) : Type 0 where
  pub fits : config_fits config ≡ true
  pub count : length p.units ≡ config.nodes
  pub count_homes : length p.homes ≡ config.nodes
  pub count_routes : p.net.routes.nodes ≡ config.nodes
  pub units : (n : ℕ) → n < config.nodes → IsUnit config n (unit_at p.units n)
  pub homes : (n : ℕ) → n < config.nodes → IsHomeOf config n (home_at p.homes n)

-- parts as they may be: all sentences of the coherence theorem hold of the fabric that they stand for, and so do its bounds;
-- and no log has an entry of another node's home
pub record AreParts (config : Config) (p : Parts) : Type 0 where
  pub whole : AreWhole config p
  pub keeps : KeepsBounds config (fabric_as p)
  pub logs : AreOwnLogs (fabric_as p)
