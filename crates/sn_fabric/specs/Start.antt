-- The parts at the start.
use Rattle.std.specs.Prelude.{ℕ, zero, suc, List, [], ◌∷◌, ◌++◌}
use Rattle.sn_base.specs.Image.{ImageData}
use Rattle.sn_base.specs.declared.config.Config.{Config}
use Rattle.home_directory.specs.Home.{HomeData, first_of}
use Rattle.sn_model.specs.Caches.{empty_cache}
use Rattle.sn_fabric.specs.declared.node.NodeUnit.{NodeUnit}

-- a node with an empty cache and an empty log, in interval 0
abbrev pub first_unit : Config → ℕ → NodeUnit
first_unit config n = record {
  clock = record { interval = 0; known = 0 };
  cache = record { node = n; nodes = config.nodes; sets = config.sets; ways = config.ways; cache = empty_cache };
  log = record { entries = []; limit = config.log };
}

-- the first so many nodes
abbrev pub units_below : ℕ → Config → List NodeUnit
units_below zero config = []
units_below (suc n) config = units_below n config ++ first_unit config n ∷ []

-- the first so many homes, of all these nodes
abbrev pub homes_below : ℕ → ImageData → ℕ → List HomeData
homes_below zero image nodes = []
homes_below (suc n) image nodes = homes_below n image nodes ++ first_of image n nodes ∷ []
