-- What each node has to go back to: its part of the cut at a machine's recovery point.
use Rattle.std.specs.Prelude.{ℕ, zero, suc, ◌+◌, Bool, nat_eq, if◌then◌else◌, List, Option, Some, None}
use Rattle.rv_core.specs.declared.state.CoreState.{CoreState}
use Rattle.rv_core.specs.Core.{bare}
use Rattle.rv_core.specs.Flat.{core_at}
use Rattle.home_directory.specs.Home.{owner_of}
use Rattle.sn_model.specs.declared.home.Owner.{Owner}
use Rattle.sn_model.specs.declared.home.Owner.TheVariants.{Home, Cache}
use Rattle.sn_model.specs.Caches.{block_count}
use Rattle.sn_model.specs.Cuts.{names_at}
use Rattle.sn_model.specs.Fabric.{Fabric, home_node}
use Rattle.sn_model.specs.RecoveryPoint.{block_in}
use Rattle.sn_machine.specs.Machine.{MachineData, flat_of}

-- the node that a block belongs to: that of the cache that owns it, or of its home
abbrev pub keeper : Fabric → ℕ → Owner → ℕ
keeper s block Home = home_node s block
keeper s block (Cache node) = node

-- by its owner at the cut
abbrev pub keeper_at_cut : MachineData → ℕ → ℕ
keeper_at_cut m block = keeper m.state.fabric block (owner_of (names_at m.state.fabric block m.state.fabric.point))

-- the part of node n, by the flat machine after the committed trace: its core there with no reservation, and of each block
-- that belonged to the node at the cut its content there

abbrev pub part_core : MachineData → ℕ → CoreState
part_core m n = bare (core_at (flat_of m) n)

abbrev pub is_in_part : MachineData → ℕ → ℕ → Bool
is_in_part m n block = nat_eq (keeper_at_cut m block) n

abbrev pub part_block : MachineData → ℕ → ℕ → Option (List ℕ)
part_block m n block = if is_in_part m n block then Some (block_in (flat_of m).memory block) else None

-- how many of the first blocks are in it, and of all
unfoldable pub blocks_below : ℕ → MachineData → ℕ → ℕ
blocks_below zero m n = 0
blocks_below (suc block) m n = blocks_below block m n + (if is_in_part m n block then 1 else 0)

unfoldable pub part_size : MachineData → ℕ → ℕ
part_size m n = blocks_below block_count m n
