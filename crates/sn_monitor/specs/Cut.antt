-- The snapshot of a state.
use Rattle.std.specs.Prelude.{ℕ, zero, suc, List, [], ◌∷◌, ◌++◌, length}
use Rattle.sn_base.specs.Image.{ImageData}
use Rattle.sn_base.specs.declared.config.Config.{Config}
use Rattle.rv_core.specs.declared.state.CoreState.{CoreState}
use Rattle.rv_core.specs.Core.{bare}
use Rattle.rv_core.specs.Flat.{FlatState, core_at, word_at}
use Rattle.rv_core.specs.Execution.{end_of}
use Rattle.sn_model.specs.Machine.{State}
use Rattle.sn_machine.specs.Machine.{MachineData}
use Rattle.snap_board.specs.Snap.{SnapData}

-- the cores of the first so many nodes, each without a reservation
abbrev pub bare_cores : ℕ → FlatState → List CoreState
bare_cores zero flat = []
bare_cores (suc n) flat = bare_cores n flat ++ bare (core_at flat n) ∷ []

-- its recovery point, how many records are committed, and of the flat machine after them the cores and the word at an address
abbrev pub snap_of : ImageData → Config → ℕ → State → SnapData
snap_of image config watch s = record {
  point = s.fabric.point;
  committed = length s.committed;
  cores = bare_cores config.nodes (end_of image config.nodes s.committed);
  word = word_at (end_of image config.nodes s.committed).memory watch;
}

abbrev pub snap_now : MachineData → ℕ → SnapData
snap_now m watch = snap_of m.image m.config watch m.state
