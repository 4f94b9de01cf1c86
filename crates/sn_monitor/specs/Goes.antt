-- What a machine that is monitored keeps.
use Rattle.std.specs.Prelude.{◌≡◌, ℕ, ◌+◌, ◌%◌, ◌<◌, ◌≤◌, List, length}
use Rattle.sn_base.specs.Blocks.{ram_start, ram_size}
use Rattle.sn_model.specs.Machine.{State}
use Rattle.sn_machine.specs.Machine.{MachineData}
use Rattle.sn_driver.specs.Driver.{DriverData}
use Rattle.snap_board.specs.Snap.{SnapData}
use Rattle.snap_board.specs.Fronts.{EndsIn}

-- how many records there are, committed or not
abbrev pub records : State → ℕ
records s = length s.committed + length s.pending

-- an aligned address of memory
pub record IsWatchable (watch : ℕ) : Type 0 where
  pub low : ram_start ≤ watch
  pub high : watch < ram_start + ram_size
  pub aligned : watch % 4 ≡ 0

-- the driver is one for its machine and has counted no more than was applied, no more records are there, and the point that was
-- published last isn't above the machine's
pub record Goes (m : MachineData) (driver : DriverData) (published : List SnapData) : Type 0 where
  pub nodes : driver.nodes ≡ m.config.nodes
  pub done : driver.numbers.done ≤ m.applied
  pub life : m.applied + m.spare ≤ 4000000000
  pub few : records m.state ≤ m.applied
  pub below : (s : SnapData) → EndsIn published s → s.point ≤ m.state.fabric.point
