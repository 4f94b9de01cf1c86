-- A turn: what it makes of a driver and of its machine.
use Rattle.std.specs.Prelude.{◌≡◌, ℕ, ◌+◌, ◌≤◌, true, false, Option, Some}
use Rattle.sn_base.specs.declared.event.Event.{Event}
use Rattle.due_events.specs.Machine.{MachineData, IsApplied}
use Rattle.due_events.specs.Numbers.{numbers_after}
use Rattle.due_events.specs.Due.{due_of, is_over}
use Rattle.sn_driver.specs.declared.turn.Turn.{Turn}
use Rattle.sn_driver.specs.declared.turn.Turn.TheVariants.{Did, Over, CutOff}
use Rattle.sn_driver.specs.Driver.{DriverData}

-- the due event of a worker and its pick
abbrev pub due_at : DriverData → MachineData → ℕ → ℕ → Option Event
due_at driver m worker pick = due_of driver.rules m.image m.config m.state driver.numbers worker pick

-- a turn: the due event was applied and counted; or nothing was due and all is as it was, since the machine is over, or, where
-- it isn't, since a recovery found these two nodes cut off
abbrev pub Took : DriverData → MachineData → ℕ → ℕ → Turn → DriverData → MachineData → Type 0
Took driver m worker pick (Did event answer) later after =
    (due_at driver m worker pick ≡ Some event) × IsApplied m after event answer × (later ≡ record driver { numbers = numbers_after driver.numbers event answer })
Took driver m worker pick Over later after = (is_over m.image m.config m.state ≡ true) × (later ≡ driver) × (after ≡ m)
Took driver m worker pick (CutOff a b) later after =
    (is_over m.image m.config m.state ≡ false) × (driver.numbers.cut_off ≡ Some (a, b)) × (later ≡ driver) × (after ≡ m)

-- what a turn leaves in any case: the rules and the sizes; and it took one event at most
pub record IsLater (driver : DriverData) (m : MachineData) (later : DriverData) (after : MachineData) : Type 0 where
  pub rules : later.rules ≡ driver.rules
  pub nodes : later.nodes ≡ driver.nodes
  pub image : after.image ≡ m.image
  pub config : after.config ≡ m.config
  pub done : later.numbers.done ≤ driver.numbers.done + 1
  pub spare : m.spare ≤ after.spare + 1
