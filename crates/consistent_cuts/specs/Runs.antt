-- Runs of the machine: lists of events that a machine of so many nodes takes.
use Rattle.std.specs.Prelude.{◌≡◌, ℕ, true, List, [], ◌∷◌, ⊤}
use Rattle.sn_base.specs.Events.{event_fits, block_fits}
use Rattle.sn_base.specs.declared.event.Event.{Event}

-- the nodes, the switch and the block that an event names are there
pub record EventFits (nodes : ℕ) (event : Event) : Type 0 where
  pub numbers : event_fits nodes event ≡ true
  pub block : block_fits event ≡ true

abbrev pub AllFit : ℕ → List Event → Type 0
AllFit nodes [] = ⊤
AllFit nodes (event ∷ events) = EventFits nodes event × AllFit nodes events
