-- What events leave of a machine.
use Rattle.std.proofs.Common.{◌≡◌, ℕ, ◌+◌, ◌≤◌, List, [], ◌∷◌, length, refl, arith}
use Rattle.sn_base.specs.declared.event.Event.{Event}
use Rattle.sn_machine.specs.Machine.{MachineData}
use Rattle.script_replay.specs.Played.{after_event, state_left}
use Rattle.rolled_replay.specs.Pieces.{after_events}

pub left-image : (m : MachineData) (events : List Event) → (after_events m events).image ≡ m.image
left-image m [] = refl
left-image m (event ∷ events) = left-image (after_event m event) events

pub left-config : (m : MachineData) (events : List Event) → (after_events m events).config ≡ m.config
left-config m [] = refl
left-config m (event ∷ events) = left-config (after_event m event) events

pub left-state : (m : MachineData) (events : List Event) → (after_events m events).state ≡ state_left m events
left-state m [] = refl
left-state m (event ∷ events) = left-state (after_event m event) events

-- each takes one place of its room
pub left-room : (m : MachineData) (events : List Event) (more : ℕ) → length events + more ≤ m.spare → more ≤ (after_events m events).spare
left-room m [] more l = omega (arith, l)
left-room m (event ∷ events) more l = left-room (after_event m event) events more (omega (arith, l))
