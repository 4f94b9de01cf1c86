-- What events leave of a machine.
use Rattle.std.proofs.Common.{◌≡◌, ℕ, ◌+◌, List, [], ◌∷◌, length, refl, ap, ◌∙◌, arith}
use Rattle.sn_base.specs.Image.{ImageData}
use Rattle.sn_base.specs.declared.config.Config.{Config}
use Rattle.sn_base.specs.declared.event.Event.{Event}
use Rattle.rv_core.specs.Flat.{first_cores}
use Rattle.sn_machine.specs.Machine.{MachineData}
use Rattle.script_replay.specs.Played.{after_event, state_left}
use Rattle.accesses_replay.specs.Pieces.{after_events}

pub left-image : (m : MachineData) (events : List Event) → (after_events m events).image ≡ m.image
left-image m [] = refl
left-image m (event ∷ events) = left-image (after_event m event) events

pub left-config : (m : MachineData) (events : List Event) → (after_events m events).config ≡ m.config
left-config m [] = refl
left-config m (event ∷ events) = left-config (after_event m event) events

pub left-state : (m : MachineData) (events : List Event) → (after_events m events).state ≡ state_left m events
left-state m [] = refl
left-state m (event ∷ events) = left-state (after_event m event) events

-- each was counted
pub left-applied : (m : MachineData) (events : List Event) → (after_events m events).applied ≡ m.applied + length events
left-applied m [] = omega arith
left-applied m (event ∷ events) = let more = left-applied (after_event m event) events in omega (arith, more)

-- the cores of its start are those of the program
pub left-cores : (m left : MachineData) (events : List Event) → left ≡ after_events m events →
    first_cores left.config.nodes left.image.entry ≡ first_cores m.config.nodes m.image.entry
left-cores m left events is =
    ap (λ (t : MachineData). first_cores t.config.nodes t.image.entry) is
    ∙ ap (λ (c : Config). first_cores c.nodes (after_events m events).image.entry) (left-config m events)
    ∙ ap (λ (i : ImageData). first_cores m.config.nodes i.entry) (left-image m events)
