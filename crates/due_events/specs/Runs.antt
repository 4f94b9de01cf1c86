-- The events of a run that are due one after another.
use Rattle.std.specs.Prelude.{ℕ, List, [], ◌∷◌, Option, Some, None}
use Rattle.sn_base.specs.Image.{ImageData}
use Rattle.sn_base.specs.declared.config.Config.{Config}
use Rattle.sn_base.specs.declared.event.Event.{Event}
use Rattle.sn_base.specs.declared.rules.Rules.{Rules}
use Rattle.sn_model.specs.Machine.{State}
use Rattle.sn_model.specs.Step.{step_of}
use Rattle.due_events.specs.Numbers.{Numbers, numbers_after}
use Rattle.due_events.specs.Due.{due_of}

-- a driver's numbers after these events
abbrev pub numbers_along : ImageData → Config → State → Numbers → List Event → Numbers
numbers_along image config s x [] = x
numbers_along image config s x (event ∷ events) =
    numbers_along image config (step_of image config s event).state (numbers_after x event (step_of image config s event).answer) events

-- a turn: whose it is, and the number that it draws
pub record Draw : Type 0 where
  pub worker : ℕ
  pub pick : ℕ

-- an event and those after it; none where it isn't there
abbrev pub then_others : Option Event → (Event → List Event) → List Event
then_others None others = []
then_others (Some event) others = event ∷ others event

-- the events of these turns, up to the first in which none is due
abbrev pub events_due : Rules → ImageData → Config → State → Numbers → List Draw → List Event
events_due rules image config s x [] = []
events_due rules image config s x (draw ∷ draws) =
    then_others (due_of rules image config s x draw.worker draw.pick)
    (λ event. events_due rules image config (step_of image config s event).state
    (numbers_after x event (step_of image config s event).answer) draws)
