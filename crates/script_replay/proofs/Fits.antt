-- That events fit.
use Rattle.std.proofs.Common.{ℕ, zero, suc, List, [], ◌∷◌, take}
use Rattle.sn_base.specs.declared.event.Event.{Event}
use Rattle.due_events.specs.ConsistentCutsRuns.{AllFit}

-- the first of events that fit do
pub all_fit-take : (nodes : ℕ) (events : List Event) (i : ℕ) → AllFit nodes events → AllFit nodes (take i events)
all_fit-take nodes events zero fit = tt
all_fit-take nodes [] (suc i) fit = tt
all_fit-take nodes (event ∷ events) (suc i) fit = (fit.0, all_fit-take nodes events i fit.1)
