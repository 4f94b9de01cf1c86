-- What the probes are told in a replay: each event that is applied, once and in order, with its answer, numbers from 1.
use Rattle.std.specs.Prelude.{ℕ, List, [], ◌∷◌, map}
use Rattle.sn_base.specs.Image.{ImageData}
use Rattle.sn_base.specs.declared.config.Config.{Config}
use Rattle.sn_base.specs.declared.event.Event.{Event}
use Rattle.sn_model.specs.Machine.{State, start_of}
use Rattle.sn_model.specs.Step.{step_of}
use Rattle.sn_probe.specs.Probes.{Meter, Observation, told_from, tallies_of}
use Rattle.script_replay.specs.declared.job.Replay.{Replay}

-- these events, from this state on, each with its answer
abbrev pub answers_along : ImageData → Config → State → List Event → List Observation
answers_along image config s [] = []
answers_along image config s (event ∷ events) = let step = step_of image config s event in
    record { event = event; answer = step.answer } ∷ answers_along image config step.state events

-- probes that were told these events, which are the first of a replay
abbrev pub told_of_run : ImageData → Config → List Event → List Meter → List Meter
told_of_run image config events probes = map (told_from 1 (answers_along image config (start_of image config.nodes) events)) probes

-- probes that were told all events of a replay, and their tallies
abbrev pub told_all : Replay → List Meter → List Meter
told_all r probes = told_of_run r.program r.config r.script probes

abbrev pub tallies_due : Replay → List Meter → List (List ℕ)
tallies_due r probes = tallies_of (told_all r probes)
