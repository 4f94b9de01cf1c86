-- Any run is lawful, since its first events are a run.
use Rattle.std.proofs.Common.{ℕ, List, take}
use Rattle.sn_base.specs.Image.{ImageData}
use Rattle.sn_base.specs.declared.config.Config.{Config}
use Rattle.sn_base.specs.declared.event.Event.{Event}
use Rattle.due_events.specs.Headline.{IsRun}
use Rattle.due_events.proofs.Run.{reached_consistent}
use Rattle.script_replay.specs.Shown.{IsLawful}
use Rattle.script_replay.proofs.Fits.{all_fit-take}

pub run-first : (config : Config) (events : List Event) (i : ℕ) → IsRun config events → IsRun config (take i events)
run-first config events i run = record { fits = run.fits; events_fit = all_fit-take config.nodes events i run.events_fit }

pub run-lawful : (image : ImageData) (config : Config) (events : List Event) → IsRun config events → IsLawful image config events
run-lawful image config events run i = reached_consistent image config (take i events) (run-first config events i run)
