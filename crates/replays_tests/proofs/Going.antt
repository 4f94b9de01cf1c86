-- A machine of one node that was made of a save file may go on with events for one node.
use Rattle.std.proofs.Common.{◌≡◌, ◌≤◌, ℕ, List, length, sym, subst}
use Rattle.std.specs.Prelude.{Option}
use Rattle.sn_base.specs.Image.{ImageData}
use Rattle.sn_base.specs.declared.event.Event.{Event}
use Rattle.sn_base.specs.declared.limits.TheConstants.{EVENTS}
use Rattle.consistent_cuts.specs.Runs.{AllFit}
use Rattle.sn_machine.specs.Machine.{MachineData}
use Rattle.sn_resume.specs.Going.{GoesOnFrom}
use Rattle.script_replay.specs.Played.{IsWatchable}
use Rattle.resumed_replay.specs.Shown.{MayGoOn, job_of}

pub may_go_on : (image : ImageData) (text : List ℕ) (m : MachineData) (watch : Option ℕ) (events : List Event) → GoesOnFrom image text m →
    m.config.nodes ≡ 1 → AllFit 1 events → length events ≤ EVENTS → IsWatchable watch → MayGoOn (job_of m watch events)
may_go_on image text m watch events h one fit few watched = record {
  saved = h.saved;
  led = h.led;
  run = record { fits = h.led.run.fits; events_fit = subst (λ n. AllFit n events) (sym one) fit };
  few = few;
  watched = watched;
}
